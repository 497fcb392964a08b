use Rattle.std.proofs.Common.{refl}
use Rattle.std.specs.Fmt.{padded_integral, digits, char_count}
use Rattle.hex.specs.Hex.{decode_pairs, encode_with}
use Rattle.block_codec.specs.Words.{word_bytes, word_of}
use Rattle.script_text.specs.Comments.{command_text, uf2_counts, uf2_target, uf2_text}
use Rattle.script_text.proofs.examples.comments_of_reboots.Goals as goal

pub returns-clause-normal : goal.returns-clause-normal
unfolding encode_with command_text uf2_text padded_integral digits char_count decode_pairs uf2_counts uf2_target word_bytes word_of
returns-clause-normal c = refl

pub returns-clause-normal_later : goal.returns-clause-normal_later
unfolding encode_with command_text uf2_text padded_integral digits char_count decode_pairs uf2_counts uf2_target word_bytes word_of
returns-clause-normal_later c = refl

pub returns-clause-bootsel : goal.returns-clause-bootsel
unfolding encode_with command_text uf2_text padded_integral digits char_count decode_pairs uf2_counts uf2_target word_bytes word_of
returns-clause-bootsel c = refl

pub returns-clause-bootsel_later : goal.returns-clause-bootsel_later
unfolding encode_with command_text uf2_text padded_integral digits char_count decode_pairs uf2_counts uf2_target word_bytes word_of
returns-clause-bootsel_later c = refl

pub returns-clause-update : goal.returns-clause-update
unfolding encode_with command_text uf2_text padded_integral digits char_count decode_pairs uf2_counts uf2_target word_bytes word_of
returns-clause-update c = refl

pub returns-clause-update_later : goal.returns-clause-update_later
unfolding encode_with command_text uf2_text padded_integral digits char_count decode_pairs uf2_counts uf2_target word_bytes word_of
returns-clause-update_later c = refl

pub returns-clause-ram : goal.returns-clause-ram
unfolding encode_with command_text uf2_text padded_integral digits char_count decode_pairs uf2_counts uf2_target word_bytes word_of
returns-clause-ram c = refl

pub returns-clause-ram_later : goal.returns-clause-ram_later
unfolding encode_with command_text uf2_text padded_integral digits char_count decode_pairs uf2_counts uf2_target word_bytes word_of
returns-clause-ram_later c = refl

pub returns-clause-others : goal.returns-clause-others
unfolding encode_with command_text uf2_text padded_integral digits char_count decode_pairs uf2_counts uf2_target word_bytes word_of
returns-clause-others c = refl

pub returns-clause-one : goal.returns-clause-one
unfolding encode_with command_text uf2_text padded_integral digits char_count decode_pairs uf2_counts uf2_target word_bytes word_of
returns-clause-one c = refl
