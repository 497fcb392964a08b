use Rattle.std.proofs.Common.{refl}
use Rattle.std.specs.Fmt.{padded_integral, digits, char_count}
use Rattle.hex.specs.Hex.{decode_pairs, encode_with}
use Rattle.block_codec.specs.Words.{word_bytes, word_of}
use Rattle.script_text.specs.Comments.{command_text, uf2_counts, uf2_target, uf2_text}
use Rattle.script_text.proofs.examples.texts.Goals as goal

pub returns-clause-none : goal.returns-clause-none
unfolding encode_with command_text uf2_text padded_integral digits char_count decode_pairs uf2_counts uf2_target word_bytes word_of
returns-clause-none c = refl

pub returns-clause-comments : goal.returns-clause-comments
unfolding encode_with command_text uf2_text padded_integral digits char_count decode_pairs uf2_counts uf2_target word_bytes word_of
returns-clause-comments c = refl

pub returns-clause-no_end : goal.returns-clause-no_end
unfolding encode_with command_text uf2_text padded_integral digits char_count decode_pairs uf2_counts uf2_target word_bytes word_of
returns-clause-no_end c = refl

pub returns-clause-behind_the_end : goal.returns-clause-behind_the_end
unfolding encode_with command_text uf2_text padded_integral digits char_count decode_pairs uf2_counts uf2_target word_bytes word_of
returns-clause-behind_the_end c = refl

pub returns-clause-spaced : goal.returns-clause-spaced
unfolding encode_with command_text uf2_text padded_integral digits char_count decode_pairs uf2_counts uf2_target word_bytes word_of
returns-clause-spaced c = refl

pub returns-clause-first_of_two : goal.returns-clause-first_of_two
unfolding encode_with command_text uf2_text padded_integral digits char_count decode_pairs uf2_counts uf2_target word_bytes word_of
returns-clause-first_of_two c = refl

pub returns-clause-of_image : goal.returns-clause-of_image
unfolding encode_with command_text uf2_text padded_integral digits char_count decode_pairs uf2_counts uf2_target word_bytes word_of
returns-clause-of_image c = refl

pub returns-clause-second_end : goal.returns-clause-second_end
unfolding encode_with command_text uf2_text padded_integral digits char_count decode_pairs uf2_counts uf2_target word_bytes word_of
returns-clause-second_end c = refl
