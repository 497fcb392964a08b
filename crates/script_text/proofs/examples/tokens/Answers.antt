use Rattle.std.proofs.Common.{refl}
use Rattle.std.specs.Fmt.{padded_integral, digits, char_count}
use Rattle.hex.specs.Hex.{decode_pairs, encode_with}
use Rattle.block_codec.specs.Words.{word_bytes, word_of}
use Rattle.script_text.specs.Comments.{command_text, uf2_counts, uf2_target, uf2_text}
use Rattle.script_text.proofs.examples.tokens.Goals as goal

pub returns-clause-other : goal.returns-clause-other
unfolding encode_with command_text uf2_text padded_integral digits char_count decode_pairs uf2_counts uf2_target word_bytes word_of
returns-clause-other c = refl

pub returns-clause-command : goal.returns-clause-command
unfolding encode_with command_text uf2_text padded_integral digits char_count decode_pairs uf2_counts uf2_target word_bytes word_of
returns-clause-command c = refl

pub returns-clause-last : goal.returns-clause-last
unfolding encode_with command_text uf2_text padded_integral digits char_count decode_pairs uf2_counts uf2_target word_bytes word_of
returns-clause-last c = refl
