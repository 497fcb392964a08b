use Rattle.std.proofs.Common.{refl}
use Rattle.std.specs.Fmt.{padded_integral, digits, char_count}
use Rattle.hex.specs.Hex.{decode_pairs, encode_with}
use Rattle.uf2_place.specs.Blocks.{word_bytes, written_block}
use Rattle.script_words.proofs.examples.blocks.lines_of_blocks.Goals as goal

pub returns-clause-read : goal.returns-clause-read
unfolding encode_with decode_pairs padded_integral digits char_count word_bytes written_block
returns-clause-read c = refl

pub returns-clause-gives : goal.returns-clause-gives
unfolding encode_with decode_pairs padded_integral digits char_count word_bytes written_block
returns-clause-gives c = refl

pub returns-clause-listed : goal.returns-clause-listed
unfolding encode_with decode_pairs padded_integral digits char_count word_bytes written_block
returns-clause-listed c = refl

pub returns-clause-of_image : goal.returns-clause-of_image
unfolding encode_with decode_pairs padded_integral digits char_count word_bytes written_block
returns-clause-of_image c = refl

pub returns-clause-rest_of_image : goal.returns-clause-rest_of_image
unfolding encode_with decode_pairs padded_integral digits char_count word_bytes written_block
returns-clause-rest_of_image c = refl

pub returns-clause-end_of_image : goal.returns-clause-end_of_image
unfolding encode_with decode_pairs padded_integral digits char_count word_bytes written_block
returns-clause-end_of_image c = refl
