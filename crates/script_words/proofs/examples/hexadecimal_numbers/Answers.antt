use Rattle.std.proofs.Common.{refl}
use Rattle.std.specs.Fmt.{padded_integral, digits, char_count}
use Rattle.hex.specs.Hex.{decode_pairs, encode_with}
use Rattle.block_codec.specs.Words.{word_bytes, word_of}
use Rattle.script_words.proofs.examples.hexadecimal_numbers.Goals as goal

pub returns-clause-one : goal.returns-clause-one
unfolding encode_with decode_pairs padded_integral digits char_count word_bytes word_of
returns-clause-one c = refl

pub returns-clause-either_case : goal.returns-clause-either_case
unfolding encode_with decode_pairs padded_integral digits char_count word_bytes word_of
returns-clause-either_case c = refl

pub returns-clause-none : goal.returns-clause-none
unfolding encode_with decode_pairs padded_integral digits char_count word_bytes word_of
returns-clause-none c = refl

pub returns-clause-nine : goal.returns-clause-nine
unfolding encode_with decode_pairs padded_integral digits char_count word_bytes word_of
returns-clause-nine c = refl

pub returns-clause-no_prefix : goal.returns-clause-no_prefix
unfolding encode_with decode_pairs padded_integral digits char_count word_bytes word_of
returns-clause-no_prefix c = refl

pub returns-clause-other_prefix : goal.returns-clause-other_prefix
unfolding encode_with decode_pairs padded_integral digits char_count word_bytes word_of
returns-clause-other_prefix c = refl

pub returns-clause-row : goal.returns-clause-row
unfolding encode_with decode_pairs padded_integral digits char_count word_bytes word_of
returns-clause-row c = refl

pub returns-clause-row_of_four : goal.returns-clause-row_of_four
unfolding encode_with decode_pairs padded_integral digits char_count word_bytes word_of
returns-clause-row_of_four c = refl

pub returns-clause-range : goal.returns-clause-range
unfolding encode_with decode_pairs padded_integral digits char_count word_bytes word_of
returns-clause-range c = refl

pub returns-clause-no_size : goal.returns-clause-no_size
unfolding encode_with decode_pairs padded_integral digits char_count word_bytes word_of
returns-clause-no_size c = refl

pub returns-clause-three : goal.returns-clause-three
unfolding encode_with decode_pairs padded_integral digits char_count word_bytes word_of
returns-clause-three c = refl

pub returns-clause-some : goal.returns-clause-some
unfolding encode_with decode_pairs padded_integral digits char_count word_bytes word_of
returns-clause-some c = refl

pub returns-clause-empty : goal.returns-clause-empty
unfolding encode_with decode_pairs padded_integral digits char_count word_bytes word_of
returns-clause-empty c = refl

pub returns-clause-rest : goal.returns-clause-rest
unfolding encode_with decode_pairs padded_integral digits char_count word_bytes word_of
returns-clause-rest c = refl

pub returns-clause-two_signs : goal.returns-clause-two_signs
unfolding encode_with decode_pairs padded_integral digits char_count word_bytes word_of
returns-clause-two_signs c = refl

pub returns-clause-family : goal.returns-clause-family
unfolding encode_with decode_pairs padded_integral digits char_count word_bytes word_of
returns-clause-family c = refl

pub returns-clause-family_name : goal.returns-clause-family_name
unfolding encode_with decode_pairs padded_integral digits char_count word_bytes word_of
returns-clause-family_name c = refl

pub returns-clause-no_family : goal.returns-clause-no_family
unfolding encode_with decode_pairs padded_integral digits char_count word_bytes word_of
returns-clause-no_family c = refl
