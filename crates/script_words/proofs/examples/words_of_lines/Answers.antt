use Rattle.std.proofs.Common.{refl}
use Rattle.std.specs.Fmt.{padded_integral, digits, char_count}
use Rattle.hex.specs.Hex.{decode_pairs, encode_with}
use Rattle.block_codec.specs.Words.{word_bytes, word_of}
use Rattle.script_words.proofs.examples.words_of_lines.Goals as goal

pub returns-clause-none : goal.returns-clause-none
unfolding encode_with decode_pairs padded_integral digits char_count word_bytes word_of
returns-clause-none c = refl

pub returns-clause-blanks : goal.returns-clause-blanks
unfolding encode_with decode_pairs padded_integral digits char_count word_bytes word_of
returns-clause-blanks c = refl

pub returns-clause-comment : goal.returns-clause-comment
unfolding encode_with decode_pairs padded_integral digits char_count word_bytes word_of
returns-clause-comment c = refl

pub returns-clause-one : goal.returns-clause-one
unfolding encode_with decode_pairs padded_integral digits char_count word_bytes word_of
returns-clause-one c = refl

pub returns-clause-two : goal.returns-clause-two
unfolding encode_with decode_pairs padded_integral digits char_count word_bytes word_of
returns-clause-two c = refl

pub returns-clause-behind : goal.returns-clause-behind
unfolding encode_with decode_pairs padded_integral digits char_count word_bytes word_of
returns-clause-behind c = refl

pub returns-clause-other : goal.returns-clause-other
unfolding encode_with decode_pairs padded_integral digits char_count word_bytes word_of
returns-clause-other c = refl
