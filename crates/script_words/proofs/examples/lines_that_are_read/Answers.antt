use Rattle.std.proofs.Common.{refl}
use Rattle.std.specs.Fmt.{padded_integral, digits, char_count}
use Rattle.hex.specs.Hex.{decode_pairs, encode_with}
use Rattle.block_codec.specs.Words.{word_bytes, word_of}
use Rattle.script_words.proofs.examples.lines_that_are_read.Goals as goal

pub returns-clause-power : goal.returns-clause-power
unfolding encode_with decode_pairs padded_integral digits char_count word_bytes word_of
returns-clause-power c = refl

pub returns-clause-erase : goal.returns-clause-erase
unfolding encode_with decode_pairs padded_integral digits char_count word_bytes word_of
returns-clause-erase c = refl

pub returns-clause-token : goal.returns-clause-token
unfolding encode_with decode_pairs padded_integral digits char_count word_bytes word_of
returns-clause-token c = refl

pub returns-clause-rest : goal.returns-clause-rest
unfolding encode_with decode_pairs padded_integral digits char_count word_bytes word_of
returns-clause-rest c = refl

pub returns-clause-range : goal.returns-clause-range
unfolding encode_with decode_pairs padded_integral digits char_count word_bytes word_of
returns-clause-range c = refl

pub returns-clause-rows : goal.returns-clause-rows
unfolding encode_with decode_pairs padded_integral digits char_count word_bytes word_of
returns-clause-rows c = refl

pub returns-clause-info : goal.returns-clause-info
unfolding encode_with decode_pairs padded_integral digits char_count word_bytes word_of
returns-clause-info c = refl
