use Rattle.std.proofs.Common.{refl}
use Rattle.std.specs.Fmt.{padded_integral, digits, char_count}
use Rattle.hex.specs.Hex.{decode_pairs, encode_with}
use Rattle.block_codec.specs.Words.{word_bytes, word_of}
use Rattle.script_words.proofs.examples.bytes_of_words.Goals as goal

pub returns-clause-either_case : goal.returns-clause-either_case
unfolding encode_with decode_pairs padded_integral digits char_count word_bytes word_of
returns-clause-either_case c = refl

pub returns-clause-odd : goal.returns-clause-odd
unfolding encode_with decode_pairs padded_integral digits char_count word_bytes word_of
returns-clause-odd c = refl

pub returns-clause-more : goal.returns-clause-more
unfolding encode_with decode_pairs padded_integral digits char_count word_bytes word_of
returns-clause-more c = refl

pub returns-clause-fewer : goal.returns-clause-fewer
unfolding encode_with decode_pairs padded_integral digits char_count word_bytes word_of
returns-clause-fewer c = refl

pub returns-clause-dash : goal.returns-clause-dash
unfolding encode_with decode_pairs padded_integral digits char_count word_bytes word_of
returns-clause-dash c = refl
