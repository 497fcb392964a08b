use Rattle.std.proofs.Common.{refl}
use Rattle.std.specs.Fmt.{padded_integral, digits, char_count}
use Rattle.hex.specs.Hex.{decode_pairs, encode_with}
use Rattle.block_codec.specs.Words.{word_bytes, word_of}
use Rattle.script_words.proofs.examples.numbers.Goals as goal

pub returns-clause-most : goal.returns-clause-most
unfolding encode_with decode_pairs padded_integral digits char_count word_bytes word_of
returns-clause-most c = refl

pub returns-clause-more : goal.returns-clause-more
unfolding encode_with decode_pairs padded_integral digits char_count word_bytes word_of
returns-clause-more c = refl

pub returns-clause-zeros : goal.returns-clause-zeros
unfolding encode_with decode_pairs padded_integral digits char_count word_bytes word_of
returns-clause-zeros c = refl

pub returns-clause-eleven : goal.returns-clause-eleven
unfolding encode_with decode_pairs padded_integral digits char_count word_bytes word_of
returns-clause-eleven c = refl

pub returns-clause-byte : goal.returns-clause-byte
unfolding encode_with decode_pairs padded_integral digits char_count word_bytes word_of
returns-clause-byte c = refl

pub returns-clause-past_byte : goal.returns-clause-past_byte
unfolding encode_with decode_pairs padded_integral digits char_count word_bytes word_of
returns-clause-past_byte c = refl

pub returns-clause-sign : goal.returns-clause-sign
unfolding encode_with decode_pairs padded_integral digits char_count word_bytes word_of
returns-clause-sign c = refl

pub returns-clause-named : goal.returns-clause-named
unfolding encode_with decode_pairs padded_integral digits char_count word_bytes word_of
returns-clause-named c = refl

pub returns-clause-unnamed : goal.returns-clause-unnamed
unfolding encode_with decode_pairs padded_integral digits char_count word_bytes word_of
returns-clause-unnamed c = refl
