use Rattle.std.proofs.Common.{refl}
use Rattle.std.specs.Fmt.{padded_integral, digits, char_count}
use Rattle.hex.specs.Hex.{decode_pairs, encode_with}
use Rattle.block_codec.specs.Words.{word_bytes, word_of}
use Rattle.script_words.proofs.examples.bytes_of_images.Goals as goal

pub returns-clause-range : goal.returns-clause-range
unfolding encode_with decode_pairs padded_integral digits char_count word_bytes word_of
returns-clause-range c = refl

pub returns-clause-past : goal.returns-clause-past
unfolding encode_with decode_pairs padded_integral digits char_count word_bytes word_of
returns-clause-past c = refl

pub returns-clause-rest : goal.returns-clause-rest
unfolding encode_with decode_pairs padded_integral digits char_count word_bytes word_of
returns-clause-rest c = refl

pub returns-clause-rest_at_end : goal.returns-clause-rest_at_end
unfolding encode_with decode_pairs padded_integral digits char_count word_bytes word_of
returns-clause-rest_at_end c = refl

pub returns-clause-no_image : goal.returns-clause-no_image
unfolding encode_with decode_pairs padded_integral digits char_count word_bytes word_of
returns-clause-no_image c = refl
