use Rattle.std.proofs.Common.{refl}
use Rattle.std.specs.Fmt.{padded_integral, digits, char_count}
use Rattle.hex.specs.Hex.{decode_pairs, encode_with}
use Rattle.block_codec.specs.Words.{word_bytes, word_of}
use Rattle.script_words.proofs.examples.lines_by_bytes.Goals as goal

pub returns-clause-later : goal.returns-clause-later
unfolding encode_with decode_pairs padded_integral digits char_count word_bytes word_of
returns-clause-later c = refl

pub returns-clause-transfer : goal.returns-clause-transfer
unfolding encode_with decode_pairs padded_integral digits char_count word_bytes word_of
returns-clause-transfer c = refl

pub returns-clause-unread : goal.returns-clause-unread
unfolding encode_with decode_pairs padded_integral digits char_count word_bytes word_of
returns-clause-unread c = refl
