use Rattle.std.proofs.Common.{◌≡◌, take, string_bytes}
use Rattle.std.specs.List.{flat_map}
use Rattle.text_words.specs.Writing.{hex_digits}
use Rattle.cli_tools.proofs.generating.digest_word.Given as goal

abbrev pub invariant-loop-byte : goal.invariant-loop-byte
invariant-loop-byte l = string_bytes l.text ≡ flat_map (hex_digits 2) (take l.byte-index l.digest)
