use Rattle.std.proofs.Common.{◌≡◌, ◌+◌, ◌*◌, ◌++◌, length, take}
use Rattle.std.specs.List.{flat_map}
use Rattle.text_words.specs.Writing.{hex_digits}
use Rattle.text_lines.proofs.commands.put_digest.Given as goal

abbrev pub invariant-loop-byte : goal.invariant-loop-byte
invariant-loop-byte l = record {
  bytes : l.line.bytes ≡ l.fn.line.bytes ++ flat_map (hex_digits 2) (take l.byte-index l.digest);
  len : length l.line.bytes ≡ length l.fn.line.bytes + 2 * l.byte-index;
}
