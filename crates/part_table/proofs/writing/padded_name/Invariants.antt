use Rattle.std.proofs.Common.{◌≡◌, ◌+◌, ◌∷◌, ◌++◌, length, replicate}
use Rattle.part_table.proofs.writing.padded_name.Given as goal

abbrev pub invariant-loop-i : goal.invariant-loop-i
invariant-loop-i l = record {
  so_far : l.bytes.items ≡ length l.name ∷ l.name ++ replicate l._i 0;
  long : length l.bytes.items ≡ 1 + length l.name + l._i;
}
