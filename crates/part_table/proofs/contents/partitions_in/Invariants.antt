use Rattle.std.proofs.Common.{◌≡◌, ◌-◌, ◌≤◌, ◌++◌, length, drop, option_map}
use Rattle.part_table.specs.Partitions.{partitions_in}
use Rattle.part_table.proofs.contents.partitions_in.Given as goal

abbrev pub invariant-loop-i : goal.invariant-loop-i
invariant-loop-i l = record {
  rest : partitions_in l.count l.words
      ≡ option_map (λ ps. l.parts.items ++ ps) (partitions_in (l.count - l._i) (drop l.at l.words));
  long : length l.parts.items ≡ l._i;
  inside : l.at ≤ length l.words;
}
