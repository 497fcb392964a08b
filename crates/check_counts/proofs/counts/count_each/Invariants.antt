use Rattle.std.proofs.Common.{◌≡◌, drop, length, take}
use Rattle.check_counts.specs.Tallies.{counted_each}
use Rattle.check_counts.proofs.counts.count_each.Given as goal

abbrev pub invariant-loop-i : goal.invariant-loop-i
invariant-loop-i l = record {
  done : take l.i l.counts ≡ counted_each (take l.i l.initial.counts) (take l.i l.each);
  left : drop l.i l.counts ≡ drop l.i l.initial.counts;
  long : length l.counts ≡ length l.initial.counts;
}
