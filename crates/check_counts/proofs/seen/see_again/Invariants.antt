use Rattle.std.proofs.Common.{◌≡◌, drop, length, take}
use Rattle.std.specs.Prelude.{map}
use Rattle.check_counts.specs.Tallies.{seen_again}
use Rattle.check_counts.proofs.seen.see_again.Given as goal

abbrev pub invariant-loop-one : goal.invariant-loop-one
invariant-loop-one l = record {
  done : take l.one-index l.seen ≡ map (seen_again l.list) (take l.one-index l.initial.seen);
  left : drop l.one-index l.seen ≡ drop l.one-index l.initial.seen;
  long : length l.seen ≡ length l.initial.seen;
}
