use Rattle.std.proofs.Common.{◌≡◌, ◌≤◌, ◌+◌, ◌-◌, length}
use Rattle.image_check.specs.SameImage.{AgreeFrom}
use Rattle.boot_cuts.proofs.tails.same_range.Given as goal

abbrev pub invariant-loop-done : goal.invariant-loop-done
invariant-loop-done g l = record {
  inside : l.done ≤ l.size;
  first_long : length l.first ≡ 4096;
  second_long : length l.second ≡ 4096;
  agree : AgreeFrom (g.V.View.bytes l.one) (g.W.View.bytes l.two) l.start (l.start + l.done);
}

abbrev pub decreases-loop-done : goal.decreases-loop-done
decreases-loop-done g l = l.size - l.done
