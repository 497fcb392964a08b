use Rattle.std.proofs.Common.{ℕ, List, ◌+◌, ◌-◌, ◌<◌, ◌≤◌, ◌++◌, length}
use Rattle.std.specs.Prelude.{slice_range}
use Rattle.sha2.specs.Hashers.{Holds256}
use Rattle.load_map.proofs.digest.add_range.Given as goal

abbrev pub invariant-loop-done : goal.invariant-loop-done
invariant-loop-done g l = record {
  some : 0 < length l.piece;
  few : length l.piece ≤ 4096;
  inside : l.done ≤ l.size;
  fed : (m : List ℕ) → Holds256 l.fn.hasher m
      → Holds256 l.hasher (m ++ slice_range (g.V.View.bytes l.view) l.start (l.start + l.done));
}

abbrev pub decreases-loop-done : goal.decreases-loop-done
decreases-loop-done g l = l.size - l.done
