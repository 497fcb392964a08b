use Rattle.std.proofs.Common.{ℕ, List, ◌<◌, ◌≤◌, ◌++◌, length, take}
use Rattle.std.specs.List.{flat_map}
use Rattle.sha2.specs.Hashers.{Holds256}
use Rattle.load_map.specs.Covered.{covered_load}
use Rattle.load_map.proofs.digest.add_loads.Given as goal

abbrev pub invariant-loop-load : goal.invariant-loop-load
invariant-loop-load g l = record {
  some : 0 < length l.piece;
  few : length l.piece ≤ 4096;
  fed : (m : List ℕ) → Holds256 l.fn.hasher m
      → Holds256 l.hasher (m ++ flat_map (covered_load (g.V.View.bytes l.view)) (take l.load-index l.loads));
}
