-- What is covered of so many loads was fed.
use Rattle.std.proofs.Common.{ℕ, List, ◌++◌, take}
use Rattle.std.specs.List.{flat_map}
use Rattle.sha2.specs.Hashers.{Holds256}
use Rattle.image_pack.specs.Sealing.{covered_part}
use Rattle.image_pack.proofs.text.add_loads.Given as goal

abbrev pub invariant-loop-load : goal.invariant-loop-load
invariant-loop-load l = (m : List ℕ) → Holds256 l.fn.hasher m
    → Holds256 l.hasher (m ++ flat_map (covered_part l.bytes) (take l.load-index l.loads))
