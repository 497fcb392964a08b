use Rattle.std.proofs.Common.{◌≡◌, ℕ, take}
use Rattle.std.specs.Prelude.{IsTrue, IfSome, find, reverse}
use Rattle.load_map.specs.Given.{load_has_address}
use Rattle.load_map.specs.Stored.{AreStoredIn, IsStoredIn}
use Rattle.load_map.proofs.given.last_holding.Given as goal

abbrev pub invariant-loop-load : goal.invariant-loop-load
invariant-loop-load l = record {
  last : l.last ≡ find (load_has_address l.address) (reverse (take l.load-index l.loads));
  held : IfSome l.last (λ load. IsTrue (load_has_address l.address load));
  stored : (n : ℕ) → AreStoredIn n l.loads → IfSome l.last (λ load. IsStoredIn n load.storage load.size);
}
