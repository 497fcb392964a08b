-- The bytes that were put into a sink.
use Rattle.std.specs.Prelude.{◌≡◌, ◌≢◌, ℕ, ◌≤◌, Bool, IsTrue, Option, None, Some, Result, Ok, Err, List, [], ◌∷◌, ◌++◌, length, take}
use Rattle.std.specs.Bool.{OnTrue}
use Rattle.pico_board.specs.declared.sink.SinkFail.{SinkFail}
use Rattle.pico_board.specs.declared.sink.SinkFail.TheVariants.{Fault}
use Rattle.pico_board.specs.Board.{Rose}
use Rattle.pico_board.specs.Histories.{Extends}

-- what is known of a sink: the bytes put so far, where it tells them; how many puts were at fault;
-- and whether it is steady, that is, tells that it has no faults of its own
pub record SinkState : Type 0 where
  pub bytes : Option (List ℕ)
  pub faults : ℕ
  pub steady : Bool

-- a put: its bytes, and what it answered
pub record Put : Type 0 where
  pub bytes : List ℕ
  pub answer : Result (Unit {0}) SinkFail

-- the count does not fall, and a steady sink stays steady
pub record PutsOn (s t : SinkState) : Type 0 where
  pub faults : s.faults ≤ t.faults
  pub steady : OnTrue s.steady (IsTrue t.steady)

-- told bytes are told afterwards, with these appended
abbrev pub IsPut : Option (List ℕ) → List ℕ → Option (List ℕ) → Type 0
IsPut None bytes new = new ≡ None
IsPut (Some old) bytes new = new ≡ Some (old ++ bytes)

-- told bytes are told afterwards, with a prefix of these appended
abbrev pub IsPutInPart : Option (List ℕ) → List ℕ → Option (List ℕ) → Type 0
IsPutInPart None bytes new = new ≡ None
IsPutInPart (Some old) bytes new = (n : ℕ) × (n ≤ length bytes) × (new ≡ Some (old ++ take n bytes))

-- told bytes are told afterwards, with those of the put appended, or a prefix of them where it
-- failed
abbrev pub IsPutBy : Option (List ℕ) → List ℕ → Result (Unit {0}) SinkFail → Option (List ℕ)
    → Type 0
IsPutBy old bytes (Ok done) new = IsPut old bytes new
IsPutBy old bytes (Err fail) new = IsPutInPart old bytes new

-- The old sink takes the put, and is then the new one; the put is appended to the history. Where
-- the put is at fault, the count of faults rose (it saturates). A steady sink never faults.
pub record Takes {K : Type 0} (state : K → SinkState) (history : K → List Put → Type 0) (old : K)
    (put : Put) (new : K) : Type 0 where
  pub bytes : IsPutBy (state old).bytes put.bytes put.answer (state new).bytes
  pub counts : PutsOn (state old) (state new)
  pub fault : put.answer ≡ Err Fault → Rose (state old).faults (state new).faults
  pub steady : IsTrue (state old).steady → put.answer ≢ Err Fault
  pub recorded : Extends history old (put ∷ []) new

-- the old sink takes these puts, in their order, and is then the new one; each put is appended to
-- the history
abbrev pub TakesAll : {K : Type 0} → (K → SinkState) → (K → List Put → Type 0) → K → List Put → K
    → Type 0
TakesAll state history old [] new = new ≡ old
TakesAll state history old (put ∷ puts) new = (mid : _) × Takes state history old put mid
    × TakesAll state history mid puts new
