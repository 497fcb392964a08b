-- The walk over the events of a script, one after another.
use Rattle.std.specs.Prelude.{ℕ, ◌≡◌, ◌≤◌, List, [], ◌∷◌, length, Option, MatchOption}
use Rattle.boot_script.specs.declared.event.Event.{Event}
use Rattle.boot_script.specs.declared.limits.TheConstants.{SCRIPT_LIMIT}
use Rattle.boot_script.specs.Events.{EventView, IsWritableEvent, event_from}
use Rattle.boot_script.specs.Scripts.{events_from, events_read}
use Rattle.boot_script.specs.Judging.{IsEnded}

-- the events from an offset on before the first end
abbrev pub events_left : List ℕ → ℕ → List EventView
events_left bytes at = events_read (events_from bytes at)

-- a walk stands at an offset from which on an end comes without a fault
pub record IsWalk (bytes : List ℕ) (at : ℕ) : Type 0 where
  pub short : length bytes ≤ SCRIPT_LIMIT
  pub inside : at ≤ length bytes
  pub most : ℕ
  pub ended : IsEnded most bytes at

-- a walk that had the events `left` gave the first of them, which the machine serves, and has the
-- others; or the walk had no event, and has none
abbrev pub GivesFirst : List EventView → Option Event → List EventView → Type 0
GivesFirst left given others =
    MatchOption given ((left ≡ []) × (others ≡ []))
    (λ e. (left ≡ event_from e ∷ others) × IsWritableEvent (event_from e))
