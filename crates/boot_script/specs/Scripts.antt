-- The events of a script, one after another.
use Rattle.std.specs.Prelude.{ℕ, zero, suc, Bool, true, false, Result, Ok, Err, List, [], ◌∷◌, ◌++◌, ◌≡◌, ◌+◌, ◌-◌, if◌then◌else◌, length, drop}
use Rattle.boot_script.specs.declared.event.ScriptFault.{ScriptFault}
use Rattle.boot_script.specs.declared.event.ScriptFault.TheVariants.{Kind, Short, Pattern}
use Rattle.boot_script.specs.Events.{EventView, End, IsWellFormed}
use Rattle.boot_script.specs.Written.{written_event}
use Rattle.boot_script.specs.Reading.{event_in}

-- the script ends there
abbrev pub is_end : EventView → Bool
is_end End = true
is_end e = false

-- these events, and then those that are read of the rest
abbrev pub events_behind : List EventView → Result (List EventView) ScriptFault
    → Result (List EventView) ScriptFault
events_behind es (Ok others) = Ok (es ++ others)
events_behind es (Err fault) = Err fault

-- the event that was read at an offset, and then the others; the others are read from the byte
-- after it
abbrev pub then_others : ℕ → List ℕ → Result EventView ScriptFault
    → (ℕ → List ℕ → Result (List EventView) ScriptFault) → Result (List EventView) ScriptFault
then_others at bs (Err fault) others = Err fault
then_others at bs (Ok e) others =
    if is_end e then Ok []
    else events_behind (e ∷ []) (others (at + length (written_event e))
    (drop (length (written_event e)) bs))

-- the events of bytes that stand at an offset, up to the first end, in so many steps at most
abbrev pub events_within : ℕ → ℕ → List ℕ → Result (List EventView) ScriptFault
events_within zero at bs = Err (Short at)
events_within (suc k) at bs = then_others at bs (event_in at bs) (events_within k)

-- the events from an offset on before the first end, or the first fault; each event has a byte, so
-- one step more than there are bytes is enough
abbrev pub events_from : List ℕ → ℕ → Result (List EventView) ScriptFault
events_from bytes at = events_within (suc (length bytes - at)) at (drop at bytes)

-- the events of a script
abbrev pub events : List ℕ → Result (List EventView) ScriptFault
events bytes = events_from bytes 0

-- the events that were read; none where there is a fault
abbrev pub events_read : Result (List EventView) ScriptFault → List EventView
events_read (Ok es) = es
events_read (Err fault) = []

-- the events of a script, of bytes that have no fault before an end
abbrev pub script_events : List ℕ → List EventView
script_events bytes = events_read (events bytes)

-- an event that is none of the ends of a script
pub record IsBeforeEnd (e : EventView) : Type 0 where
  pub well : IsWellFormed e
  pub more : is_end e ≡ false

-- the same fault of an event that stands n bytes later
abbrev pub moved_fault : ℕ → ScriptFault → ScriptFault
moved_fault n (Kind at) = Kind (n + at)
moved_fault n (Short at) = Short (n + at)
moved_fault n (Pattern at) = Pattern (n + at)

-- what is read of bytes that stand n bytes later
abbrev pub later : ℕ → Result (List EventView) ScriptFault → Result (List EventView) ScriptFault
later n (Ok es) = Ok es
later n (Err fault) = Err (moved_fault n fault)
