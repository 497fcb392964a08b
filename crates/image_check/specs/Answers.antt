-- Answers that may be faults, one after another.
use Rattle.std.specs.Prelude.{Option, Some, None, Result, Ok, Err}

-- what follows an answer, unless it is a fault
abbrev pub and_then : {A B F : Type 0} → Result A F → (A → Result B F) → Result B F
and_then (Ok value) next = next value
and_then (Err fault) next = Err fault

-- what follows a rule, unless it fails
abbrev pub and_unless : {B F : Type 0} → Option F → Result B F → Result B F
and_unless None next = next
and_unless (Some fault) next = Err fault

-- the fault under another name
abbrev pub fault_as : {A F G : Type 0} → (F → G) → Result A F → Result A G
fault_as name (Ok value) = Ok value
fault_as name (Err fault) = Err (name fault)

-- the value, or this fault where there is none
abbrev pub or_fault : {A F : Type 0} → Option A → F → Result A F
or_fault (Some value) fault = Ok value
or_fault None fault = Err fault
