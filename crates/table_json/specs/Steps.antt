-- Steps of which the first fault is the answer.
use Rattle.std.specs.Prelude.{Result, Ok, Err}
use Rattle.table_json.specs.declared.fault.JsonFault.{JsonFault}

infixl 10 ◌>>=◌
-- a step, and where it has no fault the step after it
abbrev pub ◌>>=◌ : {A B : Type 0} → Result A JsonFault → (A → Result B JsonFault)
    → Result B JsonFault
Ok x >>= next = next x
Err fault >>= next = Err fault
