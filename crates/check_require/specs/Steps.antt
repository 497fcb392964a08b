-- Steps of which the first fault is the answer.
use Rattle.std.specs.Prelude.{Result, Ok, Err}
use Rattle.check_require.specs.declared.requirement.RequireFault.{RequireFault}

infixl 10 ◌>>=◌
-- a step, and where it has no fault the step after it
abbrev pub ◌>>=◌ : {A B : Type 0} → Result A RequireFault → (A → Result B RequireFault)
    → Result B RequireFault
Ok x >>= next = next x
Err fault >>= next = Err fault
