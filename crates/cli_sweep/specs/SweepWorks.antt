-- The work of `sweep`, as a function, and its refusals.
use Rattle.std.specs.Prelude.{ℕ, false, List, [], ◌++◌, Option, Some, None, codes, decimal}
use Rattle.pico_board.specs.declared.boot.Cpu.{Cpu}
use Rattle.pico_board.specs.Content.{Content}
use Rattle.boot_sweep.specs.declared.error.SweepError.{SweepError}
use Rattle.boot_sweep.specs.declared.error.SweepError.TheVariants.{NotConfined, NotGated, TooManySteps, FormerInSlot, Memory, TableChanged}
use Rattle.boot_sweep.specs.Refusals.{sweep_refusal}
use Rattle.boot_session.specs.Scripts.{script_session}
use Rattle.boot_sweep.specs.Sweeps.{sweep_text}
use Rattle.cli_course.specs.Outcomes.{Work, Answers, Refuses}

-- why a session is not swept; missing memory is never the reason
abbrev pub sweep_fault : SweepError → List ℕ
sweep_fault (NotConfined k) = codes "not-confined " ++ decimal k
sweep_fault (NotGated k) = codes "not-gated " ++ decimal k
sweep_fault TooManySteps = codes "too-many-steps"
sweep_fault FormerInSlot = codes "former-in-slot"
sweep_fault Memory = codes "memory"
sweep_fault TableChanged = codes "table-changed"

-- a session is refused for a reason, by the script, or its lines are printed
abbrev pub swept_work : List ℕ → List ℕ → Option SweepError → Work
swept_work script text (Some reason) = Refuses script (sweep_fault reason)
swept_work script text None = Answers false text []

-- the session of a script on a content is swept, or refused
abbrev pub sweep_work : Content → Cpu → List ℕ → List ℕ → List ℕ → Work
sweep_work c cpu script bytes pattern =
    let steps = script_session c cpu bytes in swept_work script (sweep_text c cpu pattern steps)
    (sweep_refusal c cpu steps)
