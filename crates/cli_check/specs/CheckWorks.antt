-- The work of `check`, as a function.
use Rattle.std.specs.Prelude.{ℕ, if◌then◌else◌, nat_lt, false, List, [], length, codes, Result, Ok, Err}
use Rattle.pico_board.specs.declared.boot.Cpu.{Cpu}
use Rattle.pico_board.specs.Content.{Content}
use Rattle.boot_script.specs.Scripts.{script_events}
use Rattle.boot_cuts.specs.Found.{trace_limit}
use Rattle.boot_tape.specs.Traces.{trace}
use Rattle.check_require.specs.declared.meeting.Verdict.{Verdict as Judgement}
use Rattle.check_require.specs.declared.meeting.Verdict.TheVariants as judgements
use Rattle.check_require.specs.declared.requirement.RequireFault.{RequireFault}
use Rattle.check_require.specs.Meeting.{unmet, verdict_on}
use Rattle.check_require.specs.Requires.{RequireView}
use Rattle.cli_course.specs.Outcomes.{Work, Answers, Judges, Refuses, Verdict, Passes, IsUnbootable, IsMixed, HasNoEffect, IsRefused, IsUnmet}
use Rattle.cli_check.specs.CheckTexts.{check_text}
use Rattle.cli_check.specs.Finding.{findings_of}
use Rattle.cli_check.specs.Findings.{FindingsView}
use Rattle.cli_check.specs.Reporting.{report_of}

abbrev pub verdict_of : Judgement → Verdict
verdict_of judgements.Passed = Passes
verdict_of judgements.Mixed = IsMixed
verdict_of judgements.Unbootable = IsUnbootable
verdict_of judgements.Refused = IsRefused
verdict_of judgements.NoEffect = HasNoEffect
verdict_of judgements.Unmet = IsUnmet

-- the text and the verdict of what is found, by what is asked
abbrev pub found_work : RequireView → FindingsView → Work
found_work ask f =
    Judges (verdict_of (verdict_on ask (report_of f))) (check_text f (unmet ask (report_of f)))

-- a script of too many steps is refused; else it is judged by what is found of it, by what is asked
abbrev pub check_work : Content → Cpu → List ℕ → List ℕ → List ℕ → RequireView → Work
check_work c cpu name script pattern ask =
    if nat_lt trace_limit (length (trace c cpu (script_events script)).done)
    then Refuses name (codes "too-many-steps")
    else found_work ask (findings_of c cpu (script_events script) pattern)

-- the same by a text of what is asked; one that does not have its form is refused before the work
abbrev pub asked_work : Content → Cpu → List ℕ → List ℕ → List ℕ
    → Result RequireView RequireFault → Work
asked_work c cpu name script pattern (Ok ask) = check_work c cpu name script pattern ask
asked_work c cpu name script pattern (Err fault) = Answers false [] []
