-- The work of `check` by the length of a script's trace, and by the content of a copy.
use Rattle.std.proofs.Common.{◌≡◌, ◌∙◌, ℕ, ◌<◌, ◌≤◌, List, length, codes, ap}
use Rattle.std.specs.Prelude.{if◌then◌else◌}
use Rattle.std.proofs.lemmas.Bool.{le-ltb, lt-ltb}
use Rattle.pico_board.specs.declared.boot.Cpu.{Cpu}
use Rattle.pico_board.specs.Content.{Content}
use Rattle.boot_script.specs.Scripts.{script_events}
use Rattle.boot_cuts.specs.Found.{trace_limit}
use Rattle.boot_tape.specs.Traces.{trace}
use Rattle.check_require.specs.declared.meeting.Verdict.{Verdict as Judgement}
use Rattle.check_require.specs.declared.members.Member.{Member}
use Rattle.check_require.specs.Meeting.{unmet, verdict_on}
use Rattle.check_require.specs.Reports.{ReportView}
use Rattle.check_require.specs.Requires.{RequireView}
use Rattle.cli_course.specs.declared.status.Status.{Status}
use Rattle.cli_course.specs.Outcomes.{AnswerView, Work, Refuses, ended, verdict_status, worked}
use Rattle.cli_check.specs.CheckTexts.{check_text}
use Rattle.cli_check.specs.CheckWorks.{check_work, found_work, verdict_of}
use Rattle.cli_check.specs.Finding.{findings_of}
use Rattle.cli_check.specs.Findings.{FindingsView}
use Rattle.cli_check.specs.Reporting.{report_of}

module _ (c : Content) (cpu : Cpu) (name script pattern : List ℕ) (ask : RequireView) where
  abbrev steps : ℕ
  steps = length (trace c cpu (script_events script)).done

  abbrev judges : Work
  judges = found_work ask (findings_of c cpu (script_events script) pattern)

  pub long-work : trace_limit < steps → check_work c cpu name script pattern ask ≡ Refuses name (codes "too-many-steps")
  long-work many = ap (λ b. if b then Refuses name (codes "too-many-steps") else judges) (lt-ltb trace_limit steps many)

  pub short-work : steps ≤ trace_limit → check_work c cpu name script pattern ask ≡ judges
  short-work few = ap (λ b. if b then Refuses name (codes "too-many-steps") else judges) (le-ltb trace_limit steps few)

-- the answer on what is found: the verdict's status, and the lines with those of what is not met
pub found-answer : (ask : RequireView) (f g : FindingsView) (r : ReportView) (v : Judgement) (members : List Member)
    (text : List ℕ) (status : Status) (a : AnswerView) → f ≡ g → r ≡ report_of f → v ≡ verdict_on ask r
    → members ≡ unmet ask r → text ≡ check_text f members → status ≡ verdict_status (verdict_of v)
    → a ≡ ended status text → a ≡ worked (found_work ask g)
found-answer ask f g r v members text status a same report verdict lacks tells ends is =
    let status_is : status ≡ verdict_status (verdict_of (verdict_on ask (report_of g))) =
    ends ∙ ap (λ x. verdict_status (verdict_of x)) (verdict ∙ ap (verdict_on ask) (report ∙ ap report_of same)) in
    let text_is : text ≡ check_text g (unmet ask (report_of g)) =
    tells
    ∙ (ap (check_text f) (lacks ∙ ap (unmet ask) report) ∙ ap (λ x. check_text x (unmet ask (report_of x))) same) in
    is
    ∙ (ap (λ x. ended x text) status_is
    ∙ ap (ended (verdict_status (verdict_of (verdict_on ask (report_of g))))) text_is)
