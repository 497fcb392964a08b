-- What is right for `check`, in the words of the rules.
use Rattle.std.specs.Prelude.{◌≡◌, ◌≢◌, ℕ, ◌<◌, List, [], length, codes}
use Rattle.pico_board.specs.declared.boot.Cpu.{Cpu}
use Rattle.pico_board.specs.Content.{Content, IsContent}
use Rattle.boot_script.specs.Scripts.{script_events}
use Rattle.boot_cuts.specs.Found.{IsShort, trace_limit}
use Rattle.boot_tape.specs.Traces.{trace}
use Rattle.check_require.specs.declared.members.Member.TheVariants.{Effect, Records}
use Rattle.check_require.specs.declared.requirement.Allowance.TheVariants.{Mixed, Bootsel}
use Rattle.check_require.specs.Meeting.{allows, is_met, some_bootsel, some_mixed, unmet}
use Rattle.check_require.specs.Reports.{ReportView}
use Rattle.check_require.specs.Requires.{RequireView}
use Rattle.check_require.specs.Texts.{IsRequireText}
use Rattle.std.specs.Prelude.{false, true}
use Rattle.cli_course.specs.Outcomes.{AnswerView, verdict_status, Verdict, Passes, IsUnbootable, IsMixed, HasNoEffect, IsRefused, IsUnmet}
use Rattle.cli_check.specs.CheckTexts.{check_text}
use Rattle.cli_check.specs.FindingRules.{AreFindings}
use Rattle.cli_check.specs.Findings.{FindingsView}
use Rattle.cli_check.specs.Reporting.{report_of}

-- some cut, or the end, starts a half-written image, and this is not allowed
abbrev pub IsHalfWritten : RequireView → ReportView → Type 0
IsHalfWritten ask r = (some_mixed r ≡ true) × (allows ask.cuts Mixed ≡ false)

-- some cut, or the end, starts nothing, and this is not allowed
abbrev pub IsLeftDead : RequireView → ReportView → Type 0
IsLeftDead ask r = (some_bootsel r ≡ true) × (allows ask.cuts Bootsel ≡ false)

-- the verdict: it passes where no member is unmet; otherwise it is the first of the others that
-- holds, and the last one where none does
abbrev pub IsVerdict : RequireView → ReportView → Verdict → Type 0
IsVerdict ask r Passes = unmet ask r ≡ []
IsVerdict ask r IsMixed = IsHalfWritten ask r
IsVerdict ask r IsUnbootable = (IsHalfWritten ask r → ⊥) × IsLeftDead ask r
IsVerdict ask r IsRefused =
    (IsHalfWritten ask r → ⊥) × (IsLeftDead ask r → ⊥) × (is_met ask r Records ≡ false)
IsVerdict ask r HasNoEffect =
    (IsHalfWritten ask r → ⊥) × (IsLeftDead ask r → ⊥) × (is_met ask r Records ≡ true)
    × (is_met ask r Effect ≡ false)
IsVerdict ask r IsUnmet =
    (IsHalfWritten ask r → ⊥) × (IsLeftDead ask r → ⊥) × (is_met ask r Records ≡ true)
    × (is_met ask r Effect ≡ true) × (unmet ask r ≢ [])

-- `check` by what is asked: the outcome tells what is found and which members are not met, and ends
-- with the verdict's status
pub record IsCheckOf (c : Content) (cpu : Cpu) (script pattern : List ℕ) (ask : RequireView)
    (o : AnswerView) : Type 0 where
  pub right : IsContent c
  pub short : IsShort c cpu (script_events script)
  pub findings : FindingsView
  pub are : AreFindings c cpu (script_events script) pattern findings
  pub verdict : Verdict
  pub judged : IsVerdict ask (report_of findings) verdict
  pub status : o.status ≡ verdict_status verdict
  pub text : o.text ≡ check_text findings (unmet ask (report_of findings))
  pub files : o.files ≡ []

-- the same by a text of what is asked
pub record IsAskedOf (c : Content) (cpu : Cpu) (script pattern require : List ℕ) (o : AnswerView)
    : Type 0 where
  pub ask : RequireView
  pub text : IsRequireText require ask
  pub check : IsCheckOf c cpu script pattern ask o

-- the script is refused exactly where its trace has too many steps
abbrev pub IsCheckRefused : List ℕ → Content → Cpu → List ℕ → List ℕ → List ℕ → Type 0
IsCheckRefused script c cpu bytes name fault =
    (trace_limit < length (trace c cpu (script_events bytes)).done)
    × (name ≡ script) × (fault ≡ codes "too-many-steps")
