-- What is right for the picture of a sweep, by the rules.
use Rattle.std.specs.Prelude.{◌≡◌, ℕ, false, true, List, length, slice_get, take, Some}
use Rattle.pico_board.specs.declared.Step.{Step}
use Rattle.pico_board.specs.declared.boot.Cpu.{Cpu}
use Rattle.pico_board.specs.declared.boot.BootKind.TheVariants.{Normal}
use Rattle.pico_board.specs.Content.{Content, IsContent}
use Rattle.pico_board.specs.Steps.{after_all}
use Rattle.boot_rules.specs.declared.decision.Decision.{Decision}
use Rattle.boot_rules.specs.Chosen.{Chosen}
use Rattle.boot_sweep.specs.declared.error.SweepError.{SweepError}
use Rattle.boot_sweep.specs.declared.results.CutResult.{CutResult}
use Rattle.boot_sweep.specs.declared.results.StepResults.{StepResults}
use Rattle.boot_sweep.specs.Refusals.{IsRefusedSession}
use Rattle.boot_sweep.specs.Results.{IsCutResult}
use Rattle.boot_session.specs.Scripts.{script_session}
use Rattle.boot_sweep.specs.Sweeps.{content_after_cut}
use Rattle.cli_course.specs.declared.status.Status.TheVariants.{Done}
use Rattle.cli_course.specs.Outcomes.{AnswerView, one_file}
use Rattle.text_lines.specs.Texts.{decision_text}
use Rattle.cli_sweep.specs.ChartWorks.{chart_file, chart_line, chart_with}

module _ (c : Content) (cpu : Cpu) (pattern : List ℕ) (steps : List Step) where
  -- these are the results of a loss of power in step j, before it and within it
  pub record IsCutOf (j : ℕ) (step : Step) (cut : StepResults) : Type 0 where
    pub before_is : IsCutResult c (after_all c steps)
        (content_after_cut (after_all c (take j steps)) pattern step false) cpu cut.before
    pub within_is : IsCutResult c (after_all c steps)
        (content_after_cut (after_all c (take j steps)) pattern step true) cpu cut.within

  -- there are such results for each step, in their order, and no others
  pub record AreCutsOf (cuts : List StepResults) : Type 0 where
    pub count : length cuts ≡ length steps
    pub each : (j : ℕ) (step : Step) (cut : StepResults) → slice_get steps j ≡ Some step
        → slice_get cuts j ≡ Some cut → IsCutOf j step cut

-- `chart`: the session of the script on a content is refused for no reason; the outcome prints how
-- many steps the session has, and how many lines of its sweep have each result; it writes the
-- picture of these steps and results and of the result of the whole session; the picture names the
-- decision of a normal boot
pub record IsChartOf (c : Content) (cpu : Cpu) (out script pattern : List ℕ) (o : AnswerView)
    : Type 0 where
  pub right : IsContent c
  pub taken : (e : SweepError) → IsRefusedSession c cpu (script_session c cpu script) e → ⊥
  pub cuts : List StepResults
  pub swept : AreCutsOf c cpu pattern (script_session c cpu script) cuts
  pub whole : CutResult
  pub ends : IsCutResult c (after_all c (script_session c cpu script))
      (after_all c (script_session c cpu script)) cpu whole
  pub decision : Decision
  pub chosen : Chosen c cpu Normal decision
  pub status : o.status ≡ Done
  pub text : o.text ≡ chart_line (chart_with (script_session c cpu script) cuts whole)
  pub files : o.files ≡ one_file out (chart_file
      (chart_with (script_session c cpu script) cuts whole) (decision_text decision))
