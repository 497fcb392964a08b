-- The work of `chart`, as a function.
use Rattle.std.specs.Prelude.{ℕ, false, List, map, Option, Some, None}
use Rattle.pico_board.specs.declared.Step.{Step}
use Rattle.pico_board.specs.declared.boot.Cpu.{Cpu}
use Rattle.pico_board.specs.declared.boot.BootKind.TheVariants.{Normal}
use Rattle.pico_board.specs.Content.{Content}
use Rattle.pico_board.specs.Steps.{after_all}
use Rattle.boot_rules.specs.Choosing.{decision_in}
use Rattle.boot_sweep.specs.declared.error.SweepError.{SweepError}
use Rattle.boot_sweep.specs.declared.results.CutResult.{CutResult}
use Rattle.boot_sweep.specs.declared.results.CutResult.TheVariants as cut_result
use Rattle.boot_sweep.specs.declared.results.StepResults.{StepResults}
use Rattle.boot_sweep.specs.Comparing.{result_of}
use Rattle.boot_sweep.specs.Refusals.{sweep_refusal}
use Rattle.boot_session.specs.Scripts.{script_session}
use Rattle.boot_sweep.specs.StepResults.{sweep_results}
use Rattle.cli_course.specs.Outcomes.{Work, Answers, Refuses, line, one_file}
use Rattle.text_lines.specs.Texts.{decision_text}
use Rattle.svg_marks.specs.declared.class.Class.{Class}
use Rattle.svg_marks.specs.declared.class.Class.TheVariants.{Former, Finished, Chance}
use Rattle.svg_marks.specs.Marks.{picture_text}
use Rattle.svg_sweep.specs.Charts.{Chart, chart_words, picture_of}
use Rattle.cli_sweep.specs.SweepWorks.{sweep_fault}

-- the class of a result
abbrev pub class_of : CutResult → Class
class_of cut_result.Former = Former
class_of cut_result.Finished = Finished
class_of cut_result.Chance = Chance

abbrev pub before_class : StepResults → Class
before_class cut = class_of cut.before

abbrev pub within_class : StepResults → Class
within_class cut = class_of cut.within

-- what is drawn of steps, their results and the result of the whole session
abbrev pub chart_with : List Step → List StepResults → CutResult → Chart
chart_with steps cuts end = record {
  steps = steps;
  before = map before_class cuts;
  within = map within_class cuts;
  end_ = class_of end;
}

-- what is drawn of a session on the content c
abbrev pub chart_of : Content → Cpu → List ℕ → List Step → Chart
chart_of c cpu pattern steps =
    chart_with steps (sweep_results c cpu pattern steps)
    (result_of c (after_all c steps) (after_all c steps) cpu)

-- the line of a chart
abbrev pub chart_line : Chart → List ℕ
chart_line chart = line (chart_words chart.steps chart.before chart.within)

-- the bytes of the chart's picture; the picture shows the decision of a normal boot by its line
abbrev pub chart_file : Chart → List ℕ → List ℕ
chart_file chart decided = picture_text (picture_of chart decided)

-- a session is refused for a reason, by the script, or its chart is drawn
abbrev pub drawn_work : List ℕ → List ℕ → Chart → List ℕ → Option SweepError → Work
drawn_work script out chart decided (Some reason) = Refuses script (sweep_fault reason)
drawn_work script out chart decided None =
    Answers false (chart_line chart) (one_file out (chart_file chart decided))

-- the session of a script on a content is drawn, or refused
abbrev pub chart_work : Content → Cpu → List ℕ → List ℕ → List ℕ → List ℕ → Work
chart_work c cpu script out bytes pattern =
    let steps = script_session c cpu bytes in drawn_work script out (chart_of c cpu pattern steps)
    (decision_text (decision_in c cpu Normal)) (sweep_refusal c cpu steps)
