use Rattle.std.proofs.Common.{◌∙◌}
use Rattle.std.specs.Prelude.{string_bytes}
use Rattle.check_require.specs.Reports.{report_from}
use Rattle.check_require.specs.Requires.{require_from}
use Rattle.cli_course.specs.Views.{answer_from}
use Rattle.cli_check.specs.Findings.{findings_from}
use Rattle.cli_check.proofs.WorkLemmas.{found-answer}
use Rattle.cli_check.proofs.checking.judged.Goals as goal

pub returns : goal.returns
returns c =
    found-answer (require_from c.args.ask.now) (findings_from c.in_ok-found.found) _
    (report_from c.in_ok-report.report) c.verdict_on.result c.as_slice.result.now (string_bytes c.in_ok-text.text)
    c.status_of.result (answer_from c.ended.result) c.in_ok-found.ensures c.in_ok-report.ensures c.verdict_on.ensures
    (c.as_slice.ensures.value ∙ c.unmet-unmet.ensures) c.in_ok-text.ensures c.status_of.ensures c.ended.ensures
