use Rattle.std.proofs.Common.{◌≡◌, subst, sym}
use Rattle.std.specs.Prelude.{IfOk}
use Rattle.pico_board.specs.MemBoard.{state_of}
use Rattle.boot_script.specs.Scripts.{script_events}
use Rattle.cli_course.specs.Outcomes.{AnswerView}
use Rattle.cli_course.specs.Views.{answer_from}
use Rattle.boot_cuts.specs.Found.{AreCutsFound}
use Rattle.cli_check.proofs.CutsRuleLemmas.{found-work, long-work}
use Rattle.cli_check.proofs.cutting.cuts.Goals as goal

pub returns-in-Some : goal.returns-in-Some
returns-in-Some c =
    let content = (state_of c.args.board).content in
    let happened = script_events c.args.script.bytes.now in
    let is = subst (AreCutsFound content c.args.cpu happened c.args.pattern.bytes.now) c.in-Some.is c.in_ok-found.ensures in
    subst (λ (view : AnswerView). IfOk c.told_cuts.result (λ answer. answer_from answer ≡ view))
    (found-work content c.args.cpu c.args.script_name.now c.args.pattern.bytes.now happened c.in-Some.found is)
    c.told_cuts.ensures

pub returns-in-None : goal.returns-in-None
returns-in-None c =
    let content = (state_of c.args.board).content in
    let happened = script_events c.args.script.bytes.now in
    let is = subst (AreCutsFound content c.args.cpu happened c.args.pattern.bytes.now) c.in-None.is c.in_ok-found.ensures in
    subst (λ (view : AnswerView). IfOk c.too_long.result (λ answer. answer_from answer ≡ view))
    (sym (long-work content c.args.cpu c.args.script_name.now c.args.pattern.bytes.now happened is))
    c.too_long.ensures
