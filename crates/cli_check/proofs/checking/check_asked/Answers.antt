use Rattle.std.proofs.Common.{◌≡◌, ◌<◌, ◌≤◌, length, subst, sym}
use Rattle.std.specs.Prelude.{IfOk, MatchOption}
use Rattle.pico_board.specs.Content.{Content}
use Rattle.pico_board.specs.MemBoard.{state_of}
use Rattle.boot_script.specs.Scripts.{script_events}
use Rattle.boot_cuts.specs.Found.{trace_limit}
use Rattle.boot_tape.specs.Playing.{IsTraceOf, IsTracedTooLong}
use Rattle.boot_tape.specs.Traces.{trace}
use Rattle.check_require.specs.Requires.{require_from}
use Rattle.cli_course.specs.Outcomes.{Work, worked}
use Rattle.cli_course.specs.Views.{answer_from}
use Rattle.cli_check.proofs.WorkLemmas.{long-work, short-work}
use Rattle.cli_check.proofs.checking.check_asked.Goals as goal

pub returns-in-Some : goal.returns-in-Some
returns-in-Some c =
    let content = (state_of c.args.board).content in
    let cpu = c.args.cpu in
    let events = script_events c.args.script.bytes.now in
    let is = subst (λ o. MatchOption o (IsTracedTooLong content cpu events) (IsTraceOf content cpu events)) c.in-Some.is
    c.in_ok-trace.ensures in
    subst (λ (w : Work). IfOk c.judged.result (λ answer. answer_from answer ≡ worked w))
    (sym (short-work content cpu c.args.name.now c.args.script.bytes.now c.args.pattern.bytes.now
    (require_from c.args.ask.now) is.short))
    c.judged.ensures

pub returns : goal.returns
returns c =
    let content = (state_of c.args.board).content in
    let cpu = c.args.cpu in
    let events = script_events c.args.script.bytes.now in
    let many = subst (λ o. MatchOption o (IsTracedTooLong content cpu events) (IsTraceOf content cpu events))
    c.in-None.is c.in_ok-trace.ensures in
    subst (λ (w : Work). IfOk c.refusal.result (λ answer. answer_from answer ≡ worked w))
    (sym (long-work content cpu c.args.name.now c.args.script.bytes.now c.args.pattern.bytes.now
    (require_from c.args.ask.now) many))
    c.refusal.ensures
