use Rattle.std.proofs.Common.{All, List, ap, length, subst, sym, ◌∙◌}
use Rattle.pico_board.specs.declared.Step.{Step}
use Rattle.pico_board.specs.Content.{Content}
use Rattle.pico_board.specs.MemBoard.{state_of}
use Rattle.pico_board.specs.Steps.{IsStepIn, after_all}
use Rattle.pico_board.proofs.CuttingLemmas.{length-after_all}
use Rattle.boot_sweep.specs.Comparing.{result_by}
use Rattle.boot_sweep.specs.StepResults.{results_from}
use Rattle.boot_sweep.proofs.TextLemmas.{ends-long, none-too, recorded-steps, results-told}
use Rattle.boot_sweep.proofs.script.all_results.Goals as goal

pub results_of-requires-clause-range : goal.results_of-requires-clause-range
results_of-requires-clause-range c =
    subst (λ (xs : List Step). All (IsStepIn (length (state_of c.args.board).content.flash)) xs)
    (sym c.deref.ensures.value)
    (recorded-steps c.args.recorder.now (state_of c.args.board).content c.args.ends.now.cpu c.requires.recorded.0
    c.args.board.sizes c.requires.recorded.1 c.requires.recorded.2).1

pub results_of-requires-clause-long : goal.results_of-requires-clause-long
results_of-requires-clause-long c =
    ends-long c.args.recorder.now (state_of c.args.board).content c.args.ends.now.cpu c.requires.recorded.0
    c.args.ends.now.board.now c.requires.same c.requires.recorded.1

pub result_on-end-requires-clause-long : goal.result_on-end-requires-clause-long
result_on-end-requires-clause-long c =
    ends-long c.args.recorder.now (state_of c.args.board).content c.args.ends.now.cpu c.requires.recorded.0
    c.args.ends.now.board.now c.requires.same c.requires.recorded.1
    ∙ sym (ap (λ (x : Content). length x.flash) c.in_ok-cuts.ensures.done
    ∙ length-after_all (state_of c.args.board).content c.deref.result.now)

pub returns-clause-found : goal.returns-clause-found
returns-clause-found c = λ steps is.
    let start = (state_of c.args.board).content in
    let z = (state_of c.args.ends.now.board.now).content in
    let none = none-too c.args.recorder.now start c.args.ends.now.cpu c.requires.recorded.0 steps
    c.requires.recorded.1 c.requires.recorded.2 is in
    let first = c.in_ok-cuts.ensures.results
    ∙ ap (λ (xs : List Step). results_from
    (λ d. result_by c.args.ends.now.former c.args.ends.now.finished c.args.ends.now.cpu d z)
    c.args.pattern.now start xs) c.deref.ensures.value in
    let left = c.in_ok-cuts.ensures.done ∙ ap (λ (xs : List Step). after_all start xs) c.deref.ensures.value in
    results-told c.args.recorder.now start c.args.ends.now.cpu steps c.args.ends.now.board.now
    c.args.ends.now.former c.args.ends.now.finished (state_of c.results_of.new.board).content c.args.pattern.now
    c.in_ok-cuts.cuts.items c.result_on-end.result c.args.board.sizes is
    none c.requires.same c.requires.former c.requires.finished first left c.result_on-end.ensures.exact
