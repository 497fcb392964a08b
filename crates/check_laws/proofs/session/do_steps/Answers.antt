use Rattle.std.proofs.Common.{◌∙◌, ap, length, subst, sym}
use Rattle.std.specs.List.{AllByRecursion}
use Rattle.std.proofs.lemmas.List.{drop_all}
use Rattle.pico_board.specs.MemBoard.{state_of}
use Rattle.pico_board.specs.Steps.{IsStepIn, after_all}
use Rattle.check_laws.proofs.PassLemmas.{step-in, step-more}
use Rattle.check_laws.proofs.session.do_steps.Goals as goal

pub complete-requires-clause-range : goal.complete-requires-clause-range
complete-requires-clause-range c =
    step-in (length (state_of c.loop-step.board).content.flash) c.loop-step.step-index c.args.steps.now _
    c.loop-step-test.true
    (subst (λ n. AllByRecursion (IsStepIn n) c.args.steps.now) (sym c.loop-step.invariant.size) c.requires.range)

pub loop-step-preserved : goal.loop-step-preserved
loop-step-preserved c = record {
  ready = c.complete.ensures.ready;
  size = c.complete.ensures.size ∙ c.loop-step.invariant.size;
  rest = step-more (state_of c.loop-step.board).content (state_of c.complete.new.board).content
      (after_all (state_of c.args.board.now).content c.args.steps.now) c.loop-step.step-index c.args.steps.now _
      c.loop-step-test.true c.complete.ensures.done c.loop-step.invariant.rest;
}

pub returns-clause-done : goal.returns-clause-done
returns-clause-done c =
    ap (after_all (state_of c.loop-step.board).content)
    (sym (drop_all c.loop-step.step-index c.args.steps.now c.loop-step-test.false))
    ∙ c.loop-step.invariant.rest
