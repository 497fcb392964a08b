use Rattle.std.proofs.Common.{false, true, subst, sym, arith, List}
use Rattle.std.proofs.lemmas.List.{drop_all}
use Rattle.std.proofs.lemmas.List.Elements.{All-get_or}
use Rattle.pico_board.specs.Steps.{IsStepIn}
use Rattle.pico_board.specs.declared.Step.{Step}
use Rattle.boot_tape.specs.Playing.{IsLeftBy, cut_moves, told_of}
use Rattle.boot_tape.proofs.TraceLemmas.{left-none, loop-lost, loop-more, one-done}
use Rattle.boot_tape.proofs.trace.Tape.take_steps.Goals as goal

pub returns-then-not-branch-clause-ready : goal.returns-then-not-branch-clause-ready
returns-then-not-branch-clause-ready c = λ n is all.
    c.in_ok-take_step.ensures.ready n (c.loop-step.invariant.ready n is all)
    (All-get_or (IsStepIn n) c.args.steps.now c.loop-step.step-index _ c.loop-step-test.true all)

pub returns-then-not-branch-clause-taken : goal.returns-then-not-branch-clause-taken
returns-then-not-branch-clause-taken c =
    c.loop-step.invariant.rest false c.take_step.new.self
    (loop-lost c.loop-step.self c.take_step.new.self c.loop-step.step-index _ c.args.steps.now
    c.args.number c.in_ok-take_step.field-0 c.loop-step-test.true c.in_ok-take_step.ensures.taken c.if-not-branch.true)

pub loop-step-preserved : goal.loop-step-preserved
loop-step-preserved c =
    let inv = c.loop-step.invariant in
    let taken = c.in_ok-take_step.ensures.taken in
    let few = inv.few in
    let most = one-done c.loop-step.self c.take_step.new.self _ c.args.number c.in_ok-take_step.field-0 taken in record {
      ready = λ n is all. c.in_ok-take_step.ensures.ready n (inv.ready n is all)
          (All-get_or (IsStepIn n) c.args.steps.now c.loop-step.step-index _ c.loop-step-test.true all);
      few = omega (arith, few, most);
      rest = λ whole new later. inv.rest whole new
          (loop-more c.loop-step.self c.take_step.new.self new c.loop-step.step-index _ c.args.steps.now
          c.args.number c.in_ok-take_step.field-0 whole c.loop-step-test.true taken c.if-not-branch.false later);
    }

pub returns-clause-taken : goal.returns-clause-taken
returns-clause-taken c =
    c.loop-step.invariant.rest true c.loop-step.self
    (subst (λ (xs : List Step). IsLeftBy c.loop-step.self (cut_moves (told_of c.loop-step.self) xs) c.args.number true c.loop-step.self)
    (sym (drop_all c.loop-step.step-index c.args.steps.now c.loop-step-test.false)) (left-none c.loop-step.self c.args.number))
