use Rattle.std.proofs.Common.{◌*◌, ◌+◌, refl, sym, ◌∙◌, subst, true, false}
use Rattle.std.proofs.lemmas.Result.{err_from_is_err_and}
use Rattle.pico_board.specs.declared.Step.TheVariants.{Program}
use Rattle.pico_board.specs.Board.{Does, DoesAll}
use Rattle.pico_board.proofs.StepLemmas.{DoesAll-cut, DoesAll-none, DoesAll-step}
use Rattle.trial_buy.proofs.StepLemmas.{programs-all, programs-more, programs-none}
use Rattle.trial_buy.proofs.buying.program_pages.Goals as goal

pub loop-i-init : goal.loop-i-init
loop-i-init g c = record {
  power = c.requires.power;
  size = refl;
  rest = λ ok u does.
      subst (λ steps. DoesAll g.B.Board.state g.B.Board.history c.args.board.now steps ok u)
      (sym (programs-all c.args.sector c.args.bytes.now)) does;
}

pub returns-in_err-program : goal.returns-in_err-program
returns-in_err-program g c =
    let lost = err_from_is_err_and c.from_residual.result c.from_residual.ensures.1 in
    let one = subst (λ page. Does g.B.Board.state g.B.Board.history c.loop-i.board
    (Program (16 * c.args.sector + c.loop-i.i) page) false c.program.new.self)
    c.page_of.ensures c.in_err-program.ensures in
    record {
      steps = rw (lost.1) (c.loop-i.invariant.rest _ _
          (subst (λ steps. DoesAll g.B.Board.state g.B.Board.history c.loop-i.board steps false c.program.new.self)
          (sym (programs-more c.args.sector c.args.bytes.now c.loop-i.i 16 c.loop-i-test.true)) (DoesAll-cut _ one)));
    }

pub loop-i-preserved : goal.loop-i-preserved
loop-i-preserved g c =
    let one = subst (λ page. Does g.B.Board.state g.B.Board.history c.loop-i.board
    (Program (16 * c.args.sector + c.loop-i.i) page) true c.program.new.self)
    c.page_of.ensures c.in_ok-program.ensures in
    record {
      power = one.power;
      size = one.size ∙ c.loop-i.invariant.size;
      rest = λ ok u does. c.loop-i.invariant.rest ok u
          (subst (λ steps. DoesAll g.B.Board.state g.B.Board.history c.loop-i.board steps ok u)
          (sym (programs-more c.args.sector c.args.bytes.now c.loop-i.i 16 c.loop-i-test.true))
          (DoesAll-step one does));
    }

pub returns : goal.returns
returns g c = record {
  steps = c.loop-i.invariant.rest _ _
      (subst (λ steps. DoesAll g.B.Board.state g.B.Board.history c.loop-i.board steps true c.loop-i.board)
      (sym (programs-none c.args.sector c.args.bytes.now c.loop-i.i 16 c.loop-i-test.false))
      (DoesAll-none _ c.loop-i.invariant.power));
}
