use Rattle.std.proofs.Common.{◌+◌, ◌*◌, ◌≤◌, subst, sym, false, true}
use Rattle.std.proofs.lemmas.Result.{err_from_is_err_and}
use Rattle.pico_board.specs.Board.{DoesAll}
use Rattle.pico_board.proofs.StepLemmas.{DoesAll-none, DoesAll-append, DoesAll-append_cut}
use Rattle.uf2_place.specs.Downloads.{held_page}
use Rattle.uf2_place.proofs.HeldPageLemmas.{programs_left, programs-start, programs-next, programs-end}
use Rattle.uf2_place.proofs.holding.program_marked.Goals as goal

pub loop-place-init : goal.loop-place-init
loop-place-init g c = record {
  power = c.requires.power;
  size = c.requires.range;
  rest = λ ok new does. subst (λ steps. DoesAll g.B.Board.state g.B.Board.history c.args.board.now steps ok new)
      (programs-start c.args.sector (held_page c.args.pages c.args.bytes.now)) does;
}

pub loop-place-preserved : goal.loop-place-preserved
loop-place-preserved g c = record {
  power = c.in_ok-program_page.ensures.power;
  size = subst (λ n. 4096 * c.args.sector + 4096 ≤ n) (sym c.in_ok-program_page.ensures.size)
      c.loop-place.invariant.size;
  rest = λ ok new after. c.loop-place.invariant.rest ok new
      (subst (λ steps. DoesAll g.B.Board.state g.B.Board.history c.loop-place.board steps ok new)
      (programs-next c.args.sector c.loop-place.place (held_page c.args.pages c.args.bytes.now) c.loop-place-test.true)
      (DoesAll-append c.in_ok-program_page.ensures after));
}

pub returns-in_err-program_page : goal.returns-in_err-program_page
returns-in_err-program_page g c =
    let lost = err_from_is_err_and c.from_residual.result c.from_residual.ensures.1 in
    rw (lost.1) (c.loop-place.invariant.rest _ _
    (subst (λ steps. DoesAll g.B.Board.state g.B.Board.history c.loop-place.board steps false c.program_page.new.board)
    (programs-next c.args.sector c.loop-place.place (held_page c.args.pages c.args.bytes.now) c.loop-place-test.true)
    (DoesAll-append_cut (programs_left c.args.sector (c.loop-place.place + 1)
    (held_page c.args.pages c.args.bytes.now)) c.in_err-program_page.ensures)))

pub returns : goal.returns
returns g c =
    c.loop-place.invariant.rest _ _
    (subst (λ steps. DoesAll g.B.Board.state g.B.Board.history c.loop-place.board steps true c.loop-place.board)
    (sym (programs-end c.args.sector c.loop-place.place
    (held_page c.args.pages c.args.bytes.now) c.loop-place-test.false))
    (DoesAll-none _ c.loop-place.invariant.power))
