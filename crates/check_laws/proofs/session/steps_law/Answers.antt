use Rattle.std.proofs.Common.{◌∙◌, length, ap, arith, subst, sym}
use Rattle.pico_board.specs.Content.{Content}
use Rattle.pico_board.specs.MemBoard.{state_of}
use Rattle.pico_board.proofs.CuttingLemmas.{length-after_all}
use Rattle.boot_session.proofs.NeighbourLemmas.{placed}
use Rattle.boot_session.proofs.SlotLemmas.{slot-found}
use Rattle.check_laws.specs.SessionLaws.{IsStepsLaw}
use Rattle.check_laws.proofs.LawLemmas.{none-kept, slot-is-law}
use Rattle.check_laws.proofs.session.steps_law.Goals as goal

pub is_staged-staged-requires-clause-inside : goal.is_staged-staged-requires-clause-inside
is_staged-staged-requires-clause-inside c =
    let start = (state_of c.args.board.now).content in
    let right = c.args.board.now.sizes in
    let place = placed start c.in-Some.slot.window c.args.cpu right
    (slot-found start c.args.cpu c.args.steps.now c.in-Some.slot.window c.in-Some.ensures.exact.0).boot_member in
    let whole = right.flash_length.whole in
    let inside = place.inside in
    let long = ap (λ (x : Content). length x.flash) c.do_steps.ensures.done ∙ length-after_all start c.args.steps.now in
    omega (arith, whole, inside, long)

pub returns-in-Some : goal.returns-in-Some
returns-in-Some c =
    let start = (state_of c.args.board.now).content in
    subst (λ law. IsStepsLaw start c.args.cpu c.args.steps.now law)
    (sym (c.slot_law.ensures start c.args.cpu c.in-Some.ensures.exact.1))
    (slot-is-law start c.args.cpu c.args.steps.now c.args.board.now.sizes (state_of c.do_steps.new.board).content
    c.in-Some.slot.window c.is_staged-staged.result c.do_steps.ensures.done c.in-Some.ensures.exact.0
    (λ gated. c.is_staged-staged.ensures start c.do_steps.ensures.done gated))

pub returns-in-None : goal.returns-in-None
returns-in-None c =
    none-kept (state_of c.args.board.now).content c.args.cpu c.args.steps.now c.args.board.now.sizes
    c.in-None.ensures.exact
