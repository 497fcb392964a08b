use Rattle.std.proofs.Common.{length, subst, sym}
use Rattle.std.specs.Prelude.{All}
use Rattle.boot_rules.specs.Choosing.{Order}
use Rattle.boot_rules.specs.Picking.{AreInside}
use Rattle.boot_rules.proofs.PlaceLemmas.{boot-units-inside, order-all}
use Rattle.boot_rules.proofs.deciding.flash_decision.Goals as goal

pub ordered_choice-requires-clause-inside : goal.ordered_choice-requires-clause-inside
ordered_choice-requires-clause-inside g c =
    let content = (g.B.Board.state c.args.board.now).content in
    let inside = subst (All (AreInside (length content.flash))) (sym c.boot_units_by-units.ensures)
    (boot-units-inside content c.args.cpu (g.met.B.Board.is_content c.args.board.now)) in
    let ordered = subst (λ (o : Order). All (AreInside (length content.flash)) o.units) c.order_of-updated.ensures
    (order-all (AreInside (length content.flash)) c.args.kind _ inside) in
    subst (All (AreInside (length content.flash))) (sym c.as_slice.ensures.value) ordered
