use Rattle.std.proofs.Common.{length, subst, sym}
use Rattle.std.specs.Prelude.{All}
use Rattle.boot_rules.specs.Choosing.{Order}
use Rattle.boot_rules.specs.Picking.{AreInside}
use Rattle.boot_rules.proofs.PlaceLemmas.{order-all}
use Rattle.boot_reasons.proofs.gathering.reports_in_order.Goals as goal

pub reports_on-looks-requires-clause-inside : goal.reports_on-looks-requires-clause-inside
reports_on-looks-requires-clause-inside g c =
    let content = (g.B.Board.state c.args.board.now).content in
    let ordered = subst (λ (o : Order). All (AreInside (length content.flash)) o.units) c.order_of-updated.ensures
    (order-all (AreInside (length content.flash)) c.args.kind _ c.requires.inside) in
    subst (All (AreInside (length content.flash))) (sym c.as_slice.ensures.value) ordered
