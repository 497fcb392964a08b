use Rattle.std.proofs.Common.{length, subst, sym}
use Rattle.std.specs.Prelude.{All}
use Rattle.boot_rules.specs.Picking.{AreInside}
use Rattle.boot_rules.proofs.PlaceLemmas.{boot-units-inside}
use Rattle.boot_reasons.proofs.gathering.reported_in.Goals as goal

pub reports_in_order-requires-clause-inside : goal.reports_in_order-requires-clause-inside
reports_in_order-requires-clause-inside g c =
    let content = (g.B.Board.state c.args.board.now).content in
    subst (All (AreInside (length content.flash))) (sym c.boot_units_by-units.ensures)
    (boot-units-inside content c.args.cpu (g.met.B.Board.is_content c.args.board.now))
