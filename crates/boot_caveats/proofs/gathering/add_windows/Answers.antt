use Rattle.std.proofs.Common.{length, subst, sym, Option}
use Rattle.std.specs.Prelude.{IfSome}
use Rattle.part_table.specs.declared.table.Table.{Table}
use Rattle.boot_caveats.specs.Reads.{AreLooksInside, ArePartsInside}
use Rattle.boot_caveats.proofs.ReadLemmas.{parts-inside, reasons-inside, slots-fit}
use Rattle.boot_caveats.proofs.gathering.add_windows.Goals as goal

pub add_late_firsts-requires-clause-slots : goal.add_late_firsts-requires-clause-slots
add_late_firsts-requires-clause-slots g c =
    slots-fit (g.B.Board.state c.args.board.now).content c.args.cpu c.args.kind c.args.reasons.now
    (g.met.B.Board.is_content c.args.board.now) c.requires.reasons

pub add_late_firsts-requires-clause-inside : goal.add_late_firsts-requires-clause-inside
add_late_firsts-requires-clause-inside g c =
    let content = (g.B.Board.state c.args.board.now).content in
    subst (AreLooksInside (length content.flash)) (sym c.as_slice-looks.ensures.value)
    (reasons-inside content c.args.cpu c.args.kind c.args.reasons.now (g.met.B.Board.is_content c.args.board.now)
    c.requires.reasons)

pub add_item_orders-requires-clause-inside : goal.add_item_orders-requires-clause-inside
add_item_orders-requires-clause-inside g c =
    let content = (g.B.Board.state c.args.board.now).content in
    subst (AreLooksInside (length content.flash)) (sym c.as_slice-looks.ensures.value)
    (reasons-inside content c.args.cpu c.args.kind c.args.reasons.now (g.met.B.Board.is_content c.args.board.now)
    c.requires.reasons)

pub add_owned_images-requires-clause-inside : goal.add_owned_images-requires-clause-inside
add_owned_images-requires-clause-inside g c =
    let content = (g.B.Board.state c.args.board.now).content in
    subst (λ (o : Option Table). IfSome o (λ t. ArePartsInside (length content.flash) t.parts.items))
    (sym c.taken_table-table.ensures)
    (parts-inside content c.args.cpu c.args.kind c.args.reasons.now c.requires.reasons)
