use Rattle.std.proofs.Common.{length, subst, sym}
use Rattle.std.specs.Prelude.{All}
use Rattle.pico_board.specs.MemBoard.{state_of}
use Rattle.boot_rules.specs.Picking.{AreInside}
use Rattle.boot_rules.proofs.PlaceLemmas.{boot-units-inside}
use Rattle.check_laws.proofs.triples.are_triples_apart.Goals as goal

pub keeps_unit-requires-clause-a : goal.keeps_unit-requires-clause-a
keeps_unit-requires-clause-a c =
    let content = (state_of c.args.board.now).content in
    ((subst (λ us. All (AreInside (length content.flash)) us) (sym (c.as_slice-unit-items.ensures.value))
    (subst (λ us. All (AreInside (length content.flash)) us) (sym c.boot_units_in-units.ensures)
    (boot-units-inside content c.args.cpu c.args.board.now.sizes)))
    c.loop-unit.unit-index _ c.loop-unit-test.true).first

pub keeps_unit-requires-clause-b : goal.keeps_unit-requires-clause-b
keeps_unit-requires-clause-b c =
    let content = (state_of c.args.board.now).content in
    ((subst (λ us. All (AreInside (length content.flash)) us) (sym (c.as_slice-unit-items.ensures.value))
    (subst (λ us. All (AreInside (length content.flash)) us) (sym c.boot_units_in-units.ensures)
    (boot-units-inside content c.args.cpu c.args.board.now.sizes)))
    c.loop-unit.unit-index _ c.loop-unit-test.true).second
