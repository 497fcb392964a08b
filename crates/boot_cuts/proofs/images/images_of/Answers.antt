use Rattle.std.proofs.Common.{length, subst, sym}
use Rattle.std.specs.Prelude.{All}
use Rattle.pico_board.specs.MemBoard.{state_of}
use Rattle.boot_rules.specs.Picking.{AreInside}
use Rattle.boot_rules.proofs.PlaceLemmas.{boot-units-inside}
use Rattle.boot_cuts.proofs.images.images_of.Goals as goal

pub add_unit-requires-clause-inside : goal.add_unit-requires-clause-inside
add_unit-requires-clause-inside c =
    let content = (state_of c.args.board.now).content in
    (subst (λ us. All (AreInside (length content.flash)) us) (sym (c.as_slice-unit-items.ensures.value))
    (subst (λ us. All (AreInside (length content.flash)) us) (sym c.boot_units_in-units.ensures)
    (boot-units-inside content c.args.cpu c.args.board.now.sizes)))
    c.loop-unit.unit-index _ c.loop-unit-test.true
