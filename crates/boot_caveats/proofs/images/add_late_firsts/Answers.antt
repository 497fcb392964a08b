use Rattle.std.proofs.Common.{◌∙◌, [], All, length, subst, sym, ap}
use Rattle.boot_rules.specs.Picking.{IsInside}
use Rattle.boot_caveats.specs.ImageCaveats.{first_places, read_windows}
use Rattle.boot_caveats.proofs.WindowLemmas.{places-all, read-inside}
use Rattle.boot_caveats.proofs.images.add_late_firsts.Goals as goal

pub add_late-requires-clause-inside : goal.add_late-requires-clause-inside
add_late-requires-clause-inside g c =
    let n = length (g.B.Board.state c.args.board.now).content.flash in
    subst (All (IsInside n))
    (sym (c.as_slice-2.ensures.value ∙ (c.first_places-places.ensures.value
    ∙ ap (first_places []) (c.as_slice.ensures.value ∙ c.read_windows-windows.ensures.value))))
    (places-all (IsInside n) [] (read_windows c.args.size c.args.looks.now)
    (read-inside n c.args.size c.args.looks.now c.requires.slots c.requires.inside))
