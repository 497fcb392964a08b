use Rattle.std.proofs.Common.{◌∙◌, length, subst, sym}
use Rattle.std.specs.Prelude.{All}
use Rattle.boot_rules.specs.Picking.{IsInside}
use Rattle.boot_caveats.proofs.WindowLemmas.{looked-inside}
use Rattle.boot_caveats.proofs.members.add_members.Goals as goal

pub add_each_doubt-requires-clause-inside : goal.add_each_doubt-requires-clause-inside
add_each_doubt-requires-clause-inside g c =
    let n = length (g.B.Board.state c.args.board.now).content.flash in
    subst (All (IsInside n)) (sym (c.as_slice.ensures.value ∙ c.looked_windows-windows.ensures.value))
    (looked-inside n c.args.looks.now c.requires.inside)
