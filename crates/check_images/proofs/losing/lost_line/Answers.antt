use Rattle.std.proofs.Common.{length, subst, sym}
use Rattle.std.specs.Prelude.{IfSome}
use Rattle.pico_board.specs.MemBoard.{state_of}
use Rattle.boot_rules.specs.Picking.{IsInside}
use Rattle.check_images.proofs.LostLemmas.{found-inside}
use Rattle.check_images.proofs.losing.lost_line.Goals as goal

pub loss_by-requires-clause-inside : goal.loss_by-requires-clause-inside
loss_by-requires-clause-inside c =
    subst (λ o. IfSome o (IsInside (length (state_of c.args.after.now).content.flash))) (sym c.member_at-member.ensures)
    (found-inside (IsInside (length (state_of c.args.after.now).content.flash)) c.args.members.now c.args.window.start
    c.requires.members)
