use Rattle.std.proofs.Common.{◌∙◌, length, subst, sym}
use Rattle.std.specs.Prelude.{All}
use Rattle.pico_board.specs.MemBoard.{state_of}
use Rattle.boot_rules.specs.Picking.{IsInside}
use Rattle.check_images.proofs.BootLemmas.{members-after}
use Rattle.check_images.proofs.LostLemmas.{are-lost, if-ok}
use Rattle.check_images.proofs.losing.lost_windows.Goals as goal

pub lost_lines-requires-clause-members : goal.lost_lines-requires-clause-members
lost_lines-requires-clause-members c =
    let z = (state_of c.args.end.now).content in
    let y = (state_of c.args.after.now).content in
    subst (λ ws. All (IsInside (length y.flash)) ws) (sym c.deref.ensures.value)
    (members-after z c.args.cpu y c.requires.booted c.in_ok-members.members.items c.in_ok-members.ensures.inside)

pub returns-clause-lost : goal.returns-clause-lost
returns-clause-lost c =
    let b = (state_of c.args.start.now).content in
    let z = (state_of c.args.end.now).content in
    if-ok c.lost_lines.result _ _
    (λ lines is. are-lost b z c.args.cpu c.args.decision.now c.requires.chosen (state_of c.args.after.now).content
    c.requires.booted c.deref-2.result.now c.deref.result.now (c.deref-2.ensures.value ∙ c.in_ok-windows.ensures.listed)
    (c.deref.ensures.value ∙ c.in_ok-members.ensures.listed) lines.items is)
    c.lost_lines.ensures.lines
