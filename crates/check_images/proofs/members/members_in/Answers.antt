use Rattle.std.proofs.Common.{◌∙◌, ap, length, subst, sym, take_all}
use Rattle.std.specs.Prelude.{All}
use Rattle.std.specs.List.{flat_map}
use Rattle.pico_board.specs.MemBoard.{state_of}
use Rattle.boot_rules.specs.Picking.{IsInside}
use Rattle.check_images.specs.Members.{unit_windows}
use Rattle.check_images.proofs.MemberLemmas.{members-inside}
use Rattle.check_images.proofs.members.members_in.Goals as goal

pub returns-clause-inside : goal.returns-clause-inside
returns-clause-inside c =
    let content = (state_of c.args.board.now).content in
    subst (λ ws. All (IsInside (length content.flash)) ws)
    (sym (c.loop-unit.invariant
    ∙ (ap (flat_map unit_windows) (take_all c.loop-unit.unit-index c.as_slice-unit-items.result.now c.loop-unit-test.false)
    ∙ ap (flat_map unit_windows) (c.as_slice-unit-items.ensures.value ∙ c.boot_units_in-units.ensures))))
    (members-inside content c.args.cpu c.args.board.now.sizes)
