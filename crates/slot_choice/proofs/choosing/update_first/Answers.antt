use Rattle.std.proofs.Common.{◌∙◌, ◌<◌, ap, sym, subst, length, position, Some}
use Rattle.std.proofs.lemmas.Option.{slice_get-get_or}
use Rattle.slot_choice.specs.Updates.{has_member_at}
use Rattle.slot_choice.proofs.UpdateLemmas.{unplaced, placed}
use Rattle.slot_choice.proofs.choosing.update_first.Goals as goal

pub returns-in_err-place-clause-member : goal.returns-in_err-place-clause-member
returns-in_err-place-clause-member c =
    c.from_residual-in_err-place.ensures
    ∙ unplaced c.args.units.now.items c.args.base c.in_ok-start.start c.in_ok-start.ensures.0 c.in_ok-start.ensures.1
    (sym (c.in_err-place.ensures.value ∙ ap (position (has_member_at c.in_ok-start.start)) c.as_slice.ensures.value))

pub returns-clause-member : goal.returns-clause-member
returns-clause-member c =
    c.member_at.ensures
    ∙ placed c.args.units.now.items c.args.base c.in_ok-start.start c.in_ok-start.ensures.0 c.in_ok-start.ensures.1
    c.in_ok-place.place c.remove-unit.result
    (sym (c.in_ok-place.ensures.value ∙ ap (position (has_member_at c.in_ok-start.start)) c.as_slice.ensures.value))
    (slice_get-get_or c.args.units.now.items c.in_ok-place.place c.remove-unit.result
    (subst (λ us. c.in_ok-place.place < length us) c.as_slice.ensures.value c.in_ok-place.ensures.inside)
    ∙ ap Some (sym c.remove-unit.ensures.value))
