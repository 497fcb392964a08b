use Rattle.std.proofs.Common.{length, sym, subst, ◌∙◌, ◌<◌}
use Rattle.std.specs.Prelude.{IfSome}
use Rattle.owner_data.proofs.DataLemmas.{with_owner}
use Rattle.boot_rules.proofs.targets.deciding_in.Goals as goal

pub unit_of-requires-clause-inside : goal.unit_of-requires-clause-inside
unit_of-requires-clause-inside c =
    let parts = c.args.table.now.parts.items in
    let within = subst (λ o. IfSome o (λ i. i < length parts)) c.in-Some.is c.requires.part in
    let found = with_owner parts c.requires.sound.1.links c.in-Some.part c.in-Some-owner_pair.owner
    c.in-Some-owner_pair.field-0-1 within
    (sym c.owner_pair.ensures ∙ c.in-Some-owner_pair.is) in
    subst (λ xs. c.in-Some-owner_pair.owner < length xs) (sym c.as_slice.ensures.value) found.1
