use Rattle.slot_choice.specs.declared.unit.Member.TheVariants.{A, B}
use Rattle.boot_map.proofs.StartLemmas.{member-row}
use Rattle.boot_map.proofs.laws.both_members_tell_their_pair.Goals as goal

pub returns-clause-first : goal.returns-clause-first
returns-clause-first v = λ c cpu m k a b r right is at pair numbered.
    member-row c cpu m right is A k a b r at pair numbered

pub returns-clause-second : goal.returns-clause-second
returns-clause-second v = λ c cpu m k a b r right is at pair numbered.
    member-row c cpu m right is B k b a r at pair numbered
