use Rattle.std.proofs.Common.{[], ◌∷◌, sym, ap, refl, ◌∙◌}
use Rattle.boot_script.specs.Events.{End}
use Rattle.boot_script.specs.Scripts.{events_behind, events_from}
use Rattle.boot_script.proofs.SpelledLemmas.{read-at, fault-at}
use Rattle.boot_script.proofs.FollowingLemmas.{next-events, end-events, fault-events}
use Rattle.boot_script.proofs.laws.one_event_and_the_others.Goals as goal

pub returns-clause-more : goal.returns-clause-more
returns-clause-more c = λ bytes at e next read more.
    let one = read-at bytes at e next read in
    next-events bytes at e one.0 more ∙ ap (λ n. events_behind (e ∷ []) (events_from bytes n)) (sym one.1)

pub returns-clause-end : goal.returns-clause-end
returns-clause-end c = λ bytes at next read. end-events bytes at End (read-at bytes at End next read).0 refl

pub returns-clause-fault : goal.returns-clause-fault
returns-clause-fault c = λ bytes at fault read. fault-events bytes at fault (fault-at bytes at fault read)
