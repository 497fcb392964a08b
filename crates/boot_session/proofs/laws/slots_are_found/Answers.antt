use Rattle.boot_session.proofs.SlotLemmas.{slot-found, slot-is}
use Rattle.boot_session.proofs.laws.slots_are_found.Goals as goal

pub returns : goal.returns
returns c = λ content cpu steps w right.
    (λ e. slot-found content cpu steps w e, λ is. slot-is content cpu steps w right is)
