use Rattle.boot_script.proofs.FollowingLemmas.{events-append}
use Rattle.boot_script.proofs.laws.events_of_a_concatenation.Goals as goal

pub returns : goal.returns
returns c = events-append
