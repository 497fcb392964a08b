use Rattle.boot_script.proofs.ReadBackLemmas.{back-at}
use Rattle.boot_script.proofs.laws.written_events_are_read.Goals as goal

pub returns : goal.returns
returns c = back-at
