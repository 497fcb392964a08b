use Rattle.boot_machine.proofs.PlayLemmas.{plays-only}
use Rattle.boot_machine.proofs.TornLemmas.{played-plays}
use Rattle.boot_machine.proofs.laws.plays.told_plays_are_determined.Goals as goal

pub returns-clause-only : goal.returns-clause-only
returns-clause-only c = λ m cut events n outcomes told plays.
    let all = plays-only m cut events n outcomes told plays in (all.machine, all.told)

pub returns-clause-plays : goal.returns-clause-plays
returns-clause-plays c = played-plays
