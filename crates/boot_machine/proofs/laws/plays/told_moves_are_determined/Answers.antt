use Rattle.boot_machine.proofs.PlayLemmas.{moves-only}
use Rattle.boot_machine.proofs.TornLemmas.{moved-moves}
use Rattle.boot_machine.proofs.laws.plays.told_moves_are_determined.Goals as goal

pub returns-clause-only : goal.returns-clause-only
returns-clause-only c = λ m cut event n outcome told moves.
    let one = moves-only m cut event n outcome told moves in (one.machine, one.told)

pub returns-clause-moves : goal.returns-clause-moves
returns-clause-moves c = λ m event is of.
    let one = moved-moves m event is of in (one.moves, one.telling)
