use Rattle.boot_machine.proofs.RamStartLemmas.{ram-started, ram-starts, ram-moves}
use Rattle.boot_machine.proofs.laws.run.ram_start.Goals as goal

pub returns-clause-starts : goal.returns-clause-starts
returns-clause-starts c = ram-starts

pub returns-clause-any : goal.returns-clause-any
returns-clause-any c = ram-started

pub returns-clause-keeps : goal.returns-clause-keeps
returns-clause-keeps c = ram-moves
