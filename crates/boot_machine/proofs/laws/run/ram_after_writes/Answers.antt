use Rattle.boot_machine.proofs.RamRunLemmas.{runs, plays, run-written}
use Rattle.boot_machine.proofs.laws.run.ram_after_writes.Goals as goal

pub returns-clause-runs : goal.returns-clause-runs
returns-clause-runs c = runs

pub returns-clause-plays : goal.returns-clause-plays
returns-clause-plays c = plays

pub returns-clause-ram : goal.returns-clause-ram
returns-clause-ram c = run-written
