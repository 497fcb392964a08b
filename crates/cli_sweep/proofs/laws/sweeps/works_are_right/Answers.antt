use Rattle.cli_sweep.proofs.SweepRuleLemmas.{sweep-works}
use Rattle.cli_sweep.proofs.FirmRuleLemmas.{firm-works}
use Rattle.cli_sweep.proofs.laws.sweeps.works_are_right.Goals as goal

pub returns-clause-sweep : goal.returns-clause-sweep
returns-clause-sweep c = sweep-works

pub returns-clause-firm : goal.returns-clause-firm
returns-clause-firm c = firm-works
