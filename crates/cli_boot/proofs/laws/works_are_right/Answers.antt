use Rattle.cli_boot.proofs.BoardWorkLemmas.{boot-works, info-works, data-works}
use Rattle.cli_boot.proofs.laws.works_are_right.Goals as goal

pub returns-clause-boot : goal.returns-clause-boot
returns-clause-boot c = boot-works

pub returns-clause-info : goal.returns-clause-info
returns-clause-info c = info-works

pub returns-clause-data : goal.returns-clause-data
returns-clause-data c = data-works
