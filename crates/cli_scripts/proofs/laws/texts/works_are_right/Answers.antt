use Rattle.cli_scripts.proofs.CopyRuleLemmas.{copy-works}
use Rattle.cli_scripts.proofs.TextRuleLemmas.{list-works, write-works}
use Rattle.cli_scripts.proofs.laws.texts.works_are_right.Goals as goal

pub returns-clause-list : goal.returns-clause-list
returns-clause-list c = list-works

pub returns-clause-write : goal.returns-clause-write
returns-clause-write c = write-works

pub returns-clause-copy : goal.returns-clause-copy
returns-clause-copy c = copy-works
