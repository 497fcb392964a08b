use Rattle.cli_tools.proofs.SealCaseLemmas.{seal-works, table-works}
use Rattle.cli_tools.proofs.ElfLemmas.{elf-works}
use Rattle.cli_tools.proofs.ToolLemmas.{uf2-works, script-works, gen-works}
use Rattle.cli_tools.proofs.laws.works_are_right.Goals as goal

pub returns-clause-seal : goal.returns-clause-seal
returns-clause-seal c = seal-works

pub returns-clause-elf : goal.returns-clause-elf
returns-clause-elf c = elf-works

pub returns-clause-table : goal.returns-clause-table
returns-clause-table c = table-works

pub returns-clause-uf2 : goal.returns-clause-uf2
returns-clause-uf2 c = uf2-works

pub returns-clause-script : goal.returns-clause-script
returns-clause-script c = script-works

pub returns-clause-made : goal.returns-clause-made
returns-clause-made c = gen-works
