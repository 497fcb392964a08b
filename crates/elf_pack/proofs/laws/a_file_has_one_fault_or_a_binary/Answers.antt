use Rattle.elf_pack.proofs.AnswerLemmas.{no-fault, one-fault, says-none, says-some}
use Rattle.elf_pack.proofs.FaultLemmas.{elf-fault-is, elf-fault-none}
use Rattle.elf_pack.proofs.laws.a_file_has_one_fault_or_a_binary.Goals as goal

pub returns-clause-one : goal.returns-clause-one
returns-clause-one c = one-fault

pub returns-clause-none : goal.returns-clause-none
returns-clause-none c = λ cpu elf e has fault. no-fault cpu elf has e fault

pub returns-clause-fault : goal.returns-clause-fault
returns-clause-fault c = λ cpu elf e. (elf-fault-is cpu elf e, says-some cpu elf e)

pub returns-clause-binary : goal.returns-clause-binary
returns-clause-binary c = λ cpu elf. (elf-fault-none cpu elf, says-none cpu elf)
