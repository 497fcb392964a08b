use Rattle.elf_pack.proofs.AnswerLemmas.{no-image_fault, one-image_fault}
use Rattle.elf_pack.proofs.laws.an_image_has_at_most_one_fault.Goals as goal

pub returns-clause-one : goal.returns-clause-one
returns-clause-one c = one-image_fault

pub returns-clause-none : goal.returns-clause-none
returns-clause-none c = λ elf spec e has sealed fault. no-image_fault elf spec has sealed e fault
