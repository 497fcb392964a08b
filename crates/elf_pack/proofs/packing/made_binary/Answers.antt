use Rattle.std.proofs.Common.{inl, inr}
use Rattle.elf_pack.proofs.AnswerLemmas.{says-none, says-some}
use Rattle.elf_pack.proofs.packing.made_binary.Goals as goal

pub binary_of-requires-clause-right : goal.binary_of-requires-clause-right
binary_of-requires-clause-right c = says-none c.args.cpu c.args.elf.now c.in-Ok.ensures.none

pub returns-in-Err-clause-fault : goal.returns-in-Err-clause-fault
returns-in-Err-clause-fault c = elim c.in-Err.ensures.fault [
  | inl is ↦ inl (says-some c.args.cpu c.args.elf.now c.in-Err.fault is)
  | inr memory ↦ inr memory
]

pub returns-in-Ok-binary_of-clause-right : goal.returns-in-Ok-binary_of-clause-right
returns-in-Ok-binary_of-clause-right c = says-none c.args.cpu c.args.elf.now c.in-Ok.ensures.none
