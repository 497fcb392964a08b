use Rattle.elf_pack.proofs.AnswerLemmas.{told}
use Rattle.elf_pack.proofs.packing.whole_binary.Goals as goal

pub returns-clause-refused : goal.returns-clause-refused
returns-clause-refused c =
    told c.args.cpu c.args.elf.now c.made_binary.result c.made_binary.ensures.right c.made_binary.ensures.fault
