use Rattle.std.proofs.Common.{◌∙◌, sym}
use Rattle.elf_pack.proofs.AnswerLemmas.{default-none, head-inside, head-long}
use Rattle.elf_pack.proofs.packing.judged.Goals as goal

pub segments-requires-clause-long : goal.segments-requires-clause-long
segments-requires-clause-long c =
    head-long c.args.cpu c.args.elf.now
    (sym c.head_fault.ensures ∙ default-none c.head_fault.result c.in_default.not-Some)

pub segments-requires-clause-inside : goal.segments-requires-clause-inside
segments-requires-clause-inside c =
    head-inside c.args.cpu c.args.elf.now
    (sym c.head_fault.ensures ∙ default-none c.head_fault.result c.in_default.not-Some)
