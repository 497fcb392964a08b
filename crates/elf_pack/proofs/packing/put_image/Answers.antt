use Rattle.std.proofs.Common.{◌∙◌}
use Rattle.elf_pack.proofs.AnswerLemmas.{put-fault}
use Rattle.elf_pack.proofs.packing.put_image.Goals as goal

pub returns-clause-fault : goal.returns-clause-fault
returns-clause-fault c =
    put-fault c.args.elf.now c.args.spec.now c.deref.result.now c.in-Err-seal.error c.unsealed.result
    (c.deref.ensures.value ∙ c.in-Ok.ensures.value) c.in-Ok.ensures.right c.unsealed.ensures c.in-Err-seal.ensures.fault
