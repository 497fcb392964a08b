use Rattle.std.proofs.Common.{inl}
use Rattle.image_pack.proofs.FaultLemmas.{fault-when, sealed-when}
use Rattle.image_pack.proofs.sealing.judged_text.Goals as goal

pub returns-in-Ok-check_block-clause-sealed : goal.returns-in-Ok-check_block-clause-sealed
returns-in-Ok-check_block-clause-sealed c =
    sealed-when c.args.binary.now c.args.spec.now c.in-Ok-text_with.text.items c.in-Ok-booted.image
    c.block_offset.result c.in-Ok-check_size.ensures.ok c.in-Ok-text_with.ensures.value c.in-Ok-booted.ensures.value
    c.block_offset.ensures.value c.in-Ok-check_block.ensures.ok

pub returns-in-Err-check_block-clause-fault : goal.returns-in-Err-check_block-clause-fault
returns-in-Err-check_block-clause-fault c =
    inl (fault-when c.args.binary.now c.args.spec.now c.in-Ok-text_with.text.items c.in-Ok-booted.image
    c.block_offset.result c.in-Err-check_block.error c.in-Ok-check_size.ensures.ok c.in-Ok-text_with.ensures.value
    c.in-Ok-booted.ensures.value c.block_offset.ensures.value c.in-Err-check_block.ensures.fault)
