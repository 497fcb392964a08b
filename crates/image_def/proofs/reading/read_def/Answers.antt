use Rattle.image_def.proofs.GuaranteeLemmas.{if_definition, if_fault}
use Rattle.image_def.proofs.reading.read_def.Goals as goal

pub returns-clause-sound : goal.returns-clause-sound
returns-clause-sound c =
    let whole = c.read_items.ensures.whole.whole in
    if_definition c.args.block.now c.read_items.result whole c.requires c.read_items.ensures.value

pub returns-clause-fault : goal.returns-clause-fault
returns-clause-fault c = if_fault c.args.block.now c.read_items.result c.read_items.ensures.value
