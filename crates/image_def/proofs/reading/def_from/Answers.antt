use Rattle.std.proofs.Common.{◌≡◌, sym, Option, Some, None}
use Rattle.std.specs.Option.{IfSome}
use Rattle.block_codec.specs.declared.items.Item.{Item}
use Rattle.image_def.proofs.FaultLemmas.{held-vector, held-entry, held-delta, held-version}
use Rattle.image_def.proofs.reading.def_from.Goals as goal

-- what an item that was sought has
sought : {P : Item → Type 0} (result found : Option Item) → result ≡ found
    → ((item : Item) → found ≡ Some item → P item) → IfSome result P
sought None found e all = tt
sought (Some item) found e all = all item (sym e)

pub vector_of-requires : goal.vector_of-requires
vector_of-requires c = sought _ _ c.find_item.ensures.value (held-vector c.args.block.now c.requires.sound)

pub entry_point_of-requires : goal.entry_point_of-requires
entry_point_of-requires c = sought _ _ c.find_item-2.ensures.value (held-entry c.args.block.now c.requires.sound)

pub delta_of-requires : goal.delta_of-requires
delta_of-requires c = sought _ _ c.find_item-3.ensures.value (held-delta c.args.block.now c.requires.sound)

pub version_of-requires : goal.version_of-requires
version_of-requires c = sought _ _ c.find_item-version.ensures.value (held-version c.args.block.now c.requires.sound)

pub rollback_of-requires : goal.rollback_of-requires
rollback_of-requires c = sought _ _ c.find_item-version.ensures.value (held-version c.args.block.now c.requires.sound)

pub rows_of-requires : goal.rows_of-requires
rows_of-requires c = sought _ _ c.find_item-version.ensures.value (held-version c.args.block.now c.requires.sound)
