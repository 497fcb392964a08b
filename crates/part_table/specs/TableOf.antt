-- The table of a block.
use Rattle.std.specs.Prelude.{ℕ, Bool, List, is_some, if◌then◌else◌}
use Rattle.std.specs.Prelude.{Option, None, Some, Result, Err}
use Rattle.std.specs.Option.{option_or}
use Rattle.block_codec.specs.declared.items.Item.{Item}
use Rattle.block_codec.specs.Items.{items_of}
use Rattle.block_codec.specs.Blocks.{BlockView, block_words}
use Rattle.part_table.specs.declared.table.Table.{Table}
use Rattle.part_table.specs.declared.table.TableFault.{TableFault}
use Rattle.part_table.specs.declared.table.TableFault.TheVariants.{BadItem, Hash}
use Rattle.block_codec.specs.FirstFault.{ok_unless}
use Rattle.block_codec.specs.Kinds.{item_of_kind}
use Rattle.block_codec.specs.declared.kinds.TheConstants.{PARTITION_TABLE}
use Rattle.part_table.specs.Contents.{table_of_items, has_wrong_hash}
use Rattle.part_table.specs.Faults.{table_fault}

-- a block has a table where it has a PARTITION_TABLE item (RP2350 Datasheet, chapter 5, Bootrom)
abbrev pub has_table : BlockView → Bool
has_table b = is_some (item_of_kind PARTITION_TABLE (items_of b.items))

-- a digest that is wrong is the last fault
abbrev pub wrong_hash_fault : List ℕ → List Item → Option TableFault
wrong_hash_fault words items = if has_wrong_hash words items then Some Hash else None

-- a table that was read is judged by its partitions and then by its digest; where no table was
-- read, an item is bad
abbrev pub table_or_fault : Option Table → ℕ → ℕ → Option TableFault → Result Table TableFault
table_or_fault None n m wrong_hash = Err BadItem
table_or_fault (Some t) n m wrong_hash = ok_unless (option_or (table_fault t n m) wrong_hash) t

-- the table of a block in a flash of n sectors with m sectors before the first free one, or its
-- first fault
abbrev pub table_of : BlockView → ℕ → ℕ → Result Table TableFault
table_of b n m =
    let words = block_words b in
    let items = items_of b.items in
    table_or_fault (table_of_items words items) n m (wrong_hash_fault words items)
