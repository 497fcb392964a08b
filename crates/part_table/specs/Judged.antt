-- How the block that is written for a table is judged.
use Rattle.std.specs.Prelude.{◌≡◌, ℕ, ◌++◌, true, List, Some}
use Rattle.block_codec.specs.Blocks.{BlockView}
use Rattle.block_codec.specs.Reading.{front_block}
use Rattle.block_codec.specs.FirstFault.{ok_unless}
use Rattle.part_table.specs.declared.table.Table.{Table}
use Rattle.part_table.specs.Faults.{table_fault}
use Rattle.part_table.specs.TableOf.{has_table, table_of}

-- bytes are judged as a table in a flash of n sectors with m sectors before the first free one: a
-- block stands at their front, whatever follows them and wherever they stand; it is read as the
-- table, or to the first fault of the table's partitions
abbrev pub IsJudgedAs : List ℕ → Table → ℕ → ℕ → Type 0
IsJudgedAs bytes t n m =
    (at : ℕ) (rest : List ℕ)
    → (b : BlockView) × (front_block at (bytes ++ rest) ≡ Some b) × (has_table b ≡ true)
    × (table_of b n m ≡ ok_unless (table_fault t n m) t)
