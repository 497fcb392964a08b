-- What is read of the block that is written for a whole table.
use Rattle.std.specs.Prelude.{◌≡◌, ℕ, ◌++◌, true, List, Some, Result, Ok, Err}
use Rattle.block_codec.specs.Blocks.{BlockView}
use Rattle.block_codec.specs.Reading.{front_block}
use Rattle.part_table.specs.declared.table.Table.{Table}
use Rattle.part_table.specs.declared.table.TableFault.{TableFault}
use Rattle.part_table.specs.TableOf.{has_table, table_of}
use Rattle.table_json.specs.declared.fault.JsonFault.{JsonFault}
use Rattle.table_json.specs.declared.fault.JsonFault.TheVariants.{Table as Faulty}

-- bytes begin with a block, wherever they stand and whatever follows them; the block is read with
-- this answer in a flash of 4096 sectors, where the first two are not free
abbrev pub IsReadWith : List ℕ → Result Table TableFault → Type 0
IsReadWith bytes answer =
    (at : ℕ) (rest : List ℕ)
    → (b : BlockView) × (front_block at (bytes ++ rest) ≡ Some b) × (has_table b ≡ true)
    × (table_of b 4096 2 ≡ answer)

-- an answer on the table of a text as the answer of the text
abbrev pub json_answer : Result Table TableFault → Result Table JsonFault
json_answer (Ok t) = Ok t
json_answer (Err fault) = Err (Faulty fault)
