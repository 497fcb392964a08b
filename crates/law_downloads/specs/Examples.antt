-- A worked update by a UF2 file of two blocks.
use Rattle.std.specs.Prelude.{ℕ, false, true, List, ◌++◌}
use Rattle.part_table.specs.declared.Target.{Target}
use Rattle.worked_flashes.specs.Flashes.{block_page, vector_page}
use Rattle.worked_flashes.specs.Writes.{slot}

-- version 1.10, of two pages
abbrev pub two_page_image : List ℕ
two_page_image = vector_page ++ block_page 0x0001000a

-- the second slot of the pair
abbrev pub second_slot : Target
second_slot = record { window = slot; gated = true; stay = false }
