-- Blocks with load maps that stand as worked examples.
use Rattle.std.specs.Prelude.{ℕ, pos, true, false, List, [], ◌∷◌, Result, Some, None}
use Rattle.pico_board.specs.Content.{flash_base}
use Rattle.block_codec.specs.Blocks.{BlockView}
use Rattle.block_codec.specs.Items.{item_at}
use Rattle.block_codec.specs.declared.items.Item.{Item}
use Rattle.load_map.specs.Reading.{loads_of}
use Rattle.load_map.specs.declared.load.Load.{Load}
use Rattle.load_map.specs.declared.load.MapFault.{MapFault}

-- a block at offset 0x100 that closes its loop by itself: it has an IMAGE_TYPE item for Arm, and
-- then these item words; with one entry it ends at 0x124, with two at 0x130
abbrev pub example_block : List ℕ → BlockView
example_block words = record { at = 0x100; items = 0x10210142 ∷ words; link = pos 0 }

-- the item with this header that follows the IMAGE_TYPE item; its first byte is at 0x108
abbrev pub second_item : ℕ → Item
second_item header = item_at 2 header

-- what the load map with this header and these entries gives in a window of 8192 bytes in flash
abbrev pub loads_in_flash : ℕ → List ℕ → Result (List Load) MapFault
loads_in_flash header entries =
    loads_of flash_base false 8192 (example_block (header ∷ entries)) (second_item header)

-- what the load map with this header and these entries gives for an image of 8192 bytes; the image
-- is put at the start of SRAM and runs there
abbrev pub loads_in_ram : ℕ → List ℕ → Result (List Load) MapFault
loads_in_ram header entries =
    loads_of 0x2000_0000 true 8192 (example_block (header ∷ entries)) (second_item header)

-- a load that is stored at an offset
abbrev pub stored : ℕ → ℕ → ℕ → Load
stored x runtime size = record { storage = Some x; runtime = runtime; size = size }

-- a load of zeros
abbrev pub cleared_load : ℕ → ℕ → Load
cleared_load runtime size = record { storage = None; runtime = runtime; size = size }

-- four bytes cleared at the start of SRAM; then the second byte of the window is loaded over the
-- first of these
abbrev pub two_loads : List Load
two_loads = cleared_load 0x2000_0000 4 ∷ stored 1 0x2000_0000 1 ∷ []

-- the second byte of the window loaded to the start of SRAM, and then four bytes cleared there
abbrev pub turned_loads : List Load
turned_loads = stored 1 0x2000_0000 1 ∷ cleared_load 0x2000_0000 4 ∷ []

-- four bytes cleared at the start of SRAM, and then two of the window loaded over the middle of
-- them
abbrev pub mixed_loads : List Load
mixed_loads = cleared_load 0x2000_0000 4 ∷ stored 1 0x2000_0001 2 ∷ []

-- three bytes of the first four of SRAM
abbrev pub loads_with_a_hole : List Load
loads_with_a_hole = stored 0 0x2000_0000 2 ∷ stored 0 0x2000_0003 1 ∷ []

-- a block of an IMAGE_TYPE item for Arm whose trial bit is set
abbrev pub trial_block : BlockView
trial_block = record { at = 0; items = 0x90210142 ∷ []; link = pos 0 }
