-- Images, orders and blocks of the worked examples.
use Rattle.std.specs.Prelude.{ℕ, nat_le, Bool, false, if◌then◌else◌, [], ◌∷◌, ◌++◌, List, replicate, Option, Some, None, option_map, Result}
use Rattle.std.specs.Result.{result_ok}
use Rattle.pico_board.specs.declared.window.Window.{Window}
use Rattle.pico_board.specs.Content.{Content}
use Rattle.block_codec.specs.Blocks.{BlockView}
use Rattle.image_def.specs.declared.started.Started.{Started}
use Rattle.image_def.specs.Examples.{started_in}
use Rattle.image_check.specs.declared.why.Why.{Why}
use Rattle.part_table.specs.declared.table.Table.{Table}
use Rattle.slot_choice.specs.declared.unit.Member.TheVariants.{A, B}
use Rattle.slot_choice.specs.declared.choice.Choice.{Choice}
use Rattle.boot_rules.specs.Choosing.{Order}
use Rattle.boot_rules.specs.declared.slots.SlotFault.{SlotFault}
use Rattle.worked_flashes.specs.Flashes.{framed, region, rows_with, several}
use Rattle.worked_flashes.specs.Images.{image_of_version}
use Rattle.worked_flashes.specs.Tables.{sectors, window_at}
use Rattle.boot_caveats.specs.ProcessorCaveats.{LookedMember}
use Rattle.slot_caveats.specs.Examples.{arm_word, bare, block_with, lone_third, riscv_word, sector_with, table_sector, three_sectors}

-- each window from an offset on has an image, whether or not a trial image is allowed
abbrev pub images_from : ℕ → Window → Bool → Option Started
images_from at w trial = if nat_le at w.start then Some (image_of_version w 1 0 false) else None

-- one unit of one partition, at 0x6000
abbrev pub third_alone : Order
third_alone = record { units = lone_third ∷ []; updated = None }

-- the window of a choice
abbrev pub taken_window : Option Choice → Option Window
taken_window choice = option_map (λ (it : Choice). it.image.window) choice

-- blocks with an empty table of this unpartitioned word, as their first item and as their second
abbrev pub table_block : ℕ → BlockView
table_block word = block_with 0 (0x0000020a ∷ word ∷ [])

abbrev pub late_table_block : ℕ → BlockView
late_table_block word = block_with 0 (0x00000248 ∷ 0 ∷ 0x0000020a ∷ word ∷ [])

-- the unpartitioned word of the table of an answer
abbrev pub word_of_answer : Result Table SlotFault → Option ℕ
word_of_answer answer = option_map (λ (t : Table). t.unpartitioned) (result_ok answer)

-- flashes of 12 KiB without a table: an image for RISC-V, an image in slot 1 alone, one whose
-- block begins with its version, and one whose first block begins 8 bytes below the 4096th
abbrev pub riscv_flash : Content
riscv_flash = three_sectors 0 0 (sector_with (riscv_word ∷ [])) bare

abbrev pub second_slot_flash : Content
second_slot_flash = three_sectors 0 0 bare (sector_with (arm_word ∷ []))

abbrev pub version_first_flash : Content
version_first_flash = three_sectors 0 0 (sector_with (0x00000248 ∷ 0 ∷ arm_word ∷ [])) bare

abbrev pub late_block_flash : Content
late_block_flash = record {
  flash = region 0xff8 (0x20082000 ∷ 0x10000201 ∷ [])
      ++ (region 0x1008 (framed (arm_word ∷ []) 0) ++ bare);
  otp = rows_with 0 0;
}

-- a flash of 16 KiB with images of one version in two slots of 8 KiB
abbrev pub equal_slots_flash : Content
equal_slots_flash = record {
  flash = sector_with (arm_word ∷ []) ++ (bare ++ (sector_with (arm_word ∷ []) ++ bare));
  otp = rows_with 0 1;
}

-- a flash of 16 KiB with a table of two partitions of one sector each, and an image in each
abbrev pub two_parts_flash : Content
two_parts_flash = record {
  flash = table_sector (several ∷ 0xfc008000 ∷ sectors 2 2 ∷ 0xfc000000 ∷ sectors 3 3
      ∷ 0xfc000000 ∷ [])
      ++ (bare ++ (sector_with (arm_word ∷ []) ++ sector_with (arm_word ∷ [])));
  otp = rows_with 0 0;
}

-- the item words of a table of three partitions of one sector each: an owner, what it owns, with
-- flag bit 11, and one alone; with this unpartitioned word
abbrev pub owned_part_items : ℕ → List ℕ
owned_part_items word =
    0x0300080a ∷ word ∷ sectors 2 2 ∷ 0xfc000000 ∷ sectors 3 3 ∷ 0xfc000804 ∷ sectors 4 4
    ∷ 0xfc000000 ∷ []

-- a flash of 20 KiB with such a table in each slot; an image stands behind that in slot 0, and in
-- each partition, the first one with a window delta
abbrev pub two_tables_flash : Content
two_tables_flash = record {
  flash = region 0x40 (framed (owned_part_items 0xfc018000) 0x40)
      ++ (region 0xfc0 (framed (arm_word ∷ []) 0xffffffc0)
      ++ (table_sector (owned_part_items 0xfc008000)
      ++ (sector_with (arm_word ∷ 0x00000205 ∷ 4 ∷ [])
      ++ (sector_with (arm_word ∷ []) ++ sector_with (arm_word ∷ [])))));
  otp = rows_with 0 0;
}

-- a flash of 20 KiB with a table of a partition alone and a pair, one sector each. The pair's A has
-- an image for RISC-V; the loop of that in its B has a table, and the image lists a row
abbrev pub update_flash : Content
update_flash = record {
  flash = table_sector (0x0300080a ∷ 0xfc008000 ∷ sectors 2 2 ∷ 0xfc000000 ∷ sectors 3 3
      ∷ 0xfc000000 ∷ sectors 4 4 ∷ 0xfc00000a ∷ [])
      ++ (bare ++ (bare ++ (sector_with (riscv_word ∷ [])
      ++ (region 0x100 (0x20082000 ∷ 0x10000201 ∷ [])
      ++ (region 0x20 (framed (arm_word ∷ 0x01000348 ∷ 0x00010000 ∷ 0x00c00003 ∷ []) 0x20)
      ++ region 0xee0 (framed (0x0000020a ∷ 0xfc000000 ∷ []) 0xffffffe0))))));
  otp = rows_with 0 0;
}

-- a flash of 12 KiB without a table. Its image has rollback version 24 and row 0x0c0, whose
-- majority is 5; its first block begins with its version, 16 bytes below the 4096th
abbrev pub late_rows_flash : Content
late_rows_flash = record {
  flash = region 0xff0 (0x20082000 ∷ 0x10000201 ∷ [])
      ++ (region 0x1010 (framed (0x01000348 ∷ 0x00010000 ∷ 0x00c00018 ∷ arm_word ∷ []) 0) ++ bare);
  otp = replicate 0x0c0 0 ++ (5 ∷ 5 ∷ replicate 0xf3e 0);
}

-- the start of the image for RISC-V, without an ENTRY_POINT
abbrev pub riscv_start : Choice
riscv_start = record {
  image = started_in (window_at 0 0x3000) 0x100 0x104 0x10000000;
  member = A;
  other = None;
  updated = false;
}

-- the start of the image in slot 1, where the slots are a pair
abbrev pub second_slot_start : Choice
second_slot_start = record {
  image = started_in (window_at 0x1000 0x1000) 0x100 0x104 0x10000201;
  member = B;
  other = Some (window_at 0 0x1000);
  updated = false;
}

-- a member in the second sector, with this image; a trial image is allowed in it or not
abbrev pub looked : Result Started Why → Bool → LookedMember
looked image trial = record { window = window_at 0x1000 0x1000; image = image; trial = trial }
