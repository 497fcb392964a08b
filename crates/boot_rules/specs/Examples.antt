-- Worked examples: images in the members of a pair, and alone; tables, targets and data; and whole
-- flashes.
use Rattle.std.specs.Prelude.{ℕ, ◌==◌, ◌&&◌, not, Bool, false, if◌then◌else◌}
use Rattle.std.specs.Prelude.{[], ◌∷◌, ◌++◌, List, Option, Some, None}
use Rattle.block_codec.specs.Blocks.{BlockView}
use Rattle.pico_board.specs.declared.window.Window.{Window}
use Rattle.image_def.specs.declared.started.Started.{Started}
use Rattle.part_table.specs.declared.table.Table.{Table}
use Rattle.part_table.specs.Examples.{block_with, table_with}
use Rattle.worked_flashes.specs.Tables.{plain_partition, sectors}
use Rattle.slot_choice.specs.declared.unit.Member.{Member}
use Rattle.slot_choice.specs.declared.unit.SlotUnit.{SlotUnit}
use Rattle.slot_choice.specs.declared.choice.Choice.{Choice}
use Rattle.worked_flashes.specs.Tables.{pair_unit}
use Rattle.slot_choice.specs.Examples.{window_at}
use Rattle.boot_rules.specs.declared.tables.Found.{Found}
use Rattle.slot_choice.specs.declared.unit.Member.TheVariants.{A, B}
use Rattle.pico_board.specs.Content.{Content}
use Rattle.worked_flashes.specs.Images.{image_of_version}
use Rattle.worked_flashes.specs.Choices.{small_first, small_slot}
use Rattle.worked_flashes.specs.Flashes.{framed, region, rows_with, several, small_items}

-- an image counts where it is no trial, or where trials are allowed
abbrev pub counting_image : Bool → Option Started → Option Started
counting_image allowed None = None
counting_image allowed (Some s) = if s.trial && not allowed then None else Some s

-- the images of a flash, by the one that begins at each of these two offsets; no other window has
-- one
abbrev pub images_at : ℕ → Option Started → ℕ → Option Started → Window → Bool → Option Started
images_at first a second b w allowed =
    if w.start == first then counting_image allowed a
    else (if w.start == second then counting_image allowed b else None)

-- the images of the pair of A and B
abbrev pub pair_images : Option Started → Option Started → Window → Bool → Option Started
pair_images a b = images_at 0x2000 a 0x20000 b

-- a table in this slot
abbrev pub found_in_slot : ℕ → Table → Found
found_in_slot number t = record { slot = number; table = t }

abbrev pub single : ℕ
single = 0x8200060a

-- the small pair's table, sectors 2 to 3 and 4 to 5, a singleton or not and of this version
abbrev pub small_table : Bool → ℕ → ℕ → Table
small_table alone high low = record {
  version = record { major = high; minor = low };
  singleton = alone;
  unpartitioned = 0xfc008000;
  parts = record {
    items =
        plain_partition (sectors 2 3) 0xfc020000 ∷ plain_partition (sectors 4 5) 0xfc020002 ∷ [];
  };
}

-- the block of the small pair's table, no singleton and with this version word, and the block of
-- an Arm image
abbrev pub small_versioned_block : ℕ → BlockView
small_versioned_block version = block_with (small_items several version)

abbrev pub image_block : BlockView
image_block = block_with (0x10210142 ∷ [])

-- a table of a pair that holds partitions 1 and 3, and of a pair of its data, partitions 2 and 0.
-- Of each pair the one with bit 13 stays: 3 and 2. Partition 4 is data of the first pair too
abbrev pub crossed_table : Table
crossed_table = record {
  version = record { major = 0; minor = 0 };
  singleton = false;
  unpartitioned = 0xfc008000;
  parts = record {
    items =
        plain_partition (sectors 2 3) 0xfc000012 ∷ plain_partition (sectors 4 5) 0xfc020000
        ∷ plain_partition (sectors 6 7) 0xfc01200c
        ∷ plain_partition (sectors 8 10) 0xfc02200a
        ∷ plain_partition (sectors 11 11) 0xfc00000c ∷ [];
  };
}

-- the windows of the partitions of `crossed_table`
abbrev pub zeroth : Window
zeroth = window_at 0x2000 0x2000

abbrev pub first : Window
first = window_at 0x4000 0x2000

abbrev pub second : Window
second = window_at 0x6000 0x2000

abbrev pub third : Window
third = window_at 0x8000 0x3000

abbrev pub fourth : Window
fourth = window_at 0xb000 0x1000

-- the pair of images and the pair of data of `crossed_table`, and its partition alone as a unit
abbrev pub image_pair : SlotUnit
image_pair = pair_unit first 1 third 3

abbrev pub data_pair : SlotUnit
data_pair = pair_unit second 2 zeroth 0

-- the start of an image of version 1.0 in a window, as this member of a unit whose other member
-- has this window
abbrev pub start_in : Window → Member → Option Window → Choice
start_in w member other =
    record { image = image_of_version w 1 0 false; member = member; other = other; updated = false }

-- the small pair's table where both members accept rp2350-arm-s alone
abbrev pub arm_table : Table
arm_table = small_table false 0 0

-- the small pair's table where its A accepts all six families, and its B none
abbrev pub open_table : Table
open_table =
    table_with
    (plain_partition (sectors 2 3) 0xfc0fc000 ∷ plain_partition (sectors 4 5) 0xfc000002 ∷ [])

-- a flash of 24 KiB with the small pair's table and these boot flags, and what stands in the pair's
-- members, two sectors each
abbrev pub small_content : ℕ → List ℕ → List ℕ → Content
small_content flags a b = record {
  flash = region 0x2000 (framed (small_items several 0) 0) ++ (a ++ b);
  otp = rows_with flags 0;
}

-- an image of this version in the window of the small pair's A, and in that of its B
abbrev pub in_small_a : ℕ → ℕ → Bool → Started
in_small_a major minor trial = image_of_version small_first major minor trial

abbrev pub in_small_b : ℕ → ℕ → Bool → Started
in_small_b major minor trial = image_of_version small_slot major minor trial

-- the start of an image in the small pair's A, and in its B
abbrev pub starts_small_a : Bool → Started → Choice
starts_small_a updated s = record {
  image = s;
  member = A;
  other = Some small_slot;
  updated = updated;
}

abbrev pub starts_small_b : Bool → Started → Choice
starts_small_b updated s = record {
  image = s;
  member = B;
  other = Some small_first;
  updated = updated;
}
