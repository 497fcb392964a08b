-- Worked examples of maps, with their answers worked out by hand from the rules.
use Rattle.std.specs.Prelude.{ℕ, Bool, true, false, [], ◌∷◌, ◌++◌, replicate, Option, Some, None, Result, Ok, Err}
use Rattle.pico_board.specs.declared.window.Window.{Window}
use Rattle.pico_board.specs.Content.{Content}
use Rattle.block_loop.specs.declared.fault.LoopFault.{LoopFault}
use Rattle.image_def.specs.declared.started.Started.{Started}
use Rattle.image_check.specs.declared.why.Why.{Why}
use Rattle.part_table.specs.declared.table.Table.{Table}
use Rattle.worked_flashes.specs.Tables.{pair_table, plain_partition, sectors}
use Rattle.slot_choice.specs.declared.unit.Member.TheVariants.{A, B}
use Rattle.slot_choice.specs.declared.choice.Choice.{Choice}
use Rattle.slot_choice.specs.Examples.{table_without_families, window_at}
use Rattle.boot_rules.specs.declared.decision.Decision.TheVariants.{Bootsel, Start}
use Rattle.boot_rules.specs.declared.decision.Fall.TheVariants.{NoImage}
use Rattle.worked_flashes.specs.Flashes.{arm_slot, image_region, pair_content, rows_with}
use Rattle.worked_flashes.specs.Images.{in_a, in_b, image_of_version}
use Rattle.worked_flashes.specs.Choices.{starts_b}
use Rattle.boot_rules.specs.declared.slots.SlotFault.{SlotFault}
use Rattle.boot_rules.specs.declared.slots.SlotFault.TheVariants.{Loop}
use Rattle.boot_reasons.specs.declared.slots.TableReason.{TableReason}
use Rattle.boot_map.specs.declared.maps.FlashMap.{FlashMap}
use Rattle.boot_map.specs.declared.maps.MapRow.{MapRow}
use Rattle.boot_map.specs.declared.maps.Pairing.{Pairing}
use Rattle.boot_map.specs.declared.places.MapWindow.{MapWindow}
use Rattle.boot_map.specs.declared.places.MapPlace.{MapPlace}
use Rattle.boot_map.specs.declared.places.MapPlace.TheVariants.{Slot, Partition as Part, Whole, Free}
use Rattle.boot_map.specs.Maps.{paired}

-- a window of the map, by what it is, its start and its length
abbrev pub placed : MapPlace → ℕ → ℕ → MapWindow
placed p start len = record { place = p; window = window_at start len }

-- four partitions that do not stand in address order: sectors 20 to 23, 8 and 9, 10 and 11, 30 and
-- 31. The second ends where the third begins.
abbrev pub mixed_table : Table
mixed_table =
    table_without_families
    (plain_partition (sectors 20 23) 0xfc000000 ∷ plain_partition (sectors 8 9) 0xfc000000
    ∷ plain_partition (sectors 10 11) 0xfc000000
    ∷ plain_partition (sectors 30 31) 0xfc000000 ∷ [])

-- one partition, sectors 10 and 11
abbrev pub lone_table : Table
lone_table = table_without_families (plain_partition (sectors 10 11) 0xfc000000 ∷ [])

-- two partitions, sectors 2 and 3; the first has the link "A is 1"
abbrev pub turned_table : Table
turned_table =
    table_without_families
    (plain_partition (sectors 2 2) 0xfc00000a ∷ plain_partition (sectors 3 3) 0xfc000000 ∷ [])

-- the start of an image in these windows
abbrev pub start_in_window : Window → Choice
start_in_window w =
    record { image = image_of_version w 1 0 false; member = A; other = None; updated = false }

-- a row of a map
abbrev pub map_row : MapPlace → Window → Option (Result Started Why) → Option Pairing → Bool
    → MapRow
map_row p w image pair starts =
    record { place = p; window = w; image = image; pair = pair; starts = starts }

-- a row without an image and a pair
abbrev pub bare_row : MapPlace → Window → MapRow
bare_row p w = map_row p w None None false

-- the slot has no loop
abbrev pub no_loop : Result Table SlotFault
no_loop = Err (Loop LoopFault.NoBlock)

-- a flash of 256 KiB with the table of a pair, and its map; images of versions 1.9 and 1.10 stand
-- in the members
abbrev pub two_images : Content
two_images =
    pair_content 0 (image_region 0x1e000 0x10210142 0x10009)
    (image_region 0x1e000 0x10210142 0x1000a)

abbrev pub two_images_map : FlashMap
two_images_map = record {
  decision = Start (starts_b false (in_b 1 10 false));
  first = Ok pair_table;
  second = no_loop;
  table = Some (record { slot = 0; because = TableReason.Only });
  rows = record {
    items =
        bare_row (Slot 0) (window_at 0 0x1000) ∷ bare_row (Slot 1) (window_at 0x1000 0x1000)
        ∷ map_row (Part 0) (window_at 0x2000 0x1e000) (Some (Ok (in_a 1 9 false)))
        (Some (paired A 1)) false
        ∷ map_row (Part 1) (window_at 0x20000 0x1e000) (Some (Ok (in_b 1 10 false)))
        (Some (paired B 0)) true
        ∷ bare_row Free (window_at 0x3e000 0x2000) ∷ [];
  };
}

-- a flash of 24 KiB without a table, and its map; its two slots of 8 KiB have an image and a trial
-- image
abbrev pub two_slots : Content
two_slots = record {
  flash = arm_slot 0x10000 ++ (image_region 0x2000 0x90210142 0x10001 ++ replicate 0x2000 255);
  otp = rows_with 0 1;
}

abbrev pub two_slots_map : FlashMap
two_slots_map = record {
  decision = Start (record {
    image = image_of_version (window_at 0 0x2000) 1 0 false;
    member = A;
    other = Some (window_at 0x2000 0x2000);
    updated = false;
  });
  first = Err SlotFault.NoTable;
  second = Err SlotFault.NoTable;
  table = None;
  rows = record {
    items =
        map_row (Slot 0) (window_at 0 0x2000)
        (Some (Ok (image_of_version (window_at 0 0x2000) 1 0 false)))
        (Some (paired A 1)) true
        ∷ map_row (Slot 1) (window_at 0x2000 0x2000) (Some (Err Why.Trial))
        (Some (paired B 0)) false
        ∷ bare_row Free (window_at 0x4000 0x2000) ∷ [];
  };
}

-- a flash of 8 KiB with nothing in it, and its map
abbrev pub empty : Content
empty = record { flash = replicate 0x2000 255; otp = rows_with 0 0 }

abbrev pub empty_map : FlashMap
empty_map = record {
  decision = Bootsel NoImage;
  first = no_loop;
  second = no_loop;
  table = None;
  rows = record {
    items = map_row Whole (window_at 0 0x2000) (Some (Err Why.NoBlock)) None false ∷ [];
  };
}
