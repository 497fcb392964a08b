-- Maps and windows of the worked examples.
use Rattle.std.specs.Prelude.{ℕ, ◌+◌, ◌*◌, ◌^◌, Bool, false, [], ◌∷◌, codes, Option, Some, None, Result, Ok, Err}
use Rattle.block_loop.specs.declared.fault.LoopFault.TheVariants.{NoBlock}
use Rattle.image_def.specs.declared.started.Started.{Started}
use Rattle.image_check.specs.declared.why.Why.{Why}
use Rattle.pico_board.specs.Examples.{window_at}
use Rattle.part_table.specs.Examples.{plain_partition}
use Rattle.part_table.specs.declared.partition.Partition.{Partition}
use Rattle.cli_explain.specs.Examples.{linked_part}
use Rattle.slot_choice.specs.declared.unit.Member.{Member}
use Rattle.boot_rules.specs.declared.slots.SlotFault.TheVariants.{Loop, NoTable}
use Rattle.boot_reasons.specs.declared.slots.TableReason.TheVariants.{Only}
use Rattle.boot_rules.specs.declared.decision.Decision.TheVariants.{Bootsel}
use Rattle.boot_rules.specs.declared.decision.Fall.TheVariants.{NoImage}
use Rattle.boot_map.specs.declared.maps.FlashMap.{FlashMap}
use Rattle.boot_map.specs.declared.maps.MapRow.{MapRow}
use Rattle.boot_map.specs.declared.maps.Pairing.{Pairing}
use Rattle.boot_map.specs.declared.places.MapPlace.{MapPlace}
use Rattle.boot_map.specs.declared.places.MapPlace.TheVariants.{Free}

-- a partition of sectors 2 to 3 with a name, two families by their bits and every permission
abbrev pub main_part : Partition
main_part =
    record (plain_partition (2 + 2 ^ 13 * 3 + 2 ^ 26 * 63) (2 ^ 14 + 2 ^ 17 + 2 ^ 12)) {
      name = Some (record { items = codes "main" });
    }

-- a map of a flash: its slot 0 has a table of version 1.9 with that partition and a linked one
abbrev pub table_map : FlashMap
table_map = record {
  decision = Bootsel NoImage;
  first = Ok (record {
    version = record { major = 1; minor = 9 };
    singleton = false;
    unpartitioned = 0;
    parts = record { items = main_part ∷ linked_part ∷ [] };
  });
  second = Err (Loop NoBlock);
  table = Some (record { slot = 0; because = Only });
  rows = record { items = [] };
}

-- a map of a flash that has no table
abbrev pub bare_map : FlashMap
bare_map = record table_map { first = Err NoTable; table = None }

-- a window without an image in its row
abbrev pub bare_row_at : MapPlace → ℕ → ℕ → MapRow
bare_row_at place start len = record {
  place = place;
  window = window_at start len;
  image = None;
  pair = None;
  starts = false;
}

-- a window with its image, or the first rule that it fails
abbrev pub row_with : MapPlace → ℕ → ℕ → Result Started Why → Option Pairing → Bool → MapRow
row_with place start len image pair starts = record {
  place = place;
  window = window_at start len;
  image = Some image;
  pair = pair;
  starts = starts;
}

-- a member of a pair, with the number of the other one
abbrev pub some_pairing : Member → ℕ → Option Pairing
some_pairing member other = Some (record { member = member; other = other })

-- the map of a flash of 32 KiB without a table; its slots have 8 KiB
abbrev pub three_rows : FlashMap
three_rows = record bare_map {
  rows = record {
    items = bare_row_at Free 0 0x2000 ∷ bare_row_at Free 0x2000 0x2000
        ∷ bare_row_at Free 0x4000 0x4000 ∷ [];
  };
}
