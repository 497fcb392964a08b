-- Partitions, reports on units and reasons of the worked examples.
use Rattle.std.specs.Prelude.{ℕ, ◌+◌, ◌*◌, ◌^◌, false, true, List, [], ◌∷◌, Some, None, Ok, Err}
use Rattle.pico_board.specs.declared.boot.BootKind.TheVariants.{Normal}
use Rattle.pico_board.specs.declared.window.Window.{Window}
use Rattle.pico_board.specs.Examples.{window_at}
use Rattle.block_loop.specs.declared.fault.LoopFault.TheVariants.{NoBlock}
use Rattle.image_check.specs.declared.why.Why.TheVariants.{Digest, NoDefinition}
use Rattle.part_table.specs.Examples.{plain_partition}
use Rattle.part_table.specs.declared.partition.Partition.{Partition}
use Rattle.slot_choice.specs.declared.unit.Member.TheVariants.{A, B}
use Rattle.boot_reasons.specs.declared.looks.UnitReport.{UnitReport}
use Rattle.boot_reasons.specs.declared.looks.UnitReason.TheVariants.{Updated, Only as OnlyOne}
use Rattle.boot_reasons.specs.declared.reasons.Reasons.{Reasons}
use Rattle.boot_rules.specs.declared.slots.SlotFault.TheVariants.{Loop, NoTable}
use Rattle.boot_reasons.specs.declared.slots.TableReason.TheVariants.{Only}
use Rattle.boot_reasons.specs.Reasons.{reported_decision}
use Rattle.text_lines.specs.Examples.{example_choice, example_image}

-- a partition of sectors 2 to 3 with these flags and extra families; its three pairs of
-- permissions are read and write, read, and write
abbrev pub example_part : ℕ → List ℕ → Partition
example_part flags families =
    record (plain_partition (2 + 2 ^ 13 * 3 + 2 ^ 26 * 39) flags) {
      families = record { items = families };
    }

-- a partition of sectors 4 to 5 with the link "A is 0" and every permission
abbrev pub linked_part : Partition
linked_part = plain_partition (4 + 2 ^ 13 * 5 + 2 ^ 26 * 63) 2

-- a window of two sectors
abbrev pub two_sectors_at : ℕ → Window
two_sectors_at start = window_at start 0x2000

-- partition 0 stands alone, and has no image
abbrev pub alone_look : UnitReport
alone_look = record {
  unit = record { a = two_sectors_at 0x2000; b = None; a_part = Some 0; b_part = None };
  first = Err NoDefinition;
  second = None;
  taken = None;
}

-- partitions 1 and 2 are a pair; A alone has an image
abbrev pub pair_look : UnitReport
pair_look = record {
  unit = record {
    a = two_sectors_at 0x4000;
    b = Some (two_sectors_at 0x6000);
    a_part = Some 1;
    b_part = Some 2;
  };
  first = Ok (example_image 1 2 (Some 3) false);
  second = Some (Err Digest);
  taken = Some (record { member = A; window = two_sectors_at 0x4000; because = OnlyOne });
}

-- the two slots have images; the updated B is a trial
abbrev pub slots_look : UnitReport
slots_look = record {
  unit = record {
    a = two_sectors_at 0;
    b = Some (two_sectors_at 0x2000);
    a_part = None;
    b_part = None;
  };
  first = Ok (example_image 1 1 None false);
  second = Some (Ok (example_image 1 0 None true));
  taken = Some (record { member = B; window = two_sectors_at 0x2000; because = Updated });
}

-- the whole flash has an image
abbrev pub whole_look : UnitReport
whole_look = record {
  unit = record { a = two_sectors_at 0; b = None; a_part = None; b_part = None };
  first = Ok (example_image 0 0 None false);
  second = None;
  taken = Some (record { member = A; window = two_sectors_at 0; because = OnlyOne });
}

-- slot 0 has the only table, a singleton of version 1.9 with two partitions, and flash boot is off
abbrev pub table_reasons : Reasons
table_reasons = record {
  decision = reported_decision Normal true None;
  required = false;
  off = true;
  size = 0x1000;
  first = Ok (record {
    version = record { major = 1; minor = 9 };
    singleton = true;
    unpartitioned = 0;
    parts = record { items = example_part 0 [] ∷ linked_part ∷ [] };
  });
  second = Err (Loop NoBlock);
  table = Some (record { slot = 0; because = Only });
  looks = record { items = [] };
  unreached = 0;
}

-- no slot has a table, and the whole flash has an image
abbrev pub bare_reasons : Reasons
bare_reasons = record {
  decision = reported_decision Normal false (Some (example_choice (example_image 0 0 None false)));
  required = true;
  off = false;
  size = 0x1000;
  first = Err NoTable;
  second = Err (Loop NoBlock);
  table = None;
  looks = record { items = whole_look ∷ [] };
  unreached = 0;
}
