-- The boot units of a flash.
use Rattle.std.specs.Prelude.{◌≡◌, ◌⊎◌, ℕ, Bool, ◌&&◌, not, List, [], ◌∷◌, length, map, filter, nat_lt, if◌then◌else◌}
use Rattle.std.specs.Prelude.{Option, None, Some, option_map}
use Rattle.std.specs.List.{range_with_len}
use Rattle.pico_board.specs.declared.boot.Cpu.{Cpu}
use Rattle.pico_board.specs.declared.window.Window.{Window}
use Rattle.part_table.specs.declared.partition.Partition.{Partition}
use Rattle.part_table.specs.declared.table.Table.{Table}
use Rattle.part_table.specs.Fields.{is_ignored}
use Rattle.part_table.specs.Links.{is_second, is_owned, pair_of}
use Rattle.part_table.specs.Partitions.{part_at}
-- other crates may name this from here as well
pub use Rattle.part_table.specs.Sound.{IsSoundFor}
use Rattle.part_table.specs.Windows.{part_window}
use Rattle.slot_choice.specs.declared.unit.SlotUnit.{SlotUnit}
use Rattle.slot_choice.specs.declared.unit.Member.{Member}
use Rattle.slot_choice.specs.declared.unit.Member.TheVariants.{A, B}

-- the partitions that pass a test are listed by their numbers, in table order
abbrev pub parts_where : (Partition → Bool) → List Partition → List ℕ
parts_where test parts = filter (λ i. test (part_at parts i)) (range_with_len 0 (length parts))

-- a partition is the A of a boot unit where it is no B, has no owner and is not ignored for the
-- processor (RP2350 Datasheet, chapter 5, Bootrom)
abbrev pub begins_boot_unit : Cpu → Partition → Bool
begins_boot_unit cpu p = not (is_second p) && not (is_owned p) && not (is_ignored cpu p)

-- the unit of a partition is a pair with its B where it has one, or else the partition alone
-- (RP2350 Datasheet, chapter 5, Bootrom)
abbrev pub unit_of : List Partition → ℕ → SlotUnit
unit_of parts i = record {
  a = part_window (part_at parts i);
  b = option_map (λ j. part_window (part_at parts j)) (pair_of parts i);
  a_part = Some i;
  b_part = pair_of parts i;
}

-- the whole flash of n bytes is a unit with one member (RP2350 Datasheet, chapter 5, Bootrom)
abbrev pub whole_flash : ℕ → SlotUnit
whole_flash n = record { a = record { start = 0; len = n }; b = None; a_part = None; b_part = None }

-- slot 0 and slot 1 of z bytes each are a pair (RP2350 Datasheet, chapter 5, Bootrom)
abbrev pub slot_pair : ℕ → SlotUnit
slot_pair z = record {
  a = record { start = 0; len = z };
  b = Some (record { start = z; len = z });
  a_part = None;
  b_part = None;
}

-- without a table there is one unit: the pair of slots where the slot size is above 4096, or else
-- the whole flash (RP2350 Datasheet, chapter 5, Bootrom)
abbrev pub tableless_unit : ℕ → ℕ → SlotUnit
tableless_unit n z = if nat_lt 4096 z then slot_pair z else whole_flash n

-- the boot units in a flash of n bytes with slots of z bytes: with a table those of its
-- partitions, in table order; without one the one unit of such a flash (RP2350 Datasheet, chapter
-- 5, Bootrom)
abbrev pub units : Option Table → ℕ → ℕ → Cpu → List SlotUnit
units None n z cpu = tableless_unit n z ∷ []
units (Some t) n z cpu =
    map (unit_of t.parts.items) (parts_where (begins_boot_unit cpu) t.parts.items)

-- the window of a member of a unit is A's or, where the unit is a pair, B's
abbrev pub member_window : Member → SlotUnit → Option Window
member_window A u = Some u.a
member_window B u = u.b

-- a window is a member of a unit where it is A's or B's
abbrev pub IsMember : SlotUnit → Window → Type 0
IsMember u w = (w ≡ u.a) ⊎ (u.b ≡ Some w)
