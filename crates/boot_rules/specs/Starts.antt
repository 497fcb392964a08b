-- What a start says of the content that it is chosen on.
use Rattle.std.specs.Prelude.{◌≡◌, ◌⊎◌, ℕ, ◌<◌, length, slice_get, true, Option, Some}
use Rattle.pico_board.specs.declared.boot.Cpu.{Cpu}
use Rattle.pico_board.specs.declared.window.Window.{Window}
use Rattle.pico_board.specs.Content.{Content}
use Rattle.otp_roll.specs.Flags.{slot_size}
use Rattle.part_table.specs.declared.table.Table.{Table}
use Rattle.part_table.specs.Fields.{is_ignored}
use Rattle.part_table.specs.Links.{is_owned}
use Rattle.part_table.specs.Partitions.{part_at}
use Rattle.slot_choice.specs.declared.choice.Choice.{Choice}
use Rattle.slot_choice.specs.declared.unit.SlotUnit.{SlotUnit}
use Rattle.slot_choice.specs.LoadUnits.{load_unit}
use Rattle.slot_choice.specs.Units.{IsMember, member_window, unit_of}
use Rattle.boot_rules.specs.declared.tables.Found.{Found}
use Rattle.boot_rules.specs.Choosing.{boot_units_in, other_of}
use Rattle.boot_rules.specs.Tables.{table_in}
pub use Rattle.boot_rules.specs.Tables.{table_of_content}

-- the unit that a download of a family goes to, for the content's own table
abbrev pub load_unit_in : Content → ℕ → Option SlotUnit
load_unit_in c family = load_unit (table_of_content c) (length c.flash)
    (slot_size c.otp (length c.flash)) family

-- the started image stands in a member of a boot unit, and `other` is the other member of that unit
pub record IsOfUnit (c : Content) (cpu : Cpu) (choice : Choice) (unit : SlotUnit) : Type 0 where
  pub place : ℕ
  pub tried : slice_get (boot_units_in c cpu) place ≡ Some unit
  pub stands : member_window choice.member unit ≡ Some choice.image.window
  pub other : choice.other ≡ member_window (other_of choice.member) unit

-- the unit of an owned pair of partitions: its A has an owner, and it has a B
pub record IsOwnedPair (t : Table) (u : SlotUnit) (second : Window) : Type 0 where
  pub part : ℕ
  pub first : u.a_part ≡ Some part
  pub owned : is_owned (part_at t.parts.items part) ≡ true
  pub pair : u.b ≡ Some second

-- the window is a member of a unit of a partition that begins no boot unit, since it has an owner
-- or is ignored for the processor
pub record IsOfKeptUnit (c : Content) (cpu : Cpu) (w : Window) : Type 0 where
  pub found : Found
  pub part : ℕ
  pub table : table_in c ≡ Some found
  pub within : part < length found.table.parts.items
  pub member : IsMember (unit_of found.table.parts.items part) w
  pub kept : (is_owned (part_at found.table.parts.items part) ≡ true)
      ⊎ (is_ignored cpu (part_at found.table.parts.items part) ≡ true)
