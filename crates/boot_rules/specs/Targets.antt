-- Where a download of a UF2 family goes: `target_of`.
use Rattle.std.specs.Prelude.{ℕ, ◌<◌, Bool, false, IfSome, ◌==◌, ◌||◌, List, length, Option, Some, None, option_map}
use Rattle.std.specs.Option.{option_map_or}
use Rattle.pico_board.specs.declared.boot.Cpu.{Cpu}
use Rattle.pico_board.specs.declared.window.Window.{Window}
use Rattle.pico_board.specs.Content.{Content}
use Rattle.otp_roll.specs.Flags.{slot_size}
use Rattle.part_table.specs.declared.partition.Partition.{Partition}
use Rattle.part_table.specs.declared.table.Table.{Table}
use Rattle.part_table.specs.declared.target.Target.{Target}
use Rattle.part_table.specs.Families.{arm_ns_family, arm_s_family, riscv_family}
use Rattle.part_table.specs.Fields.{is_staying}
use Rattle.part_table.specs.Links.{owner_of}
use Rattle.part_table.specs.Partitions.{part_at}
use Rattle.slot_choice.specs.declared.unit.Member.{Member}
use Rattle.slot_choice.specs.declared.unit.Member.TheVariants.{A, B}
use Rattle.slot_choice.specs.declared.unit.SlotUnit.{SlotUnit}
use Rattle.slot_choice.specs.LoadUnits.{load_unit}
use Rattle.slot_choice.specs.Units.{unit_of}
use Rattle.boot_rules.specs.Picking.{taken_member, AreInside}

-- the three families of executables for the RP2350
abbrev pub is_executable : ℕ → Bool
is_executable family = family == arm_s_family || family == riscv_family || family == arm_ns_family

-- the unit whose choice decides on the member of a load unit: that of its A's owner where A has
-- one, and itself otherwise
abbrev pub deciding_in : List Partition → SlotUnit → Option ℕ → SlotUnit
deciding_in parts u None = u
deciding_in parts u (Some i) = option_map_or (unit_of parts) (owner_of (part_at parts i)) u

abbrev pub deciding_unit : Option Table → SlotUnit → SlotUnit
deciding_unit None u = u
deciding_unit (Some t) u = deciding_in t.parts.items u u.a_part

-- the target's member of a pair: B where A would be taken in the deciding unit, and A otherwise. So
-- an owned pair is written where its owner's choice would not read, and another pair where its own
-- would not.
abbrev pub member_for : Option Member → Member
member_for (Some A) = B
member_for (Some B) = A
member_for None = A

-- bit 13 of a partition's flags; what is no partition has none
abbrev pub is_staying_target : Option Table → Option ℕ → Bool
is_staying_target None i = false
is_staying_target (Some t) None = false
is_staying_target (Some t) (Some i) = is_staying (part_at t.parts.items i)

-- a target in the member of a pair, whose B has this window
abbrev pub pair_target : Option Table → ℕ → SlotUnit → Window → Member → Target
pair_target t family u second A =
    record { window = u.a; gated = is_executable family; stay = is_staying_target t u.a_part }
pair_target t family u second B =
    record { window = second; gated = is_executable family; stay = is_staying_target t u.b_part }

-- the target in a load unit whose B is given, where it has one
abbrev pub unit_target : Content → Option Table → Cpu → ℕ → SlotUnit → Option Window → Target
unit_target c t cpu family u None =
    record { window = u.a; gated = false; stay = is_staying_target t u.a_part }
unit_target c t cpu family u (Some second) =
    pair_target t family u second (member_for (taken_member c cpu (deciding_unit t u)))

-- the target of a family for a table, or none
abbrev pub target_of : Content → Option Table → Cpu → ℕ → Option Target
target_of c t cpu family =
    option_map (λ (u : SlotUnit). unit_target c t cpu family u u.b)
    (load_unit t (length c.flash) (slot_size c.otp (length c.flash)) family)

-- a load unit stands inside a flash of n bytes, and so does the unit that decides on its member.
-- Its A is a partition of the table, where it is one
pub record AreLoadsOf (n : ℕ) (t : Option Table) (u : SlotUnit) : Type 0 where
  pub inside : AreInside n u
  pub decides : AreInside n (deciding_unit t u)
  pub part : IfSome t (λ t. IfSome u.a_part (λ i. i < length t.parts.items))
