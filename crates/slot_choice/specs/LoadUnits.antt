-- The unit that a download of a UF2 family goes to.
use Rattle.std.specs.Prelude.{ℕ, Bool, true, ◌==◌, ◌&&◌, not, List, find, nat_le, if◌then◌else◌}
use Rattle.std.specs.Prelude.{Option, None, Some, option_map}
use Rattle.std.specs.Option.{option_map_or}
use Rattle.part_table.specs.declared.partition.Partition.{Partition}
use Rattle.part_table.specs.declared.table.Table.{Table}
use Rattle.part_table.specs.Families.{absolute_family, data_family, arm_ns_family, accepts, accepts_absolute}
use Rattle.part_table.specs.Links.{is_second}
use Rattle.part_table.specs.Partitions.{part_at}
use Rattle.slot_choice.specs.declared.unit.SlotUnit.{SlotUnit}
use Rattle.slot_choice.specs.Units.{parts_where, unit_of, whole_flash, tableless_unit}

-- a partition is the A of a load unit where it is no B; owned and ignored partitions are kept
abbrev pub begins_load_unit : Partition → Bool
begins_load_unit p = not (is_second p)

-- the load units of a table are the units of these partitions, in table order; the first whose A
-- accepts the family is taken
abbrev pub accepting_unit : List Partition → ℕ → Option SlotUnit
accepting_unit parts family =
    option_map (unit_of parts)
    (find (λ i. accepts (part_at parts i) family) (parts_where begins_load_unit parts))

-- the absolute family goes to the whole flash where there is no table or the table accepts that
-- family
abbrev pub absolute_unit : Option Table → ℕ → Option SlotUnit
absolute_unit t n = if option_map_or accepts_absolute t true then Some (whole_flash n) else None

-- without a table the one boot unit takes the families data, rp2350-arm-s, rp2350-riscv and
-- rp2350-arm-ns; their numbers follow each other; no other family has a unit
abbrev pub family_unit : Option Table → ℕ → ℕ → ℕ → Option SlotUnit
family_unit None n z family =
    if nat_le data_family family && nat_le family arm_ns_family then Some (tableless_unit n z)
    else None
family_unit (Some t) n z family = accepting_unit t.parts.items family

-- the unit of a download of a family, with or without a table, in a flash of n bytes with slots of
-- z bytes
abbrev pub load_unit : Option Table → ℕ → ℕ → ℕ → Option SlotUnit
load_unit t n z family =
    if family == absolute_family then absolute_unit t n else family_unit t n z family
