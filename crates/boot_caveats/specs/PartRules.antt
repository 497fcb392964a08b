-- What is to be looked up of the partitions of the table of the flash, as rules.
use Rattle.std.specs.Prelude.{◌≡◌, ◌≢◌, ◌⊎◌, ℕ, true, false, List, slice_get, Option, Some}
use Rattle.pico_board.specs.declared.boot.Cpu.TheVariants.{Arm, Riscv}
use Rattle.part_table.specs.declared.partition.Partition.{Partition}
use Rattle.part_table.specs.declared.table.Table.{Table}
use Rattle.part_table.specs.Fields.{is_ignored, link_value}
use Rattle.part_table.specs.Links.{is_owned, is_second}
use Rattle.part_table.specs.Partitions.{part_at}
use Rattle.part_table.specs.Windows.{part_window}
use Rattle.boot_rules.specs.declared.decision.Decision.{Decision}
use Rattle.slot_caveats.specs.declared.caveat.Caveat.{Caveat}
use Rattle.slot_caveats.specs.declared.caveat.Caveat.TheVariants.{IgnoreFlags, NoRead}
use Rattle.slot_caveats.specs.Listing.{IsWhere}
use Rattle.boot_caveats.specs.ChoiceRules.{StartsIn}
use Rattle.boot_caveats.specs.PartCaveats.{is_readable}
use Rattle.slot_caveats.specs.TableRules.{AreOfParts}

-- a partition is the B of a pair whose A has no owner, and one of its two ignore flags differs
-- from that of its A
pub record HasOtherIgnores (parts : List Partition) (i : ℕ) : Type 0 where
  pub first : Partition
  pub second : is_second (part_at parts i) ≡ true
  pub linked : slice_get parts (link_value (part_at parts i)) ≡ Some first
  pub free : is_owned first ≡ false
  pub differs : (is_ignored Arm (part_at parts i) ≢ is_ignored Arm first)
      ⊎ (is_ignored Riscv (part_at parts i) ≢ is_ignored Riscv first)

abbrev pub IsIgnoreFlags : List Partition → ℕ → List Caveat → Type 0
IsIgnoreFlags parts i = IsWhere (HasOtherIgnores parts i) (IgnoreFlags i)

abbrev pub AreIgnoreFlags : Option Table → List Caveat → Type 0
AreIgnoreFlags table = AreOfParts table IsIgnoreFlags

-- the decision is a start in a partition, whose location word lacks secure read
abbrev pub IsNoRead : Decision → List Partition → ℕ → List Caveat → Type 0
IsNoRead d parts i =
    IsWhere
    (StartsIn d (part_window (part_at parts i)) × (is_readable (part_at parts i) ≡ false))
    (NoRead i)

abbrev pub AreNoReads : Decision → Option Table → List Caveat → Type 0
AreNoReads d table = AreOfParts table (IsNoRead d)
