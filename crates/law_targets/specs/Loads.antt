-- Which partition, or which unit of a flash without a table, takes a UF2 family, as rules.
use Rattle.std.specs.Prelude.{◌≡◌, ◌≢◌, ◌⊎◌, ℕ, ◌+◌, ◌<◌, Contains, Option, Some}
use Rattle.std.specs.Int.{bit_at}
use Rattle.part_table.specs.declared.partition.Partition.{Partition}
use Rattle.part_table.specs.declared.table.Table.{Table}
use Rattle.part_table.specs.Fields.{link_type}
use Rattle.part_table.specs.Families.{arm_ns_family, arm_s_family, data_family, riscv_family, rp2040_family}
use Rattle.law_targets.specs.Pairs.{IsPart}

-- one of the three families of executables for the RP2350
abbrev pub IsExecutable : ℕ → Type 0
IsExecutable family =
    (family ≡ arm_s_family) ⊎ ((family ≡ riscv_family) ⊎ (family ≡ arm_ns_family))

-- bit 14 + k of the flags stands for the k-th of the six families, from rp2040 on
pub record HasFamilyBit (p : Partition) (family : ℕ) : Type 0 where
  pub number : ℕ
  pub named : number < 6
  pub family_is : family ≡ rp2040_family + number
  pub set : bit_at p.flags (14 + number) ≡ 1

-- a partition accepts a family by its bit or among its extra families
abbrev pub Accepts : Partition → ℕ → Type 0
Accepts p family = HasFamilyBit p family ⊎ Contains p.families.items family

-- a partition that is no B, and accepts the family; owned and ignored ones count
pub record MayLoad (p : Partition) (family : ℕ) : Type 0 where
  pub first : link_type p ≢ 1
  pub accepts : Accepts p family

-- the first such partition of the table
pub record IsLoadPart (t : Table) (family : ℕ) (i : ℕ) (p : Partition) : Type 0 where
  pub stands : IsPart t i p
  pub may : MayLoad p family
  pub earliest : (j : ℕ) (q : Partition) → j < i → IsPart t j q → MayLoad q family → ⊥

-- the families, other than the absolute one, that a flash without a table takes
abbrev pub IsSlotFamily : ℕ → Type 0
IsSlotFamily family = (family ≡ data_family) ⊎ IsExecutable family

-- the whole flash is open to the absolute family: there is no table, or it accepts that family
abbrev pub AcceptsAbsolute : Option Table → Type 0
AcceptsAbsolute t = (table : Table) → t ≡ Some table → bit_at table.unpartitioned 15 ≡ 1
