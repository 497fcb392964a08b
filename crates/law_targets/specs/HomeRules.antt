-- Boot members of a flash with a table, as rules.
use Rattle.std.specs.Prelude.{◌≡◌, ◌≢◌, ◌⊎◌, ℕ, false, true}
use Rattle.pico_board.specs.declared.boot.Cpu.{Cpu}
use Rattle.pico_board.specs.declared.window.Window.{Window}
use Rattle.pico_board.specs.Content.{Content}
use Rattle.part_table.specs.declared.partition.Partition.{Partition}
use Rattle.part_table.specs.declared.table.Table.{Table}
use Rattle.part_table.specs.declared.target.Target.{Target}
use Rattle.part_table.specs.Fields.{is_ignored, link_type}
use Rattle.part_table.specs.Windows.{part_window}
use Rattle.law_targets.specs.Loads.{IsLoadPart}
use Rattle.law_targets.specs.Pairs.{IsPart, IsSecondOf}
use Rattle.law_targets.specs.TargetRules.{IsPairTarget}

-- a partition that has no owner and is not ignored for the processor
pub record MayBoot (cpu : Cpu) (p : Partition) : Type 0 where
  pub no_owner : link_type p ≢ 2
  pub not_ignored : is_ignored cpu p ≡ false

-- the window is that of a member of a pair of partitions; the pair's A is no B, has no owner and
-- is not ignored for the processor
pub record IsInBootPair (t : Table) (cpu : Cpu) (w : Window) : Type 0 where
  pub number : ℕ
  pub first : Partition
  pub stands : IsPart t number first
  pub no_second : link_type first ≢ 1
  pub boots : MayBoot cpu first
  pub other : ℕ
  pub second : Partition
  pub pair : IsSecondOf t number other second
  pub member : (w ≡ part_window first) ⊎ (w ≡ part_window second)

-- the window is that of a member of a pair of partitions; the pair's A is no B, and has an owner
-- or is ignored for the processor
pub record IsInKeptPair (t : Table) (cpu : Cpu) (w : Window) : Type 0 where
  pub number : ℕ
  pub first : Partition
  pub stands : IsPart t number first
  pub no_second : link_type first ≢ 1
  pub kept : (link_type first ≡ 2) ⊎ (is_ignored cpu first ≡ true)
  pub other : ℕ
  pub second : Partition
  pub pair : IsSecondOf t number other second
  pub member : (w ≡ part_window first) ⊎ (w ≡ part_window second)

-- the target is a member of the pair that loads the family; the pair's A has no owner and is not
-- ignored for the processor
pub record IsBootMemberTarget (c : Content) (t : Table) (cpu : Cpu) (family : ℕ) (target : Target)
    : Type 0 where
  pub number : ℕ
  pub first : Partition
  pub load : IsLoadPart t family number first
  pub pair : IsPairTarget c t cpu family number first target
  pub boots : MayBoot cpu first
