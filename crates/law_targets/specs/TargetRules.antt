-- `target_of` as rules: where a download of a UF2 family goes. Source: RP2350 Datasheet, chapter
-- 5, "UF2 targeting rules". The profile is this project's own.
use Rattle.std.specs.Prelude.{◌≡◌, ◌≢◌, ◌⊎◌, ◌↔◌, ℕ, ◌<◌, ◌≤◌, false, true, length, None, Option, Some}
use Rattle.std.specs.Int.{bit_at}
use Rattle.pico_board.specs.declared.boot.Cpu.{Cpu}
use Rattle.pico_board.specs.declared.window.Window.{Window}
use Rattle.pico_board.specs.Content.{Content}
use Rattle.otp_roll.specs.Flags.{slot_size}
use Rattle.part_table.specs.declared.partition.Partition.{Partition}
use Rattle.part_table.specs.declared.table.Table.{Table}
use Rattle.part_table.specs.declared.target.Target.{Target}
use Rattle.part_table.specs.Families.{absolute_family}
use Rattle.part_table.specs.Fields.{link_type}
use Rattle.part_table.specs.Windows.{part_window}
use Rattle.slot_choice.specs.declared.unit.Member.{Member}
use Rattle.slot_choice.specs.declared.unit.Member.TheVariants.{A, B}
use Rattle.law_targets.specs.Loads.{AcceptsAbsolute, IsExecutable, IsLoadPart, IsSlotFamily}
use Rattle.law_targets.specs.Pairs.{AreWindowsOf, HasNoSecond, IsSecondOf, SaysOwner}
use Rattle.law_targets.specs.Taking.{TakesFirst, TakesNeither, TakesSecond}

-- the slot size of a content, and its whole flash
abbrev pub slot_size_in : Content → ℕ
slot_size_in c = slot_size c.otp (length c.flash)

abbrev pub flash_window : Content → Window
flash_window c = record { start = 0; len = length c.flash }

-- the member of a pair that a normal boot would not take is written; A is written where the boot
-- would take neither
abbrev pub WritesOther : Content → Cpu → Window → Window → Member → Type 0
WritesOther c cpu one two A = TakesSecond c cpu one two ⊎ TakesNeither c cpu one two
WritesOther c cpu one two B = TakesFirst c cpu one (Some two)

-- a normal boot would take A of the unit of partition i
pub record WouldTakeFirst (c : Content) (t : Table) (cpu : Cpu) (i : ℕ) : Type 0 where
  pub one : Window
  pub two : Option Window
  pub windows : AreWindowsOf t i one two
  pub takes : TakesFirst c cpu one two

-- of a pair that partition i owns, B is written where a normal boot would take A of the owner's
-- unit; otherwise A is written
abbrev pub FollowsOwner : Content → Table → Cpu → ℕ → Member → Type 0
FollowsOwner c t cpu i A = ¬ (WouldTakeFirst c t cpu i)
FollowsOwner c t cpu i B = WouldTakeFirst c t cpu i

-- which member of a pair of partitions is written: an owned pair follows its owner; another pair
-- is written where a boot would not read it
abbrev pub WritesMember : Content → Table → Cpu → Partition → Partition → Member → Type 0
WritesMember c t cpu p q m =
    ((i : ℕ) × SaysOwner p i × FollowsOwner c t cpu i m)
    ⊎ ((link_type p ≢ 2) × WritesOther c cpu (part_window p) (part_window q) m)

-- the partition of a member of a pair, and the window of a member
abbrev pub partition_of_member : Member → Partition → Partition → Partition
partition_of_member A p q = p
partition_of_member B p q = q

abbrev pub window_of_member : Member → Window → Window → Window
window_of_member A one two = one
window_of_member B one two = two

-- bit 13 of a partition says whether the chip stays in BOOTSEL after a download into it
abbrev pub StaysBy : Partition → Target → Type 0
StaysBy p target = (target.stay ≡ true) ↔ (bit_at p.flags 13 ≡ 1)

-- a download into a member of a pair is gated where it is of executables
abbrev pub IsGatedBy : ℕ → Target → Type 0
IsGatedBy family target = (target.gated ≡ true) ↔ IsExecutable family

-- the whole flash is never gated, and the chip does not stay
pub record IsWholeFlash (c : Content) (target : Target) : Type 0 where
  pub window : target.window ≡ flash_window c
  pub gated : target.gated ≡ false
  pub stays : target.stay ≡ false

-- the absolute family goes to the whole flash
pub record IsAbsoluteTarget (c : Content) (t : Option Table) (family : ℕ) (target : Target)
    : Type 0 where
  pub absolute : family ≡ absolute_family
  pub accepts : AcceptsAbsolute t
  pub whole : IsWholeFlash c target

-- partition i, which is p, has no B: the target is that partition, and not gated
pub record IsLoneTarget (t : Table) (i : ℕ) (p : Partition) (target : Target) : Type 0 where
  pub lone : HasNoSecond t i
  pub window : target.window ≡ part_window p
  pub gated : target.gated ≡ false
  pub stays : StaysBy p target

-- partition i, which is p, has a B: the target is a member of the pair, and this member's own bit
-- 13 is read
pub record IsPairTarget (c : Content) (t : Table) (cpu : Cpu) (family i : ℕ) (p : Partition)
    (target : Target) : Type 0 where
  pub number : ℕ
  pub second : Partition
  pub pair : IsSecondOf t i number second
  pub member : Member
  pub written : WritesMember c t cpu p second member
  pub window : target.window ≡ part_window (partition_of_member member p second)
  pub gated : IsGatedBy family target
  pub stays : StaysBy (partition_of_member member p second) target

-- another family goes to the unit of the first partition that may load it
pub record IsPartTarget (c : Content) (t : Table) (cpu : Cpu) (family : ℕ) (target : Target)
    : Type 0 where
  pub other : family ≢ absolute_family
  pub number : ℕ
  pub first : Partition
  pub load : IsLoadPart t family number first
  pub placed : IsLoneTarget t number first target
      ⊎ IsPairTarget c t cpu family number first target

-- without a table the pair of slots is written where a boot would not read it
pub record IsSlotTarget (c : Content) (cpu : Cpu) (family : ℕ) (target : Target) : Type 0 where
  pub large : 4096 < slot_size_in c
  pub member : Member
  pub written : WritesOther c cpu (record { start = 0; len = slot_size_in c })
      (record { start = slot_size_in c; len = slot_size_in c }) member
  pub window : target.window ≡ window_of_member member (record { start = 0; len = slot_size_in c })
      (record { start = slot_size_in c; len = slot_size_in c })
  pub gated : IsGatedBy family target
  pub stays : target.stay ≡ false

-- without a table, where the slots are of the smallest size, the target is the whole flash
pub record IsSmallTarget (c : Content) (target : Target) : Type 0 where
  pub small : slot_size_in c ≤ 4096
  pub whole : IsWholeFlash c target

-- a flash without a table, by the family
pub record IsTablelessTarget (c : Content) (cpu : Cpu) (family : ℕ) (target : Target)
    : Type 0 where
  pub taken : IsSlotFamily family
  pub placed : IsSlotTarget c cpu family target ⊎ IsSmallTarget c target

-- the target of another family than the absolute one
abbrev pub IsUnitTarget : Content → Option Table → Cpu → ℕ → Target → Type 0
IsUnitTarget c None cpu family target = IsTablelessTarget c cpu family target
IsUnitTarget c (Some t) cpu family target = IsPartTarget c t cpu family target

-- the target of a family for a table, as rules
abbrev pub IsTarget : Content → Option Table → Cpu → ℕ → Target → Type 0
IsTarget c t cpu family target =
    IsAbsoluteTarget c t family target ⊎ IsUnitTarget c t cpu family target
