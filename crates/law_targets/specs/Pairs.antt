-- Pairs of partitions, as rules (RP2350 Datasheet, chapter 5, "Partition tables").
use Rattle.std.specs.Prelude.{◌≡◌, ℕ, slice_get, Option, None, Some}
use Rattle.pico_board.specs.declared.window.Window.{Window}
use Rattle.part_table.specs.declared.partition.Partition.{Partition}
use Rattle.part_table.specs.declared.table.Table.{Table}
use Rattle.part_table.specs.Fields.{link_type, link_value}
use Rattle.part_table.specs.Windows.{part_window}

-- p is partition i of the table
abbrev pub IsPart : Table → ℕ → Partition → Type 0
IsPart t i p = slice_get t.parts.items i ≡ Some p

-- a partition's link says "A is i": partition i is the A of a pair, and this partition is the B
abbrev pub SaysFirst : Partition → ℕ → Type 0
SaysFirst p i = (link_type p ≡ 1) × (link_value p ≡ i)

-- a partition's link says that partition i is its owner
abbrev pub SaysOwner : Partition → ℕ → Type 0
SaysOwner p i = (link_type p ≡ 2) × (link_value p ≡ i)

-- partition j, which is q, is the B of partition i
pub record IsSecondOf (t : Table) (i j : ℕ) (q : Partition) : Type 0 where
  pub stands : IsPart t j q
  pub says : SaysFirst q i

-- partition i has no B
abbrev pub HasNoSecond : Table → ℕ → Type 0
HasNoSecond t i = (j : ℕ) (q : Partition) → IsSecondOf t i j q → ⊥

-- the window of the B of partition i, where it has one
abbrev pub IsSecondWindow : Table → ℕ → Option Window → Type 0
IsSecondWindow t i None = HasNoSecond t i
IsSecondWindow t i (Some w) =
    (j : ℕ) × (q : Partition) × IsSecondOf t i j q × (w ≡ part_window q)

-- the windows of partition i and of its B
pub record AreWindowsOf (t : Table) (i : ℕ) (one : Window) (two : Option Window) : Type 0 where
  pub part : Partition
  pub stands : IsPart t i part
  pub first : one ≡ part_window part
  pub second : IsSecondWindow t i two
