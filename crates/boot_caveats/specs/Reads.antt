-- What the reads of a board need: the windows that are read stand inside the flash, and rows are
-- rollback rows.
use Rattle.std.specs.Prelude.{ℕ, ◌/◌, ◌<◌, ◌≤◌, List, All}
use Rattle.otp_roll.specs.Rows.{AreRollbackRows}
use Rattle.part_table.specs.declared.partition.Partition.{Partition}
use Rattle.part_table.specs.Fields.{first_sector, last_sector}
use Rattle.slot_choice.specs.declared.choice.Choice.{Choice}
use Rattle.boot_rules.specs.declared.decision.Decision.{Decision}
use Rattle.boot_rules.specs.declared.decision.Decision.TheVariants.{Start, Bootsel}
use Rattle.boot_rules.specs.Picking.{AreInside, IsInside}
use Rattle.boot_reasons.specs.declared.looks.UnitReport.{UnitReport}

-- the image that starts stands inside a flash of n bytes and lists rollback rows
pub record IsReadableChoice (n : ℕ) (choice : Choice) : Type 0 where
  pub inside : IsInside n choice.image.window
  pub rows : AreRollbackRows choice.image.rows.items

abbrev pub HasReadableStart : ℕ → Decision → Type 0
HasReadableStart n (Start choice) = IsReadableChoice n choice
HasReadableStart n (Bootsel fall) = Unit {0}

-- the members of the units that are looked at stand inside a flash of n bytes
abbrev pub AreLooksInside : ℕ → List UnitReport → Type 0
AreLooksInside n looks = All (λ (look : UnitReport). AreInside n look.unit) looks

-- partitions stand inside a flash of n bytes
abbrev pub ArePartsInside : ℕ → List Partition → Type 0
ArePartsInside n parts =
    All (λ p. (first_sector p ≤ last_sector p) × (last_sector p < n / 4096)) parts
