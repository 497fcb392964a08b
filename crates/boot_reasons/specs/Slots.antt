-- Whose table is that of the flash, and why, as functions. Source: RP2350 Datasheet, chapter 5,
-- "Partition tables". The choice between two tables and the reasons are this project's own.
use Rattle.std.specs.Prelude.{ℕ, ◌==◌, if◌then◌else◌, Option, Some, None}
use Rattle.part_table.specs.declared.table.Table.{Table}
use Rattle.slot_choice.specs.Versions.{are_different}
use Rattle.boot_rules.specs.Tables.{is_first_taken}
use Rattle.boot_reasons.specs.declared.slots.TableReason.{TableReason}
use Rattle.boot_reasons.specs.declared.slots.TableReason.TheVariants.{Only, Singleton, Version, Tie}
use Rattle.boot_reasons.specs.declared.slots.TableInForce.{TableInForce}

-- the slot whose table is that of the flash, and why
abbrev pub in_force : ℕ → TableReason → Option TableInForce
in_force slot because = Some (record { slot = slot; because = because })

-- why one of the tables of both slots is taken
abbrev pub table_reason : Table → Table → TableReason
table_reason first second =
    if first.singleton then Singleton
    else (if are_different first.version second.version then Version else Tie)

abbrev pub table_in_force : Option Table → Option Table → Option TableInForce
table_in_force None None = None
table_in_force None (Some second) = in_force 1 Only
table_in_force (Some first) None = in_force 0 Only
table_in_force (Some first) (Some second) =
    in_force (if is_first_taken first second then 0 else 1) (table_reason first second)

-- the table of the flash, of those of its slots
abbrev pub taken_table : Option TableInForce → Option Table → Option Table → Option Table
taken_table None first second = None
taken_table (Some taken) first second = if taken.slot == 0 then first else second
