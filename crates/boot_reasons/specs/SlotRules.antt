-- Whose table is that of the flash, and why, as rules. Source: RP2350 Datasheet, chapter 5,
-- "Partition tables". The choice between two tables and the reasons are this project's own.
use Rattle.std.specs.Prelude.{◌≡◌, ◌≢◌, ℕ, zero, suc, true, Option, Some, None}
use Rattle.pico_board.specs.Content.{Content}
use Rattle.part_table.specs.declared.table.Table.{Table}
use Rattle.boot_rules.specs.TableRules.{IsSlotTable, IsTableIn}
use Rattle.boot_rules.specs.declared.tables.Found.{Found}
use Rattle.boot_reasons.specs.declared.slots.TableReason.{TableReason}
use Rattle.boot_reasons.specs.declared.slots.TableReason.TheVariants.{Only, Singleton, Version, Tie}
use Rattle.boot_reasons.specs.declared.slots.TableInForce.{TableInForce}

-- the number of the other slot
abbrev pub other_slot : ℕ → ℕ
other_slot zero = 1
other_slot (suc n) = 0

-- the reasons for the table of a slot: the other slot has none; slot 0 has a singleton table; the
-- versions of both differ; they are equal
abbrev pub IsOnlyTable : Content → ℕ → Type 0
IsOnlyTable c slot = (u : Table) → IsSlotTable c (other_slot slot) u → ⊥

abbrev pub HasSingleton : Content → Type 0
HasSingleton c = (t : Table) × IsSlotTable c 0 t × (t.singleton ≡ true)

abbrev pub AreOfTwoVersions : Content → Type 0
AreOfTwoVersions c =
    (t : Table) × (u : Table) × IsSlotTable c 0 t × IsSlotTable c 1 u × (t.version ≢ u.version)

abbrev pub AreOfOneVersion : Content → Type 0
AreOfOneVersion c =
    (t : Table) × (u : Table) × IsSlotTable c 0 t × IsSlotTable c 1 u × (t.version ≡ u.version)

-- the reason is the first of these that holds
abbrev pub IsTableReason : Content → ℕ → TableReason → Type 0
IsTableReason c slot Only = IsOnlyTable c slot
IsTableReason c slot Singleton = (IsOnlyTable c slot → ⊥) × HasSingleton c
IsTableReason c slot Version =
    (IsOnlyTable c slot → ⊥) × (HasSingleton c → ⊥) × AreOfTwoVersions c
IsTableReason c slot Tie =
    (IsOnlyTable c slot → ⊥) × (HasSingleton c → ⊥) × (AreOfTwoVersions c → ⊥) × AreOfOneVersion c

-- the table of the flash stands in this slot, for this reason, or there is none
abbrev pub IsTableInForce : Content → Option TableInForce → Type 0
IsTableInForce c None = (found : Found) → IsTableIn c found → ⊥
IsTableInForce c (Some taken) =
    ((t : Table) × IsTableIn c (record { slot = taken.slot; table = t }))
    × IsTableReason c taken.slot taken.because
