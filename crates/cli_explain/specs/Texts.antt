-- The texts of the reasons of a boot.
use Rattle.std.specs.Prelude.{ℕ, zero, suc, ◌+◌, Bool, List, [], ◌∷◌, ◌++◌, length, Option, Some, None, Result, Ok, Err, codes, decimal}
use Rattle.pico_board.specs.declared.window.Window.{Window}
use Rattle.block_loop.specs.declared.fault.LoopFault.TheVariants.{NoBlock, Broken, TooMany, Overlap}
use Rattle.image_def.specs.declared.started.Started.{Started}
use Rattle.image_check.specs.declared.why.Why.{Why}
use Rattle.part_table.specs.declared.table.Table.{Table}
use Rattle.slot_choice.specs.declared.unit.SlotUnit.{SlotUnit}
use Rattle.boot_rules.specs.declared.slots.SlotFault.{SlotFault}
use Rattle.boot_rules.specs.declared.slots.SlotFault.TheVariants.{Loop, NoTable, Table as Faulty}
use Rattle.boot_reasons.specs.declared.slots.TableReason.{TableReason}
use Rattle.boot_reasons.specs.declared.slots.TableReason.TheVariants.{Only, Singleton, Version, Tie}
use Rattle.boot_reasons.specs.declared.slots.TableInForce.{TableInForce}
use Rattle.boot_reasons.specs.declared.looks.UnitReport.{UnitReport}
use Rattle.boot_reasons.specs.declared.looks.TakenImage.{TakenImage}
use Rattle.boot_reasons.specs.declared.looks.UnitReason.{UnitReason}
use Rattle.boot_reasons.specs.declared.looks.UnitReason.TheVariants.{Updated, Only as OnlyOne, Version as Greater, Tie as Equal}
use Rattle.boot_reasons.specs.declared.reasons.Reasons.{Reasons}
use Rattle.boot_reasons.specs.Reasons.{table_of_reasons}
use Rattle.text_words.specs.Writing.{hex_word, yes_or_no}
use Rattle.text_lines.specs.Faults.{loop_text}
use Rattle.text_lines.specs.Texts.{decision_line, invalid_text, valid_text, version_text, window_text}
use Rattle.cli_course.specs.Outcomes.{line}
use Rattle.cli_inputs.specs.JsonTexts.{table_fault_text}
use Rattle.cli_explain.specs.Partitions.{partition_lines}

-- what the OTP says of a boot: whether rollback versions are required; whether flash boot is off;
-- and the size of a table slot
abbrev pub otp_text : Bool → Bool → ℕ → List ℕ
otp_text required off size =
    codes "otp rollback-required="
    ++ (yes_or_no required ++ (codes " flash-off=" ++ (yes_or_no off
    ++ (codes " slot-size=" ++ hex_word size))))

-- why a slot has no table
abbrev pub slot_fault_text : SlotFault → List ℕ
slot_fault_text (Loop NoBlock) = codes "no-block"
slot_fault_text (Loop (Broken at)) = loop_text (Broken at)
slot_fault_text (Loop TooMany) = loop_text TooMany
slot_fault_text (Loop (Overlap i j)) = loop_text (Overlap i j)
slot_fault_text NoTable = codes "no-table"
slot_fault_text (Faulty fault) = table_fault_text fault

-- the table of a slot
abbrev pub slot_table_text : Table → List ℕ
slot_table_text t =
    codes "table "
    ++ (version_text t.version ++ (codes " partitions=" ++ (decimal (length t.parts.items)
    ++ (codes " singleton=" ++ yes_or_no t.singleton))))

-- a slot by its number: its table, or why it has none
abbrev pub slot_text : ℕ → Result Table SlotFault → List ℕ
slot_text number (Ok t) = codes "slot " ++ (decimal number ++ (codes " " ++ slot_table_text t))
slot_text number (Err fault) =
    codes "slot " ++ (decimal number ++ (codes " fault=" ++ slot_fault_text fault))

-- why the table of a slot is that of the flash
abbrev pub table_reason_text : TableReason → List ℕ
table_reason_text Only = codes "only"
table_reason_text Singleton = codes "singleton"
table_reason_text Version = codes "version"
table_reason_text Tie = codes "tie"

-- the slot whose table is that of the flash, and why, or none
abbrev pub told_text : Option TableInForce → List ℕ
told_text None = codes "table none"
told_text (Some taken) =
    codes "table slot="
    ++ (decimal taken.slot ++ (codes " because=" ++ table_reason_text taken.because))

-- the lines of the partitions of a table
abbrev pub table_lines : Option Table → List ℕ
table_lines None = []
table_lines (Some t) = partition_lines 0 t.parts.items

-- what a unit is: a pair of partitions, one alone, the two slots, or the whole flash
abbrev pub pair_text : ℕ → Option ℕ → List ℕ
pair_text first None = codes "alone " ++ decimal first
pair_text first (Some second) =
    codes "pair " ++ (decimal first ++ (codes " " ++ decimal second))

abbrev pub windows_text : Option Window → List ℕ
windows_text None = codes "whole"
windows_text (Some w) = codes "slots"

abbrev pub unit_kind_text : SlotUnit → Option ℕ → List ℕ
unit_kind_text u None = windows_text u.b
unit_kind_text u (Some first) = pair_text first u.b_part

-- a unit by its number
abbrev pub unit_text : ℕ → SlotUnit → List ℕ
unit_text k u = codes "unit " ++ (decimal k ++ (codes " " ++ unit_kind_text u u.a_part))

-- a member's image, and whether it is a trial, or why it has none
abbrev pub member_text : Window → Result Started Why → List ℕ
member_text w (Ok s) = valid_text w s ++ (codes " trial=" ++ yes_or_no s.trial)
member_text w (Err why) = invalid_text w why

-- the line of a second member, where there is one
abbrev pub second_line : Option Window → Option (Result Started Why) → List ℕ
second_line None image = []
second_line (Some w) None = []
second_line (Some w) (Some image) = line (member_text w image)

-- why an image is taken
abbrev pub unit_reason_text : UnitReason → List ℕ
unit_reason_text Updated = codes "updated"
unit_reason_text OnlyOne = codes "only"
unit_reason_text Greater = codes "version"
unit_reason_text Equal = codes "tie"

-- the window whose image is taken, and why, or none
abbrev pub taken_text : Option TakenImage → List ℕ
taken_text None = codes "none"
taken_text (Some taken) =
    window_text taken.window ++ (codes " because=" ++ unit_reason_text taken.because)

abbrev pub takes_text : ℕ → Option TakenImage → List ℕ
takes_text k taken = codes "unit " ++ (decimal k ++ (codes " takes " ++ taken_text taken))

-- the lines of the report on the unit of a number
abbrev pub look_lines : ℕ → UnitReport → List ℕ
look_lines k look =
    line (unit_text k look.unit)
    ++ (line (member_text look.unit.a look.first) ++ (second_line look.unit.b look.second
    ++ line (takes_text k look.taken)))

-- the lines of the reports on units numbered from k on
abbrev pub looks_lines : ℕ → List UnitReport → List ℕ
looks_lines k [] = []
looks_lines k (look ∷ looks) = look_lines k look ++ looks_lines (k + 1) looks

-- a unit that is not reached
abbrev pub unreached_text : ℕ → List ℕ
unreached_text k = codes "unit " ++ (decimal k ++ codes " not-reached")

-- the lines of so many units that are not reached, numbered from k on
abbrev pub unreached_lines : ℕ → ℕ → List ℕ
unreached_lines k zero = []
unreached_lines k (suc n) = line (unreached_text k) ++ unreached_lines (k + 1) n

-- the lines of the units
abbrev pub units_lines : List UnitReport → ℕ → List ℕ
units_lines looks unreached = looks_lines 0 looks ++ unreached_lines (length looks) unreached

-- the lines of the slots, and of the table of the flash with its partitions
abbrev pub tables_lines : Reasons → List ℕ
tables_lines r =
    line (slot_text 0 r.first)
    ++ (line (slot_text 1 r.second)
    ++ (line (told_text r.table) ++ table_lines (table_of_reasons r)))

-- the text of the reasons
abbrev pub explain_text : Reasons → List ℕ
explain_text r =
    decision_line r.decision
    ++ (line (otp_text r.required r.off r.size)
    ++ (tables_lines r ++ units_lines r.looks.items r.unreached))
