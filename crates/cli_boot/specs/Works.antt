-- The work of the commands on a board, as a function of its content.
use Rattle.std.specs.Prelude.{ℕ, Bool, true, false, List, [], ◌∷◌, ◌++◌, map, length, Option, Some, None, option_map, option_to_list}
use Rattle.std.specs.List.{flat_map}
use Rattle.pico_board.specs.declared.boot.Cpu.{Cpu}
use Rattle.pico_board.specs.declared.boot.BootKind.{BootKind}
use Rattle.pico_board.specs.declared.window.Window.{Window}
use Rattle.pico_board.specs.Content.{Content}
use Rattle.otp_roll.specs.Flags.{slot_size}
use Rattle.part_table.specs.Windows.{part_window}
use Rattle.slot_choice.specs.declared.unit.SlotUnit.{SlotUnit}
use Rattle.slot_choice.specs.Units.{units}
use Rattle.image_check.specs.Image.{image_at}
use Rattle.boot_rules.specs.declared.decision.Decision.{Decision}
use Rattle.boot_rules.specs.declared.decision.Decision.TheVariants.{Start, Bootsel}
use Rattle.boot_rules.specs.declared.tables.Found.{Found}
use Rattle.boot_rules.specs.Choosing.{decision_in}
use Rattle.boot_rules.specs.Tables.{table_in}
use Rattle.boot_rules.specs.Data.{data_of}
use Rattle.cli_course.specs.Outcomes.{Work, Answers, line}
use Rattle.text_lines.specs.Texts.{decision_line, table_text, image_text, data_text}

-- a decision is a fall to BOOTSEL
abbrev pub is_fall : Decision → Bool
is_fall (Start choice) = false
is_fall (Bootsel fall) = true

abbrev pub boot_work : Content → Cpu → BootKind → Work
boot_work c cpu kind =
    Answers (is_fall (decision_in c cpu kind)) (decision_line (decision_in c cpu kind)) []

-- the windows of a unit's members, A first
abbrev pub unit_windows : SlotUnit → List Window
unit_windows u = u.a ∷ option_to_list u.b

-- the windows of a flash of n bytes with slots of z bytes: those of the table's partitions, in
-- table order; without a table those of the members of its one unit
abbrev pub windows_of : Option Found → ℕ → ℕ → Cpu → List Window
windows_of None n z cpu = flat_map unit_windows (units None n z cpu)
windows_of (Some found) n z cpu = map part_window found.table.parts.items

-- the windows of a content
abbrev pub windows_in : Content → Cpu → List Window
windows_in c cpu = windows_of (table_in c) (length c.flash) (slot_size c.otp (length c.flash)) cpu

-- the line of a window: its image is valid with trial not allowed, or why it is not
abbrev pub window_line : Content → Cpu → Window → List ℕ
window_line c cpu w = line (image_text w (image_at c w cpu false))

abbrev pub info_work : Content → Cpu → Work
info_work c cpu =
    Answers false
    (line (table_text (table_in c)) ++ flat_map (window_line c cpu) (windows_in c cpu)) []

-- the windows of the data of a decision; a fall has none
abbrev pub decided_data : Content → Decision → List Window
decided_data c (Start choice) = data_of (option_map (λ found. found.table) (table_in c)) choice
decided_data c (Bootsel fall) = []

-- the line of a window of data
abbrev pub data_line : Window → List ℕ
data_line w = line (data_text w)

abbrev pub data_work : Content → Cpu → BootKind → Work
data_work c cpu kind =
    let d = decision_in c cpu kind in Answers (is_fall d)
    (decision_line d ++ flat_map data_line (decided_data c d)) []
