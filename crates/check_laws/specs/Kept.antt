-- Which law the steps of a host have, as a function.
use Rattle.std.specs.Prelude.{Bool, not, if◌then◌else◌, is_none, is_some, List}
use Rattle.std.specs.List.{list_all}
use Rattle.pico_board.specs.declared.Step.{Step}
use Rattle.pico_board.specs.declared.boot.Cpu.{Cpu}
use Rattle.pico_board.specs.declared.boot.BootKind.TheVariants.{Normal}
use Rattle.pico_board.specs.declared.window.Window.{Window}
use Rattle.pico_board.specs.Content.{Content}
use Rattle.boot_rules.specs.Choosing.{decision_in}
use Rattle.boot_rules.specs.Tables.{table_in}
use Rattle.boot_session.specs.Slots.{is_confined}
use Rattle.boot_sweep.specs.Refusals.{gains_table, is_start_in, ungated_in}
use Rattle.check_laws.specs.declared.found.Reason.TheVariants as reasons
use Rattle.check_laws.specs.declared.found.SessionFound.{SessionFound}
use Rattle.check_laws.specs.declared.found.SessionFound.TheVariants as found
use Rattle.check_laws.specs.declared.session.SlotBefore.{SlotBefore}

-- of steps that keep to the window, in which no image runs, and that leave the table
abbrev pub held_law : Content → List Step → Window → Bool → SessionFound
held_law c steps w staged =
    if is_none (ungated_in w steps) then (if staged then found.Staged w else found.Gated w)
    else if is_some (table_in c) then found.Confined w else found.Open reasons.Order

-- of steps whose first one lies in the window
abbrev pub slot_law : Content → Cpu → Content → List Step → Window → Bool → SessionFound
slot_law c cpu z steps w staged =
    if not (list_all (is_confined w) steps) then found.Open reasons.Windows
    else if is_start_in w (decision_in c cpu Normal) then found.Open reasons.Running
    else if gains_table (table_in c) (table_in z) then found.Open reasons.Table
    else held_law c steps w staged

-- what the content before the steps tells of the window that they keep to
abbrev pub slot_seen : Content → Cpu → Window → SlotBefore
slot_seen c cpu w =
    record { window = w; starts = is_start_in w (decision_in c cpu Normal); table = table_in c }
