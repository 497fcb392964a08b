-- Why a boot decides as it does, as a function of the content.
use Rattle.std.specs.Prelude.{ℕ, ◌-◌, Bool, true, false, not, if◌then◌else◌, List, [], length, Option, None, Result, Ok, Err}
use Rattle.std.specs.Result.{result_ok}
use Rattle.pico_board.specs.declared.boot.Cpu.{Cpu}
use Rattle.pico_board.specs.declared.boot.BootKind.{BootKind}
use Rattle.pico_board.specs.declared.boot.BootKind.TheVariants.{Normal, Update, Bootsel as AskBootsel}
use Rattle.pico_board.specs.declared.window.Window.{Window}
use Rattle.pico_board.specs.Content.{Content}
use Rattle.image_def.specs.declared.started.Started.{Started}
use Rattle.image_check.specs.declared.why.Why.{Why}
use Rattle.image_check.specs.Image.{image_at}
use Rattle.otp_roll.specs.Flags.{flash_off, rollback_required, slot_size}
use Rattle.part_table.specs.declared.table.Table.{Table}
use Rattle.slot_choice.specs.declared.choice.Choice.{Choice}
use Rattle.boot_rules.specs.declared.decision.Decision.{Decision}
use Rattle.boot_rules.specs.declared.decision.Decision.TheVariants.{Bootsel}
use Rattle.boot_rules.specs.declared.decision.Fall.TheVariants.{Requested, FlashOff}
use Rattle.boot_rules.specs.Choosing.{Order, boot_units_in, decision_of, order_of}
use Rattle.boot_reasons.specs.declared.slots.TableInForce.{TableInForce}
use Rattle.boot_reasons.specs.declared.looks.UnitReport.{UnitReport}
use Rattle.boot_reasons.specs.declared.reasons.Reasons.{Reasons}
use Rattle.boot_rules.specs.Tables.{slot_answer_in}
use Rattle.boot_reasons.specs.Slots.{taken_table, table_in_force}
use Rattle.boot_reasons.specs.Looks.{first_choice, reports_of}

-- the image of each window of a content, or why there is none
abbrev pub results_in : Content → Cpu → Window → Bool → Result Started Why
results_in c cpu w trial = image_at c w cpu trial

-- a boot looks at units where it does not ask for BOOTSEL and flash boot is on
abbrev pub does_report : BootKind → Bool → Bool
does_report AskBootsel off = false
does_report Normal off = not off
does_report (Update base) off = not off

-- the units that a boot looks at, in their order, where it looks at any
abbrev pub order_where : Bool → BootKind → Content → Cpu → Order
order_where true kind c cpu = order_of kind (boot_units_in c cpu)
order_where false kind c cpu = record { units = []; updated = None }

abbrev pub order_in : Content → Cpu → BootKind → Order
order_in c cpu kind = order_where (does_report kind (flash_off c.otp)) kind c cpu

-- the reports of a boot on its units
abbrev pub reports_in : Content → Cpu → BootKind → List UnitReport
reports_in c cpu kind =
    let order = order_in c cpu kind in reports_of (results_in c cpu) order.units order.updated

-- how many units are not reached
abbrev pub unreached_in : Content → Cpu → BootKind → ℕ
unreached_in c cpu kind =
    length (order_in c cpu kind).units - length (reports_in c cpu kind)

-- the decision by the choice of the first report with an image that is taken
abbrev pub reported_decision : BootKind → Bool → Option Choice → Decision
reported_decision AskBootsel off choice = Bootsel Requested
reported_decision Normal off choice = if off then Bootsel FlashOff else decision_of choice
reported_decision (Update base) off choice = if off then Bootsel FlashOff else decision_of choice

-- the slot whose table is that of the flash, and why
abbrev pub table_in_force_in : Content → Option TableInForce
table_in_force_in c = table_in_force (result_ok (slot_answer_in c 0))
    (result_ok (slot_answer_in c 1))

-- the reasons of a boot
unfoldable pub reasons_in : Content → Cpu → BootKind → Reasons
reasons_in c cpu kind = record {
  decision = reported_decision kind (flash_off c.otp) (first_choice (reports_in c cpu kind));
  required = rollback_required c.otp;
  off = flash_off c.otp;
  size = slot_size c.otp (length c.flash);
  first = slot_answer_in c 0;
  second = slot_answer_in c 1;
  table = table_in_force_in c;
  looks = record { items = reports_in c cpu kind };
  unreached = unreached_in c cpu kind;
}

-- the table of the flash by its reasons
abbrev pub table_of_reasons : Reasons → Option Table
table_of_reasons r = taken_table r.table (result_ok r.first) (result_ok r.second)
