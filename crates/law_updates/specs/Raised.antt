-- Rows that boots raise between two playings of a host's script.
use Rattle.std.specs.Prelude.{◌≡◌, ℕ, zero, suc, ◌≤◌, if◌then◌else◌, List, [], ◌∷◌, Option, Some, None, Contains}
use Rattle.std.specs.List.{AllByRecursion}
use Rattle.pico_board.specs.declared.Step.{Step}
use Rattle.pico_board.specs.declared.step.Step.TheVariants.{Erase, Program, Raise}
use Rattle.pico_board.specs.declared.boot.Cpu.{Cpu}
use Rattle.pico_board.specs.declared.boot.BootKind.{BootKind}
use Rattle.pico_board.specs.declared.boot.BootKind.TheVariants.{Normal}
use Rattle.pico_board.specs.Content.{Content}
use Rattle.pico_board.specs.Steps.{MayLeave, after_all}
use Rattle.otp_roll.specs.Rows.{IsOutside}
use Rattle.otp_roll.specs.declared.rows.TheConstants.{FIRST_ROW}
use Rattle.image_def.specs.declared.started.Started.{Started}
use Rattle.boot_script.specs.Events.{EventView}
use Rattle.boot_machine.specs.Boots.{booted}
use Rattle.boot_machine.specs.Machines.{Host, StateView, Off, InBootsel, Running, FromFlash, FromRam}
use Rattle.boot_machine.specs.Serving.{is_hosted, served_event}
use Rattle.boot_session.specs.Sessions.{entered_host}
use Rattle.law_updates.specs.Again.{NamesRow}

-- the step raises a row for which this holds
abbrev pub IsRaiseOf : (ℕ → Type 0) → Step → Type 0
IsRaiseOf Row (Raise row bits) = Row row
IsRaiseOf Row (Erase s) = ⊥
IsRaiseOf Row (Program p d) = ⊥

-- the image in RAM that an event has started; else, where the event asks for no boot and stays in
-- BOOTSEL, the one that those behind it start
abbrev pub ram_started_on : (Host → Option Started) → Option BootKind → StateView → Option Started
ram_started_on rest boot Off = None
ram_started_on rest boot (Running (FromFlash choice)) = None
ram_started_on rest boot (Running (FromRam image)) = Some image
ram_started_on rest (Some kind) (InBootsel host) = None
ram_started_on rest None (InBootsel host) = rest host

-- the image in RAM that the events of a host start, if they start one
abbrev pub ram_started : Content → Cpu → Host → List EventView → Option Started
ram_started c cpu host [] = None
ram_started c cpu host (event ∷ events) =
    if is_hosted event then (let s = served_event c cpu host event in
    ram_started_on (λ next. ram_started (after_all c s.steps) cpu next events) s.boot s.place)
    else ram_started c cpu host events

-- No OTP write of the events names the row, and it is in no triple of the image in RAM that they
-- start on c.
pub record IsUntouched (c : Content) (cpu : Cpu) (events : List EventView) (row : ℕ)
    : Type 0 where
  pub unnamed : AllByRecursion (λ (event : EventView). NamesRow event row → ⊥) events
  pub apart : (image : Started) (r : ℕ) → ram_started c cpu (entered_host c) events ≡ Some image
      → Contains image.rows.items r → IsOutside row r

-- Boots between two playings of the events may raise the row: images may list it, or one before it,
-- and the events leave it alone.
pub record MayRise (c : Content) (cpu : Cpu) (events : List EventView) (row : ℕ)
    : Type 0 where
  pub listed : FIRST_ROW ≤ row
  pub untouched : IsUntouched c cpu events row

-- a normal boot on the content raises the row
abbrev pub IsRaisedBy : Content → Cpu → ℕ → Type 0
IsRaisedBy c cpu row = (bits : ℕ) × Contains (booted c cpu Normal None).steps (Raise row bits)

-- what m normal boots leave, one after another, each of them done or cut by a loss of power; and
-- this holds for each row that they raise
abbrev pub AreLeftByBoots : (ℕ → Type 0) → ℕ → Content → Cpu → Content → Type 0
AreLeftByBoots Row zero x cpu y = y ≡ x
AreLeftByBoots Row (suc m) x cpu y =
    (w : Content) × AreLeftByBoots Row m x cpu w × ((row : ℕ) → IsRaisedBy w cpu row → Row row)
    × MayLeave w (booted w cpu Normal None).steps y
