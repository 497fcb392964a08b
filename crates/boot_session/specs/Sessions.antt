-- The session of a script: what its host writes, from BOOTSEL on, up to the boot that it asks for.
use Rattle.std.specs.Prelude.{◌≡◌, ◌⊎◌, ⊤, ℕ, ◌<◌, Bool, true, false, MatchBool, if◌then◌else◌, List, [], ◌∷◌, ◌++◌, length, Option, Some, None}
use Rattle.pico_board.specs.declared.Step.{Step}
use Rattle.pico_board.specs.declared.boot.Cpu.{Cpu}
use Rattle.pico_board.specs.declared.boot.BootKind.{BootKind}
use Rattle.pico_board.specs.declared.window.Window.{Window}
use Rattle.pico_board.specs.Content.{Content}
use Rattle.pico_board.specs.Steps.{CutOf, after_all}
use Rattle.part_table.specs.Windows.{partition_window}
use Rattle.ram_start.specs.Sram.{zero_ram}
use Rattle.boot_rules.specs.declared.tables.Found.{Found}
use Rattle.boot_rules.specs.Chosen.{IsBootMember}
use Rattle.boot_rules.specs.Tables.{table_in}
use Rattle.boot_script.specs.Events.{EventView}
use Rattle.boot_machine.specs.Boots.{booted}
use Rattle.boot_machine.specs.Machines.{Host, StateView, Off, InBootsel, Running}
use Rattle.boot_machine.specs.Serving.{is_hosted, served_event}

-- BOOTSEL as it is entered on a content
abbrev pub entered_host : Content → Host
entered_host c = record { found = table_in c; placing = None; ram = zero_ram }

-- what follows an event: nothing where it asks for a boot or leaves BOOTSEL
abbrev pub going_on : (Host → List Step) → Option BootKind → StateView → List Step
going_on rest (Some kind) place = []
going_on rest None Off = []
going_on rest None (Running program) = []
going_on rest None (InBootsel host) = rest host

-- the steps of the events of a host, each on the content that those before it leave; other events
-- are passed over
abbrev pub session_from : Content → Cpu → Host → List EventView → List Step
session_from c cpu host [] = []
session_from c cpu host (event ∷ events) =
    if is_hosted event then (let s = served_event c cpu host event in s.steps
    ++ going_on (λ next. session_from (after_all c s.steps) cpu next events) s.boot s.place)
    else session_from c cpu host events

-- the session of a script's events: their steps on a machine that has entered BOOTSEL
abbrev pub session : Content → Cpu → List EventView → List Step
session c cpu events = session_from c cpu (entered_host c) events

-- the window of a partition of the content's table, or, where it has none, of a member of its pair
abbrev pub IsSlotOf : Content → Cpu → Window → Type 0
IsSlotOf c cpu w =
    ((found : Found) × (i : ℕ) × (table_in c ≡ Some found) × (i < length found.table.parts.items)
    × (w ≡ partition_window found.table i))
    ⊎ ((table_in c ≡ None) × IsBootMember c w cpu)

-- the event makes a boot by itself
abbrev pub makes_boot : EventView → Bool
makes_boot EventView.PowerOn = true
makes_boot (EventView.Reset kind) = true
makes_boot event = false

-- what follows an event that asks for no boot and stays in BOOTSEL
abbrev pub stays_on : (Host → Type 0) → Option BootKind → StateView → Type 0
stays_on rest (Some kind) place = ⊥
stays_on rest None Off = ⊥
stays_on rest None (Running program) = ⊥
stays_on rest None (InBootsel host) = rest host

-- none of the events makes a boot, asks for one, or starts an image in RAM
abbrev pub StaysIn : Content → Cpu → Host → List EventView → Type 0
StaysIn c cpu host [] = ⊤
StaysIn c cpu host (event ∷ events) =
    (makes_boot event ≡ false)
    × MatchBool (is_hosted event) (let s = served_event c cpu host event in
    stays_on (λ next. StaysIn (after_all c s.steps) cpu next events) s.boot s.place)
    (StaysIn c cpu host events)

-- power was lost in what a boot on the content writes
abbrev pub IsCutBoot : Content → Cpu → Content → Type 0
IsCutBoot c cpu d = (kind : BootKind) × CutOf c (booted c cpu kind None).steps d
