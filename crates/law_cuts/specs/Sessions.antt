-- Scripts that are one session of a host: what the host's events leave, and the boot that the last
-- of them asks for.
use Rattle.std.specs.Prelude.{◌&&◌, is_none, Bool, true, false, if◌then◌else◌, List, [], ◌∷◌, Option, Some, None}
use Rattle.pico_board.specs.declared.Step.{Step}
use Rattle.pico_board.specs.declared.boot.Cpu.{Cpu}
use Rattle.pico_board.specs.declared.boot.BootKind.{BootKind}
use Rattle.pico_board.specs.declared.boot.BootKind.TheVariants.{Normal}
use Rattle.pico_board.specs.Content.{Content}
use Rattle.pico_board.specs.Steps.{after_all}
use Rattle.boot_script.specs.Events.{EventView}
use Rattle.boot_machine.specs.Boots.{booted, entered}
use Rattle.boot_machine.specs.Machines.{StateView}
use Rattle.boot_machine.specs.Serving.{is_hosted}
use Rattle.check_laws.specs.Hosting.{hosted_events}
use Rattle.check_laws.specs.Hosts.{served_at}

-- the content that a host leaves, and the boot from flash that it asks for at last, if any
pub record Closing : Type 0 where
  pub content : Content
  pub boot : Option BootKind

-- what events leave from this state on, where the event before them asked for this boot or for
-- none. All are for a host, and none follows one that asks for a boot.
abbrev pub closing : Content → Cpu → StateView → Option BootKind → List EventView → Option Closing
closing c cpu place asked [] = Some (record { content = c; boot = asked })
closing c cpu place asked (event ∷ events) =
    if is_none asked && is_hosted event then (let s = served_at c cpu place event in
    closing (after_all c s.steps) cpu s.place s.boot events)
    else None

-- no step is done
abbrev pub is_empty : List Step → Bool
is_empty [] = true
is_empty (step ∷ steps) = false

-- the boot writes nothing
abbrev pub is_quiet : Content → Cpu → BootKind → Bool
is_quiet c cpu kind = is_empty (booted c cpu kind None).steps

-- the boot at the end, if one is asked for, writes nothing
abbrev pub is_quiet_boot : Content → Cpu → Option BootKind → Bool
is_quiet_boot c cpu None = true
is_quiet_boot c cpu (Some kind) = is_quiet c cpu kind

abbrev pub ends_quietly : Cpu → Option Closing → Bool
ends_quietly cpu None = false
ends_quietly cpu (Some end) = is_quiet_boot end.content cpu end.boot

abbrev pub closes_quietly : Content → Cpu → Option (List EventView) → Bool
closes_quietly c cpu None = false
closes_quietly c cpu (Some events) = ends_quietly cpu (closing c cpu (entered c) None events)

-- The script is PowerOn, Reset BOOTSEL, and then events of a host, at most the last of which asks
-- for a boot. The boots on c and after the last event write nothing. So its trace is its session.
abbrev pub is_one_session : Content → Cpu → List EventView → Bool
is_one_session c cpu events =
    is_quiet c cpu Normal && closes_quietly c cpu (hosted_events events)
