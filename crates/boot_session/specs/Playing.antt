-- What serving a host does to a board of which no cut is armed: every step completes.
use Rattle.std.specs.Prelude.{◌≡◌, Bool, true, false, IsTrue, List, Option, Some, None}
use Rattle.pico_board.specs.declared.Step.{Step}
use Rattle.pico_board.specs.declared.boot.BootKind.{BootKind}
use Rattle.pico_board.specs.Board.{State}
use Rattle.pico_board.specs.Histories.{Extends}
use Rattle.pico_board.specs.Steps.{after_all}
use Rattle.boot_script.specs.Events.{EventView}
use Rattle.boot_machine.specs.declared.parts.Parts.{Parts}
use Rattle.boot_machine.specs.Machines.{Host, StateView, Off, InBootsel, Running}
use Rattle.boot_machine.specs.Serving.{served_event}
use Rattle.boot_machine.specs.Standing.{IsHost}

-- the session goes on in BOOTSEL with this host, or it is over
abbrev pub GoesOnWith : {B : Type 0} → Bool → Parts B → Option BootKind → StateView → Type 0
GoesOnWith goes_on new (Some kind) place = goes_on ≡ false
GoesOnWith goes_on new None Off = goes_on ≡ false
GoesOnWith goes_on new None (Running program) = goes_on ≡ false
GoesOnWith goes_on new None (InBootsel host) = (goes_on ≡ true) × IsHost new host

module _ {B : Type 0} (state : B → State) (history : B → List Step → Type 0) where
  -- the board has done these steps and is as it was otherwise: powered, with no cut armed
  pub record HasServed (old : B) (steps : List Step) (new : B) : Type 0 where
    pub content : (state new).content ≡ after_all (state old).content steps
    pub power : IsTrue (state new).powered
    pub unarmed : (state new).armed ≡ Some None
    pub recorded : Extends history old steps new

  -- an event of a host was served, and the session goes on or is over
  pub record IsServedOn (old : Parts B) (event : EventView) (goes_on : Bool) (new : Parts B)
      (host : Host) : Type 0 where
    pub board : HasServed old.board (served_event
        (state old.board).content old.cpu host event).steps
        new.board
    pub cpu : new.cpu ≡ old.cpu
    pub next : GoesOnWith goes_on new (served_event
        (state old.board).content old.cpu host event).boot
        (served_event (state old.board).content old.cpu host event).place

  abbrev pub GoesOn : Parts B → EventView → Bool → Parts B → Type 0
  GoesOn old event goes_on new = (host : Host) → IsHost old host
      → IsServedOn old event goes_on new host
