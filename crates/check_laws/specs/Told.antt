-- Which law speaks of the session of a script, as a function.
use Rattle.std.specs.Prelude.{ℕ, ◌+◌, ◌/◌, ◌&&◌, not, Bool, true, false, if◌then◌else◌, List, [], ◌∷◌, Option, Some, None, Result, Ok, Err}
use Rattle.pico_board.specs.declared.Step.{Step}
use Rattle.pico_board.specs.declared.boot.Cpu.{Cpu}
use Rattle.pico_board.specs.declared.window.Window.{Window}
use Rattle.pico_board.specs.Content.{Content, window_bytes}
use Rattle.pico_board.specs.Steps.{after_all}
use Rattle.block_codec.specs.Blocks.{BlockView}
use Rattle.block_loop.specs.declared.fault.LoopFault.{LoopFault}
use Rattle.block_loop.specs.Loop.{loop_of}
use Rattle.image_def.specs.declared.started.Started.{Started}
use Rattle.image_check.specs.declared.why.Why.{Why}
use Rattle.image_check.specs.Image.{image_at}
use Rattle.boot_script.specs.Events.{EventView}
use Rattle.boot_machine.specs.Plays.{powerless}
use Rattle.boot_session.specs.Slots.{session_slot}
use Rattle.boot_firm.specs.Firmness.{has_no_other}
use Rattle.boot_tape.specs.Traces.{moves_in, noted}
use Rattle.check_laws.specs.declared.found.Reason.TheVariants as reasons
use Rattle.check_laws.specs.declared.found.SessionFound.{SessionFound}
use Rattle.check_laws.specs.declared.found.SessionFound.TheVariants as found
use Rattle.check_laws.specs.Hosting.{host_writes, hosted_events, is_hosted_on}
use Rattle.check_laws.specs.Hosts.{first_content}
use Rattle.check_laws.specs.Kept.{slot_law}
use Rattle.check_laws.specs.SessionLaws.{host_steps}
use Rattle.check_laws.specs.Staged.{is_off_page}

-- the last step, and none before it, programs the page
abbrev pub ends_on : ℕ → List Step → Bool
ends_on page [] = false
ends_on page (step ∷ []) = not (is_off_page page step)
ends_on page (step ∷ (next ∷ steps)) = is_off_page page step && ends_on page (next ∷ steps)

-- where a loop begins
abbrev pub first_at : List BlockView → ℕ
first_at [] = 0
first_at (b ∷ loop) = b.at

-- steps that lead to a window with these bytes write the page of the loop's first block last, and no
-- other block stands in the first sector
abbrev pub is_staged_by : Window → List ℕ → List Step → Result Started Why
    → Result (List BlockView) LoopFault → Bool
is_staged_by w bytes steps (Err why) loop = false
is_staged_by w bytes steps (Ok image) (Err fault) = false
is_staged_by w bytes steps (Ok image) (Ok loop) =
    ends_on ((w.start + first_at loop) / 256) steps && has_no_other bytes loop 1024

-- gated steps that lead to z are staged on the window
abbrev pub is_staged : Content → Cpu → Window → List Step → Bool
is_staged z cpu w steps =
    is_staged_by w (window_bytes z w) steps (image_at z w cpu true) (loop_of (window_bytes z w))

-- the law of steps whose first one lies in this window, or in none
abbrev pub steps_told : Content → Cpu → List Step → Option Window → SessionFound
steps_told c cpu steps None = found.Open reasons.Windows
steps_told c cpu steps (Some w) =
    slot_law c cpu (after_all c steps) steps w (is_staged (after_all c steps) cpu w steps)

-- the law of a host's script, where it is one
abbrev pub hosts_told : Content → Cpu → List EventView → Bool → SessionFound
hosts_told c cpu events hosts =
    if hosts then steps_told (first_content c cpu) cpu (host_steps c cpu events)
    (session_slot (first_content c cpu) cpu (host_steps c cpu events))
    else found.Open reasons.Script

-- the law of the session of a script
abbrev pub session_told : Content → Cpu → List EventView → SessionFound
session_told c cpu events =
    if host_writes (noted (powerless c cpu) events) (moves_in (powerless c cpu) events)
    then hosts_told c cpu events (is_hosted_on (first_content c cpu) cpu (hosted_events events))
    else found.Silent
