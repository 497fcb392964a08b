use Rattle.boot_script.specs.Scripts.{script_events}
use Rattle.boot_machine.specs.Machines.{Host}
use Rattle.boot_machine.specs.Standing.{IsHost}
use Rattle.boot_session.proofs.SessionLemmas.{PlaysOn}
use Rattle.boot_session.proofs.session.play.Given as goal

-- the events before those that are left were served, and the session is not over
abbrev pub invariant-loop-event : goal.invariant-loop-event
invariant-loop-event g l = (host : Host) → IsHost l.fn.machine host
    → PlaysOn g.B.Board.state g.B.Board.history l.fn.machine l.machine (script_events l.script.bytes.now)
    l.event-iterator host
