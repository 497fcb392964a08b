use Rattle.std.proofs.Common.{◌+◌, ◌<◌, ◌≤◌, length}
use Rattle.pico_board.specs.MemBoard.{state_of}
use Rattle.boot_script.specs.declared.limits.TheConstants.{RECORD_LIMIT}
use Rattle.boot_script.specs.Scripts.{script_events}
use Rattle.boot_machine.specs.Plays.{powerless}
use Rattle.boot_tape.specs.Checkpoints.{IsCheckpoint}
use Rattle.boot_tape.specs.Moving.{moves_from}
use Rattle.boot_tape.specs.Playing.{IsPlay, IsTapeIn}
use Rattle.boot_tape.proofs.playing.trace_on.Given as goal

-- the events before those that are left were played, and completed few enough steps
abbrev pub invariant-loop-event : goal.invariant-loop-event
invariant-loop-event l = record {
  ready : IsTapeIn (length (state_of l.board).content.flash) l.tape;
  short : l.tape.done ≤ 262144;
  kept : IsCheckpoint (state_of l.board).content (moves_from l.tape.moves.items) l.player.kept;
  few : l.number + length l.event-iterator < RECORD_LIMIT;
  play : IsPlay l.player.machine l.tape (powerless (state_of l.board).content l.cpu)
      (script_events l.script.bytes.now) l.event-iterator l.number;
}
