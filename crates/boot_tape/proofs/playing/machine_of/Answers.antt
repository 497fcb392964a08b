use Rattle.std.proofs.Common.{[], arith, subst, sym}
use Rattle.pico_board.specs.declared.mem_board.MemBoard.{MemBoard}
use Rattle.boot_session.specs.declared.recorder.Recorder.{Recorder}
use Rattle.boot_session.specs.Recordings.{HasRecorded}
use Rattle.boot_machine.proofs.BeginningLemmas.{new_free}
use Rattle.boot_tape.proofs.playing.machine_of.Goals as goal

pub new-requires-clause-leases : goal.new-requires-clause-leases
new-requires-clause-leases c = new_free 2 c.in_ok-pool.pool c.in_ok-pool.ensures (omega arith)

pub returns-clause-none : goal.returns-clause-none
returns-clause-none c =
    subst (λ (r : Recorder MemBoard). HasRecorded r []) (sym c.new.ensures.board) c.in_ok-recorder.ensures.none
