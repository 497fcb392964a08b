use Rattle.std.proofs.Common.{true, subst, sym}
use Rattle.pico_board.specs.Board.{Does}
use Rattle.pico_board.specs.declared.step.Step.TheVariants.{Raise}
use Rattle.boot_session.proofs.MarkLemmas.{recorder-does}
use Rattle.boot_session.proofs.recording.RecorderBoard.raise.Goals as goal

pub returns : goal.returns
returns g c =
    recorder-does g.B.Board.state g.B.Board.history c.args.self.now c.note.new.self (Raise c.args.row c.args.bits)
    (subst (λ b. Does g.B.Board.state g.B.Board.history c.args.self.now.bench (Raise c.args.row c.args.bits) true b)
    (sym c.note.ensures.bench) c.in_ok-raise.ensures)
    (c.requires.range, c.requires.bits) c.note.ensures.units
    (λ h is. c.note.ensures.recorded h (record {
      kept = is.kept;
      counted = is.counted;
      slot = is.slot;
      outside = is.outside;
    }))
