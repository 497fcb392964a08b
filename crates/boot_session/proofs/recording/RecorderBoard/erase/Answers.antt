use Rattle.std.proofs.Common.{true, subst, sym}
use Rattle.pico_board.specs.Board.{Does}
use Rattle.pico_board.specs.declared.step.Step.TheVariants.{Erase}
use Rattle.boot_session.proofs.MarkLemmas.{recorder-does}
use Rattle.boot_session.proofs.recording.RecorderBoard.erase.Goals as goal

pub returns : goal.returns
returns g c =
    recorder-does g.B.Board.state g.B.Board.history c.args.self.now c.note.new.self (Erase c.args.sector)
    (subst (λ b. Does g.B.Board.state g.B.Board.history c.args.self.now.bench (Erase c.args.sector) true b)
    (sym c.note.ensures.bench) c.in_ok-erase.ensures)
    c.requires.range c.note.ensures.units
    (λ h is. c.note.ensures.recorded h (record {
      kept = is.kept;
      counted = is.counted;
      slot = is.slot;
      outside = is.outside;
    }))
