use Rattle.std.proofs.Common.{true, subst, sym}
use Rattle.pico_board.specs.Board.{Does}
use Rattle.pico_board.specs.declared.step.Step.TheVariants.{Program}
use Rattle.boot_session.proofs.MarkLemmas.{recorder-does}
use Rattle.boot_session.proofs.recording.RecorderBoard.program.Goals as goal

pub returns : goal.returns
returns g c =
    recorder-does g.B.Board.state g.B.Board.history c.args.self.now c.note.new.self (Program c.args.page c.args.bytes.now)
    (subst (λ b. Does g.B.Board.state g.B.Board.history c.args.self.now.bench (Program c.args.page c.args.bytes.now) true b)
    (sym c.note.ensures.bench) c.in_ok-program.ensures)
    c.requires.range c.note.ensures.units
    (λ h is. c.note.ensures.recorded h (record {
      kept = is.kept;
      counted = is.counted;
      slot = is.slot;
      outside = is.outside;
    }))
