use Rattle.std.proofs.Common.{◌∙◌, refl, subst, sym}
use Rattle.pico_board.specs.MemBoard.{state_of}
use Rattle.boot_tape.specs.Moving.{moves_from}
use Rattle.check_images.specs.Written.{IsWriter, IsWritten}
use Rattle.check_images.proofs.WriterLemmas.{writer-is}
use Rattle.check_images.proofs.written.written_line.Goals as goal

pub returns-in_err-by-clause-line : goal.returns-in_err-by-clause-line
returns-in_err-by-clause-line c =
    let moves = moves_from c.args.moves.now in
    subst (λ line. IsWritten (state_of c.args.board.now).content c.args.cpu moves c.args.doers.now c.args.window line)
    (sym c.from_residual.ensures)
    (subst (λ o. IsWriter moves c.args.doers.now c.args.window o) (sym c.writer_of.ensures ∙ c.in_err-by.was)
    (writer-is moves c.args.doers.now c.args.window))

pub returns-clause-line : goal.returns-clause-line
returns-clause-line c =
    let moves = moves_from c.args.moves.now in (
      refl,
      subst (λ o. IsWriter moves c.args.doers.now c.args.window o) (sym c.writer_of.ensures ∙ c.in_ok-by.was)
          (writer-is moves c.args.doers.now c.args.window),
      c.image_in-image.ensures.judged,
    )
