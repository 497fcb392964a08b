use Rattle.std.proofs.Common.{◌∙◌, ap, subst}
use Rattle.pico_board.specs.MemBoard.{state_of}
use Rattle.boot_tape.specs.Moving.{moves_from}
use Rattle.boot_tape.specs.Doers.{doers}
use Rattle.check_images.specs.Written.{AreWritten}
use Rattle.cli_check.proofs.ImagesFoundLemmas.{images-found}
use Rattle.cli_check.proofs.finding.images_found.Goals as goal

pub fallback_of-requires-clause-booted : goal.fallback_of-requires-clause-booted
fallback_of-requires-clause-booted c = (
  (state_of c.args.trace.now.board).content,
  record {
    content = c.args.trace.now.board.sizes;
    chosen = c.requires.finished;
    left = c.in_ok-booted.ensures.content;
  },
)

pub returns : goal.returns
returns c =
    let b = (state_of c.args.start.now).content in
    let z = (state_of c.args.trace.now.board).content in
    let moves = moves_from c.args.trace.now.moves.items in
    let written = subst (λ ms. AreWritten z c.args.cpu ms c.deref-3.result.now c.in_ok-written_windows.field-0.items)
    (ap moves_from c.deref-2.ensures.value) c.in_ok-written_windows.ensures.written in
    images-found b z c.args.cpu moves c.deref-3.result.now c.args.trace.now.notes.items c.args.cuts.now.former
    c.args.cuts.now.finished c.args.cuts.now.end_class _
    (c.deref-3.ensures.value ∙ (c.in_ok-doers.ensures ∙ ap doers c.deref.ensures.value)) c.requires.former
    c.requires.finished (record {
      effect = c.effect_of.ensures.function;
      table = c.has_other_table.ensures;
      flash = c.has_other_flash.ensures;
      rows = c.has_other_rows.ensures;
      written = written;
      starts = c.start_of.ensures;
      fallback = c.fallback_of.ensures.fallback z (record {
        content = c.args.trace.now.board.sizes;
        chosen = c.requires.finished;
        left = c.in_ok-booted.ensures.content;
      });
      lost = c.in_ok-lost_windows.ensures.lost;
      next = c.boot_raises.ensures c.args.cpu c.requires.finished;
    })
