use Rattle.std.proofs.Common.{rules}
use Rattle.pico_board.specs.MemBoard.{state_of}
use Rattle.boot_tape.specs.Moving.{moves_from}
use Rattle.check_images.specs.Written.{IsWritten}
use Rattle.check_images.proofs.LineLemmas.{lines-next}
use Rattle.check_images.proofs.written.written_lines.Goals as goal

pub loop-window-preserved : goal.loop-window-preserved
loop-window-preserved c = record {
  lines = lines-next
      (IsWritten (state_of c.args.end.now).content c.args.cpu (moves_from c.args.moves.now) c.args.doers.now)
      c.args.members.now c.loop-window.window-index _ c.loop-window-test.true c.loop-window.lines.items
      c.loop-window.invariant.lines c.written_line-line.result c.written_line-line.ensures.line
      c.push_line.new.lines.items c.in_ok-push_line.ensures;
  free = search rules;
  kept = search rules;
}
