use Rattle.std.proofs.Common.{rules}
use Rattle.pico_board.specs.MemBoard.{state_of}
use Rattle.check_images.specs.Losing.{lost_line}
use Rattle.check_images.proofs.LineLemmas.{filter-next}
use Rattle.check_images.proofs.losing.lost_lines.Goals as goal

pub loop-window-preserved : goal.loop-window-preserved
loop-window-preserved c = record {
  lines = filter-next
      (lost_line (state_of c.args.start.now).content c.args.members.now (state_of c.args.after.now).content c.args.cpu
      c.args.decision.now)
      c.args.windows.now c.loop-window.window-index _ c.loop-window-test.true c.loop-window.lines.items
      c.loop-window.invariant.lines c.lost_line-line.result c.lost_line-line.ensures.exact c.push_line.new.lines.items
      c.in_ok-push_line.ensures;
  free = search rules;
  kept = search rules;
}
