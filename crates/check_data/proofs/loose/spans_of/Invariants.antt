use Rattle.std.proofs.Common.{◌≡◌, List, Ok, length, map, take}
use Rattle.block_codec.specs.Blocks.{BlockView}
use Rattle.block_loop.specs.Loop.{loop_of}
use Rattle.check_data.specs.Loose.{block_span}
use Rattle.check_data.proofs.loose.spans_of.Given as goal

-- the blocks so far
abbrev pub invariant-loop-i : goal.invariant-loop-i
invariant-loop-i g l = record {
  long : length l.spans.items ≡ l.i;
  spans : (loop : List BlockView) → loop_of (g.V.View.bytes l.view) ≡ Ok loop
      → l.spans.items ≡ map block_span (take l.i loop);
}
