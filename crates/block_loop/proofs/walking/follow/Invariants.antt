use Rattle.std.proofs.Common.{◌≡◌, ◌≤◌, ◌-◌, length, List, map}
use Rattle.block_codec.specs.Blocks.{BlockView}
use Rattle.block_loop.specs.Loop.{follow, loop_of}
use Rattle.block_loop.specs.Spans.{span_of}
use Rattle.block_loop.proofs.walking.follow.Given as goal

abbrev pub invariant-loop-count : goal.invariant-loop-count
invariant-loop-count g l = record {
  few : l.count ≤ 32;
  walked : (bs : List BlockView) × (l.spans.items ≡ map span_of bs) × (length bs ≡ l.count)
      × (loop_of (g.V.View.bytes l.view) ≡ follow (32 - l.count) (g.V.View.bytes l.view) l.start bs l.last);
}
