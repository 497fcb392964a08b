use Rattle.std.proofs.Common.{◌≡◌, List, take, Ok}
use Rattle.block_codec.specs.Blocks.{BlockView}
use Rattle.block_loop.specs.Loop.{loop_of}
use Rattle.image_check.specs.SameImage.{AgreeOnBlocks}
use Rattle.image_check.proofs.same.same_blocks.Given as goal

abbrev pub invariant-loop-i : goal.invariant-loop-i
invariant-loop-i g l = (loop : List BlockView) → loop_of (g.V.View.bytes l.one) ≡ Ok loop
    → AgreeOnBlocks (g.V.View.bytes l.one) (g.W.View.bytes l.two) (take l.i loop)
