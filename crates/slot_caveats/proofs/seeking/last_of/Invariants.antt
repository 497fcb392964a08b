use Rattle.std.proofs.Common.{◌≡◌, List, take}
use Rattle.std.specs.Prelude.{Ok, find, reverse}
use Rattle.block_codec.specs.Blocks.{BlockView}
use Rattle.block_loop.specs.Loop.{loop_of}
use Rattle.slot_caveats.specs.Sought.{is_sought}
use Rattle.slot_caveats.proofs.seeking.last_of.Given as goal

abbrev pub invariant-loop-i : goal.invariant-loop-i
invariant-loop-i g l = (loop : List BlockView) → loop_of (g.V.View.bytes l.view) ≡ Ok loop
    → l.last ≡ find (is_sought l.what) (reverse (take l.i loop))
