use Rattle.std.proofs.Common.{◌≡◌, List, take, Ok}
use Rattle.std.specs.List.{list_any}
use Rattle.block_codec.specs.Blocks.{BlockView}
use Rattle.block_loop.specs.Loop.{loop_of}
use Rattle.image_def.specs.Suits.{has_image_type, last_suiting}
use Rattle.image_check.proofs.examining.scan_blocks.Given as goal

abbrev pub invariant-loop-i : goal.invariant-loop-i
invariant-loop-i g l = record {
  typed : (loop : List BlockView) → loop_of (g.V.View.bytes l.view) ≡ Ok loop
      → l.seen.typed ≡ list_any has_image_type (take l.i loop);
  suiting : (loop : List BlockView) → loop_of (g.V.View.bytes l.view) ≡ Ok loop
      → l.seen.suiting ≡ last_suiting l.cpu (take l.i loop);
}
