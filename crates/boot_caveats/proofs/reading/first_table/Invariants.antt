use Rattle.std.proofs.Common.{◌≡◌, List, drop}
use Rattle.std.specs.Prelude.{Ok, find}
use Rattle.block_codec.specs.Blocks.{BlockView}
use Rattle.block_loop.specs.Loop.{loop_of}
use Rattle.part_table.specs.TableOf.{has_table}
use Rattle.boot_caveats.proofs.reading.first_table.Given as goal

abbrev pub invariant-loop-i : goal.invariant-loop-i
invariant-loop-i g l = (loop : List BlockView) → loop_of (g.V.View.bytes l.view) ≡ Ok loop
    → find has_table loop ≡ find has_table (drop l.i loop)
