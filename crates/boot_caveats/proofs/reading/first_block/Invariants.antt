use Rattle.std.proofs.Common.{◌≡◌, ◌-◌, ◌*◌, drop}
use Rattle.block_loop.specs.Loop.{block_from, first_block}
use Rattle.boot_caveats.proofs.reading.first_block.Given as goal

abbrev pub invariant-loop-place : goal.invariant-loop-place
invariant-loop-place g l =
    first_block (g.V.View.bytes l.view)
    ≡ block_from (1024 - l.place) (4 * l.place) (drop (4 * l.place) (g.V.View.bytes l.view))
