use Rattle.std.proofs.Common.{◌≡◌, ◌≤◌, List, Ok, drop, length}
use Rattle.block_codec.specs.Blocks.{BlockView}
use Rattle.block_loop.specs.Loop.{loop_of}
use Rattle.boot_cuts.specs.Classes.{furthest}
use Rattle.boot_cuts.proofs.tails.furthest.Given as goal

-- the furthest of the rest, behind the end so far, is that of all
abbrev pub invariant-loop-i : goal.invariant-loop-i
invariant-loop-i g l = record {
  rest : (loop : List BlockView) → loop_of (g.V.View.bytes l.view) ≡ Ok loop
      → furthest l.end (drop l.i loop) ≡ furthest 0 loop;
  inside : l.end ≤ length (g.V.View.bytes l.view);
}
