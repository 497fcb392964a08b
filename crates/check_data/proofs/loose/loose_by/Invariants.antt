use Rattle.std.proofs.Common.{◌≡◌, ◌+◌, ◌-◌, ◌++◌, List}
use Rattle.pico_board.specs.MemBoard.{state_of}
use Rattle.block_codec.specs.Blocks.{BlockView}
use Rattle.boot_tape.specs.Moving.{done_steps, moves_from}
use Rattle.check_data.specs.Loose.{IsCovering, is_loose, offsets_where}
use Rattle.check_data.proofs.loose.loose_by.Given as goal

-- those so far, and those of the rest, are all
abbrev pub invariant-loop-at : goal.invariant-loop-at
invariant-loop-at l = (loop : List BlockView) → IsCovering l.covering loop
    → l.found.items
    ++ offsets_where (is_loose (state_of l.board).content.flash (done_steps (moves_from l.moves)) l.window.start loop
    l.covering.loads.items) l.at (l.window.start + l.window.len - l.at)
    ≡ offsets_where (is_loose (state_of l.board).content.flash (done_steps (moves_from l.moves)) l.window.start loop
    l.covering.loads.items) l.window.start l.window.len
