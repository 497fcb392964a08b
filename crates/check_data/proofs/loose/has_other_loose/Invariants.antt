use Rattle.std.proofs.Common.{◌≡◌, drop}
use Rattle.pico_board.specs.MemBoard.{state_of}
use Rattle.check_data.specs.Early.{has_other_loose}
use Rattle.check_data.proofs.loose.has_other_loose.Given as goal

-- the rest decides
abbrev pub invariant-loop-at : goal.invariant-loop-at
invariant-loop-at l =
    has_other_loose (state_of l.one).content (state_of l.two).content (drop l.at-index l.loose)
    ≡ has_other_loose (state_of l.one).content (state_of l.two).content l.loose
