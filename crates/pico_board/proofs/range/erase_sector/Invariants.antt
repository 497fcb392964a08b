-- The first bytes of the sector are erased.
use Rattle.std.proofs.Common.{◌≡◌}
use Rattle.pico_board.specs.Steps.{changed}
use Rattle.pico_board.proofs.range.erase_sector.Given as goal

abbrev pub invariant-loop-i : goal.invariant-loop-i
invariant-loop-i l = l.flash ≡ changed (λ i b. 255) l.at l.i l.initial.flash
