-- The first bytes of the sector are the pattern's.
use Rattle.std.proofs.Common.{◌≡◌}
use Rattle.pico_board.specs.Cuts.{pattern_at}
use Rattle.pico_board.specs.Steps.{changed}
use Rattle.pico_board.proofs.range.paint_sector.Given as goal

abbrev pub invariant-loop-i : goal.invariant-loop-i
invariant-loop-i l = l.flash ≡ changed (λ i b. pattern_at l.pattern i) l.at l.i l.initial.flash
