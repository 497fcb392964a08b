-- The first bytes of the page are programmed.
use Rattle.std.proofs.Common.{◌≡◌, get_or}
use Rattle.std.specs.Prelude.{bit_and}
use Rattle.pico_board.specs.Steps.{changed}
use Rattle.pico_board.proofs.range.program_page.Given as goal

abbrev pub invariant-loop-i : goal.invariant-loop-i
invariant-loop-i l = l.flash ≡ changed (λ i b. bit_and b (get_or l.bytes i 0)) l.at l.i l.initial.flash
