-- The first bytes of the page are programmed as far as the pattern has it.
use Rattle.std.proofs.Common.{◌≡◌, get_or}
use Rattle.std.specs.Prelude.{bit_and, bit_or}
use Rattle.pico_board.specs.Cuts.{pattern_at}
use Rattle.pico_board.specs.Steps.{changed}
use Rattle.pico_board.proofs.range.paint_page.Given as goal

abbrev pub invariant-loop-i : goal.invariant-loop-i
invariant-loop-i l = l.flash ≡ changed
    (λ i b. bit_and b (bit_or (get_or l.bytes i 0) (pattern_at l.pattern i))) l.at l.i l.initial.flash
