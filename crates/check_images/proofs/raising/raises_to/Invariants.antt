-- The raises so far, and those of the rows that are left, are all.
use Rattle.pico_board.specs.MemBoard.{state_of}
use Rattle.otp_roll.specs.Raises.{raises}
use Rattle.check_images.specs.Raising.{raise_count}
use Rattle.check_images.proofs.RaiseLemmas.{IsCounted}
use Rattle.check_images.proofs.raising.raises_to.Given as goal

abbrev pub invariant-loop-row : goal.invariant-loop-row
invariant-loop-row l =
    IsCounted (state_of l.board).content.otp l.rows.items
    (raise_count (raises (state_of l.board).content.otp l.rows.items l.version)) l.wanted l.row-index l.raised
