use Rattle.pico_board.proofs.RaiseLemmas.{IsRaisedIn-torn}
use Rattle.otp_roll.proofs.RisingLemmas.{majority-between}
use Rattle.otp_roll.proofs.laws.a_torn_raise_adds_no_other_bit.Goals as goal

pub returns : goal.returns
returns c = λ old row bits d r torn. majority-between _ _ _ r (IsRaisedIn-torn old row bits d torn)
