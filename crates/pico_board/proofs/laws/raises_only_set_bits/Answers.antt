-- By induction on the list.
use Rattle.pico_board.proofs.RaiseLemmas.{IsRaisedIn-CutOf, IsRaisedIn-torn}
use Rattle.pico_board.proofs.laws.raises_only_set_bits.Goals as goal

pub returns-clause-one : goal.returns-clause-one
returns-clause-one c = IsRaisedIn-torn

pub returns-clause-list : goal.returns-clause-list
returns-clause-list c = IsRaisedIn-CutOf
