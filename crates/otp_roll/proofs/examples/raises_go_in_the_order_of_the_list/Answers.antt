use Rattle.otp_roll.proofs.WrittenRowLemmas.{raises-one_bit, raises-two_bits, raises-three_bits}
use Rattle.otp_roll.proofs.examples.raises_go_in_the_order_of_the_list.Goals as goal

pub returns-clause-one : goal.returns-clause-one
returns-clause-one c = raises-one_bit

pub returns-clause-two : goal.returns-clause-two
returns-clause-two c = raises-two_bits

pub returns-clause-three : goal.returns-clause-three
returns-clause-three c = raises-three_bits
