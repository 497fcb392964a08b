use Rattle.otp_roll.proofs.BitLemmas.{lowest_clear-clear, lowest_clear-first, ones-lowest_clear}
use Rattle.otp_roll.proofs.laws.the_lowest_clear_bits_of_a_row.Goals as goal

pub returns-clause-clear : goal.returns-clause-clear
returns-clause-clear c = lowest_clear-clear

pub returns-clause-lowest : goal.returns-clause-lowest
returns-clause-lowest c = lowest_clear-first

pub returns-clause-number : goal.returns-clause-number
returns-clause-number c = ones-lowest_clear
