use Rattle.otp_roll.proofs.RisingLemmas.{cut-raises, count-between, majority-between}
use Rattle.otp_roll.proofs.laws.a_cut_of_raises_stays_between.Goals as goal

pub returns-clause-bits : goal.returns-clause-bits
returns-clause-bits c = cut-raises

pub returns-clause-majority : goal.returns-clause-majority
returns-clause-majority c = λ old d rows version r cut. majority-between _ _ _ r (cut-raises old d rows version cut)

pub returns-clause-count : goal.returns-clause-count
returns-clause-count c = λ old d rows others version cut. count-between _ _ _ others
    (cut-raises old d rows version cut)
