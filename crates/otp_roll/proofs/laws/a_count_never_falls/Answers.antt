use Rattle.otp_roll.proofs.RisingLemmas.{count-Rises, majority-Rises}
use Rattle.otp_roll.proofs.laws.a_count_never_falls.Goals as goal

pub returns-clause-count : goal.returns-clause-count
returns-clause-count c = λ old new rows rises. count-Rises rises rows

pub returns-clause-majority : goal.returns-clause-majority
returns-clause-majority c = λ old new r rises. majority-Rises rises r
