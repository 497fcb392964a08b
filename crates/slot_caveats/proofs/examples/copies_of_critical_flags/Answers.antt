-- By computing.
use Rattle.std.proofs.Common.{refl}
use Rattle.slot_caveats.specs.OtpCaveats.{voted_bits}
use Rattle.slot_caveats.proofs.examples.copies_of_critical_flags.Goals as goal

pub returns-clause-two : goal.returns-clause-two
unfolding voted_bits
returns-clause-two c = refl

pub returns-clause-three : goal.returns-clause-three
unfolding voted_bits
returns-clause-three c = refl

pub returns-clause-bits : goal.returns-clause-bits
unfolding voted_bits
returns-clause-bits c = refl

pub returns-clause-highest : goal.returns-clause-highest
unfolding voted_bits
returns-clause-highest c = refl

pub returns-clause-behind : goal.returns-clause-behind
unfolding voted_bits
returns-clause-behind c = refl

pub returns-clause-before : goal.returns-clause-before
unfolding voted_bits
returns-clause-before c = refl

pub returns-clause-secure : goal.returns-clause-secure
unfolding voted_bits
returns-clause-secure c = refl

pub returns-clause-beside : goal.returns-clause-beside
unfolding voted_bits
returns-clause-beside c = refl

pub returns-clause-order : goal.returns-clause-order
unfolding voted_bits
returns-clause-order c = refl
