use Rattle.otp_roll.proofs.BitLemmas.{majority-lt}
use Rattle.check_images.proofs.raising.majority.Goals as goal

pub returns-clause-bits : goal.returns-clause-bits
returns-clause-bits c = majority-lt c.otp_read-first.result c.otp_read-second.result c.otp_read-third.result
    c.otp_read-first.ensures.bits c.otp_read-second.ensures.bits
