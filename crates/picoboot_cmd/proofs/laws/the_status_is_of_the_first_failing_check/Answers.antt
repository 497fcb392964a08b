use Rattle.picoboot_cmd.specs.Checks.{checks}
use Rattle.picoboot_cmd.proofs.FirstFailingLemmas.{to-answer, from-answer}
use Rattle.picoboot_cmd.proofs.laws.the_status_is_of_the_first_failing_check.Goals as goal

pub returns : goal.returns
returns c = λ n otp t busy cmd payload status.
    (to-answer (checks n otp t busy cmd payload) status, from-answer (checks n otp t busy cmd payload) status)
