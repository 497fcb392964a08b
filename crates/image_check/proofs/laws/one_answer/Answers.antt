use Rattle.image_check.proofs.LawLemmas.{not-both, one-image, one-reason, some-answer}
use Rattle.image_check.proofs.laws.one_answer.Goals as goal

pub returns-clause-some : goal.returns-clause-some
returns-clause-some c = some-answer

pub returns-clause-not_both : goal.returns-clause-not_both
returns-clause-not_both c = not-both

pub returns-clause-one_image : goal.returns-clause-one_image
returns-clause-one_image c = one-image

pub returns-clause-one_reason : goal.returns-clause-one_reason
returns-clause-one_reason c =
    λ a cpu trial otp bytes y z. one-reason a (record { start = 0; len = 0 }) cpu trial otp bytes y z
