use Rattle.image_check.proofs.LawLemmas.{parts-valid, valid-parts}
use Rattle.image_check.proofs.laws.validity_in_three_parts.Goals as goal

pub returns : goal.returns
returns c = λ w cpu trial otp bytes s. (
  valid-parts w cpu trial otp bytes s,
  λ parts. parts-valid w cpu trial otp bytes s parts.0 parts.1 parts.2 parts.3,
)
