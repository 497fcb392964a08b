use Rattle.image_pack.specs.Filling.{whole_sectors}
use Rattle.image_pack.proofs.UnsealableLemmas.{kept-or-not, kept-parts, not-kept, one-why, parts-kept, parts-unsealable, unsealable-parts}
use Rattle.image_pack.proofs.laws.why_a_binary_cannot_be_sealed.Goals as goal

pub returns-clause-fault : goal.returns-clause-fault
returns-clause-fault c = λ binary spec why. (
  λ x. (x.0, parts-unsealable spec.cpu (whole_sectors binary) why x.1),
  λ x. (x.0, unsealable-parts spec.cpu (whole_sectors binary) why x.1),
)

pub returns-clause-sealable : goal.returns-clause-sealable
returns-clause-sealable c = λ binary spec. (
  λ is. (is.right, parts-kept spec.cpu (whole_sectors binary) is.parts is.read),
  λ x. let p = kept-parts spec.cpu (whole_sectors binary) x.1 in record { right = x.0; parts = p.0; read = p.1 },
)

pub returns-clause-some : goal.returns-clause-some
returns-clause-some c = kept-or-not

pub returns-clause-not_both : goal.returns-clause-not_both
returns-clause-not_both c = not-kept

pub returns-clause-one : goal.returns-clause-one
returns-clause-one c = one-why
