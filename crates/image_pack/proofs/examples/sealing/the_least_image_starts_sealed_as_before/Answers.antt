use Rattle.image_pack.proofs.LeastImageLemmas.{erased, least-few, least-answer, least-is-sealed, least-last, least-low, least-no_entry, least-outside, least-parts, least-starts, least-unsealed, least-valid, least_parts}
use Rattle.image_pack.proofs.examples.sealing.the_least_image_starts_sealed_as_before.Goals as goal

pub returns-clause-unsealed : goal.returns-clause-unsealed
returns-clause-unsealed c = least-unsealed

pub returns-clause-sealed : goal.returns-clause-sealed
returns-clause-sealed c = least-answer

pub returns-clause-together : goal.returns-clause-together
returns-clause-together c = (
  least-is-sealed,
  erased,
  least-valid,
  least-few,
  least_parts,
  least-parts,
  least-no_entry,
  least-last,
  least-low,
  least-outside,
  least-starts,
)
