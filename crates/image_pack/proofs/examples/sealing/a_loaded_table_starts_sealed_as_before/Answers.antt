use Rattle.image_pack.proofs.LeastImageLemmas.{erased}
use Rattle.image_pack.proofs.LoadedImageLemmas.{loaded-few, loaded-high, loaded-is-sealed, loaded-outside, loaded-parts, loaded-start, loaded-stored, loaded-unsealed, loaded-valid, loaded_parts}
use Rattle.image_pack.proofs.examples.sealing.a_loaded_table_starts_sealed_as_before.Goals as goal

pub returns-clause-unsealed : goal.returns-clause-unsealed
returns-clause-unsealed c = loaded-unsealed

pub returns-clause-together : goal.returns-clause-together
returns-clause-together c = (
  loaded-is-sealed,
  erased,
  loaded-valid,
  loaded-few,
  loaded_parts,
  loaded-parts,
  loaded-high,
  loaded-stored,
  loaded-outside,
  loaded-start,
)
