use Rattle.std.proofs.Common.{refl}
use Rattle.law_plans.proofs.ClippedImageLemmas.{clipped-alone, clipped_held, never-clipped}
use Rattle.law_plans.proofs.examples.firm.an_image_whose_map_leaves_a_byte_out.Goals as goal

pub returns : goal.returns
returns c = (clipped_held, refl, (refl, refl), clipped-alone, never-clipped)
