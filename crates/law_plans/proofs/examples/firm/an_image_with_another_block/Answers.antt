use Rattle.std.proofs.Common.{refl}
use Rattle.law_plans.proofs.CrowdedImageLemmas.{crowded_held, never-alone, never-firm}
use Rattle.law_plans.proofs.examples.firm.an_image_with_another_block.Goals as goal

pub returns : goal.returns
returns c = (crowded_held, refl, (refl, refl), never-alone, never-firm)
