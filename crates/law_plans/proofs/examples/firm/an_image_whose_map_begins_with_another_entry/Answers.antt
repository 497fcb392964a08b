use Rattle.std.proofs.Common.{refl}
use Rattle.law_plans.proofs.ClearedImageLemmas.{cleared-alone, cleared_held, never-cleared}
use Rattle.law_plans.proofs.examples.firm.an_image_whose_map_begins_with_another_entry.Goals as goal

pub returns : goal.returns
returns c = (cleared_held, refl, (refl, refl), cleared-alone, never-cleared)
