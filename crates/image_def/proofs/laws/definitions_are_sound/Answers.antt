use Rattle.image_def.proofs.GuaranteeLemmas.{definition_from_ok}
use Rattle.image_def.proofs.laws.definitions_are_sound.Goals as goal

pub returns : goal.returns
returns c = definition_from_ok
