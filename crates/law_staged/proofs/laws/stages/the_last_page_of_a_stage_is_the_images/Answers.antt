use Rattle.law_staged.proofs.StagePlanLemmas.{page-of}
use Rattle.law_staged.proofs.laws.stages.the_last_page_of_a_stage_is_the_images.Goals as goal

pub returns : goal.returns
returns c = λ d cpu image out o is. page-of d cpu image out o is
