use Rattle.script_text.proofs.MeaningLemmas.{fault-comes, text-fails}
use Rattle.script_text.proofs.laws.faults_are_the_first.Goals as goal

pub returns : goal.returns
returns c = λ image text error. (text-fails image text error, fault-comes image text error)
