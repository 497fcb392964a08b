use Rattle.boot_cuts.proofs.ClassLemmas.{class-exactly}
use Rattle.boot_cuts.proofs.laws.classes_are_judged.Goals as goal

pub returns : goal.returns
returns c = λ first last d moves. class-exactly first last moves d
