use Rattle.law_cuts.proofs.AccidentLemmas.{accident-is, cut-of-script}
use Rattle.law_cuts.proofs.laws.a_gated_session_leaves_one_of_two_images.Goals as goal

pub returns-clause-cuts : goal.returns-clause-cuts
returns-clause-cuts c = λ content cpu events pattern w n d class small is at found other.
    accident-is content cpu events w is d (cut-of-script content cpu events pattern w n d small is at) class found other

pub returns-clause-torn : goal.returns-clause-torn
returns-clause-torn c = λ content cpu events w d class is cut found other.
    accident-is content cpu events w is d cut class found other
