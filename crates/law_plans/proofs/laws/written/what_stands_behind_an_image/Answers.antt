use Rattle.std.proofs.Common.{arith}
use Rattle.law_plans.proofs.KeptLemmas.{kept-valid}
use Rattle.law_plans.proofs.laws.written.what_stands_behind_an_image.Goals as goal

pub returns : goal.returns
returns c = λ one two n w cpu trial otp s v long few erased same stored low.
    (kept-valid one two n long few erased (λ i lt. same i (omega arith) lt) low w cpu trial otp s v stored).valid
