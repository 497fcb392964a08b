use Rattle.std.proofs.Common.{drop, ap}
use Rattle.boot_script.specs.Reading.{and_next}
use Rattle.boot_script.proofs.SpelledLemmas.{fault-at}
use Rattle.boot_script.proofs.WhyNotLemmas.{fault-why, fault-comes}
use Rattle.boot_script.proofs.laws.faults_come_by_their_rules.Goals as goal

pub returns : goal.returns
returns c = λ bytes at fault. (
  λ read. fault-why at (drop at bytes) fault (fault-at bytes at fault read),
  λ why. ap (λ r. and_next at r) (fault-comes at (drop at bytes) fault why),
)
