use Rattle.law_scripts.proofs.FaultLemmas.{fault-line, line-fault}
use Rattle.law_scripts.proofs.TableLemmas.{differing, same-form}
use Rattle.law_scripts.proofs.laws.word_faults_are_the_first.Goals as goal

pub returns-clause-fault : goal.returns-clause-fault
returns-clause-fault c = λ first words fault. (line-fault first words fault, fault-line first words fault)

pub returns-clause-rows : goal.returns-clause-rows
returns-clause-rows c = λ first count. record {
  place = differing first count;
  others = λ row other is is_other i far. same-form row other first count i is is_other far;
}
