use Rattle.block_loop.proofs.SameLoopLemmas.{IsLoop-unique, IsFault-unique, no_loop_and_fault, loop_or_fault}
use Rattle.block_loop.proofs.laws.one_loop_or_fault.Goals as goal

pub returns-clause-one_loop : goal.returns-clause-one_loop
returns-clause-one_loop c = IsLoop-unique

pub returns-clause-one_fault : goal.returns-clause-one_fault
returns-clause-one_fault c = IsFault-unique

pub returns-clause-not_both : goal.returns-clause-not_both
returns-clause-not_both c = no_loop_and_fault

pub returns-clause-either : goal.returns-clause-either
returns-clause-either c = loop_or_fault
