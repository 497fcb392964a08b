use Rattle.block_loop.proofs.ChainLemmas.{loop_of-loop, loop_of-fault}
use Rattle.block_loop.proofs.SameLoopLemmas.{IsLoop-from_answer, IsFault-from_answer}
use Rattle.block_loop.proofs.laws.loop_of_exact.Goals as goal

pub returns-clause-loop_ : goal.returns-clause-loop_
returns-clause-loop_ c w bs = (IsLoop-from_answer w bs, loop_of-loop w bs)

pub returns-clause-fault : goal.returns-clause-fault
returns-clause-fault c w f = (IsFault-from_answer w f, loop_of-fault w f)
