use Rattle.block_loop.proofs.SameLoopLemmas.{loop_of-same, loop_of-erased, loop_of-blank}
use Rattle.block_loop.proofs.laws.same_blocks.Goals as goal

pub returns-clause-same : goal.returns-clause-same
returns-clause-same c = loop_of-same

pub returns-clause-behind : goal.returns-clause-behind
returns-clause-behind c = loop_of-erased

pub returns-clause-blank : goal.returns-clause-blank
returns-clause-blank c = loop_of-blank
