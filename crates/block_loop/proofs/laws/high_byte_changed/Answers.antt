use Rattle.block_loop.proofs.SameLoopLemmas.{loop_of-changed, changed_others}
use Rattle.block_loop.proofs.laws.high_byte_changed.Goals as goal

pub returns-clause-loop_ : goal.returns-clause-loop_
returns-clause-loop_ c = loop_of-changed

pub returns-clause-others : goal.returns-clause-others
returns-clause-others c = changed_others
