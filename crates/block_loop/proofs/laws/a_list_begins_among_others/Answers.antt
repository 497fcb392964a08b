-- By the first block.
use Rattle.block_loop.proofs.CycleLemmas.{begins-among}
use Rattle.block_loop.proofs.laws.a_list_begins_among_others.Goals as goal

pub returns : goal.returns
returns c = begins-among
