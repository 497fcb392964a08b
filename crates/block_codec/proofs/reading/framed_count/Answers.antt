use Rattle.block_codec.proofs.ExactLemmas.{framed-from_found}
use Rattle.block_codec.proofs.reading.framed_count.Goals as goal

pub returns-clause-framed : goal.returns-clause-framed
returns-clause-framed c = framed-from_found c.args.words.now c.item_count.result c.item_count.ensures
