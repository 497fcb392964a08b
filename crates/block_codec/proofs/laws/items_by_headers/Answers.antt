use Rattle.block_codec.proofs.ItemLemmas.{items_by_drop}
use Rattle.block_codec.proofs.laws.items_by_headers.Goals as goal

pub returns : goal.returns
returns c = items_by_drop
