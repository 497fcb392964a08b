use Rattle.image_def.proofs.RelationLemmas.{one_of_kind}
use Rattle.image_def.proofs.laws.one_item_of_each_kind.Goals as goal

pub returns : goal.returns
returns c = one_of_kind
