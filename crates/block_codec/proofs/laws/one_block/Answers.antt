use Rattle.block_codec.proofs.AtLemmas.{one_form, no_longer_block}
use Rattle.block_codec.proofs.laws.one_block.Goals as goal

pub returns-clause-one : goal.returns-clause-one
returns-clause-one c = one_form

pub returns-clause-whole : goal.returns-clause-whole
returns-clause-whole c = no_longer_block
