use Rattle.block_codec.proofs.ExactLemmas.{IsWhole-made}
use Rattle.block_codec.proofs.blocks.Block.new.Goals as goal

pub invariant_of-result : goal.invariant_of-result
invariant_of-result c =
    IsWhole-made _ _ _ c.requires.whole c.requires.few c.requires.words c.ranges.link c.requires.aligned c.requires.near

pub returns-clause-whole : goal.returns-clause-whole
returns-clause-whole c =
    IsWhole-made _ _ _ c.requires.whole c.requires.few c.requires.words c.ranges.link c.requires.aligned c.requires.near
