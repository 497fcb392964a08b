use Rattle.std.proofs.Common.{◌≡◌, take, drop}
use Rattle.block_codec.specs.Blocks.{block_words}
use Rattle.image_def.specs.Rows.{version_tail}
use Rattle.image_def.proofs.rows.listed_rows.Given as goal

abbrev pub invariant-loop-k : goal.invariant-loop-k
invariant-loop-k l = l.rows.items ≡ take l.k (drop 1 (version_tail (block_words l.block) l.item))
