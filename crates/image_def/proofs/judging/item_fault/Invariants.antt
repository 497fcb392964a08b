use Rattle.block_codec.specs.Blocks.{block_words}
use Rattle.block_codec.specs.FirstFault.{AreSound}
use Rattle.block_codec.specs.Items.{items_of}
use Rattle.image_def.specs.Faults.{item_fault}
use Rattle.image_def.proofs.judging.item_fault.Given as goal

abbrev pub invariant-loop-i : goal.invariant-loop-i
invariant-loop-i l = AreSound (item_fault (block_words l.block)) (items_of l.block.items) l.i
