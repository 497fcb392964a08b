-- None of the items so far is of the kind.
use Rattle.std.proofs.Common.{◌≡◌, take, None}
use Rattle.block_codec.specs.Items.{items_of}
use Rattle.block_codec.specs.Kinds.{item_of_kind}
use Rattle.block_codec.proofs.kinds.find_item.Given as goal

abbrev pub invariant-loop-i : goal.invariant-loop-i
invariant-loop-i l = item_of_kind l.kind (take l.i (items_of l.block.items)) ≡ None
