use Rattle.std.proofs.Common.{◌≡◌, None, take}
use Rattle.std.specs.List.{find}
use Rattle.block_codec.specs.Items.{items_of}
use Rattle.block_codec.specs.Kinds.{is_of_kind}
use Rattle.block_codec.specs.declared.kinds.TheConstants.{LOAD_MAP}
use Rattle.image_def.proofs.reading.map_place.Given as goal

abbrev pub invariant-loop-i : goal.invariant-loop-i
invariant-loop-i l = find (is_of_kind LOAD_MAP) (take l.i (items_of l.block.items)) ≡ None
