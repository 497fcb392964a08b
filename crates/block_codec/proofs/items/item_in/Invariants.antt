use Rattle.std.proofs.Common.{◌≡◌, ◌≤◌, ◌+◌, length, drop}
use Rattle.block_codec.specs.Items.{AreItems, items_of, items_from}
use Rattle.block_codec.proofs.items.item_in.Given as goal

abbrev pub invariant-loop-n : goal.invariant-loop-n
invariant-loop-n l = record {
  whole : AreItems (drop l.at l.items);
  inside : l.at ≤ length l.items;
  rest : drop l.n (items_of l.items) ≡ items_from (1 + l.at) 0 (drop l.at l.items);
}
