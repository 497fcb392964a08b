use Rattle.std.proofs.Common.{◌≡◌, ◌≤◌, ◌+◌, ◌-◌, length, drop}
use Rattle.block_codec.specs.Items.{AreItems, items_of, items_from}
use Rattle.block_codec.proofs.items.count_in.Given as goal

abbrev pub invariant-loop-at : goal.invariant-loop-at
invariant-loop-at l = record {
  whole : AreItems (drop l.at l.items);
  inside : l.at ≤ length l.items;
  few : l.count ≤ l.at;
  counted : length (items_of l.items) ≡ l.count + length (items_from (1 + l.at) 0 (drop l.at l.items));
}

abbrev pub decreases-loop-at : goal.decreases-loop-at
decreases-loop-at l = length l.items - l.at
