use Rattle.std.proofs.Common.{◌≤◌, ◌-◌, length, take}
use Rattle.block_codec.specs.Items.{AreItems}
use Rattle.block_codec.proofs.writing.first_bad.Given as goal

abbrev pub invariant-loop-at : goal.invariant-loop-at
invariant-loop-at l = record { whole : AreItems (take l.at l.items); inside : l.at ≤ length l.items }

abbrev pub decreases-loop-at : goal.decreases-loop-at
decreases-loop-at l = length l.items - l.at
