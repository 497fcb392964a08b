use Rattle.std.proofs.Common.{◌≡◌, ◌≤◌, length, take}
use Rattle.image_check.specs.Digests.{entries_apart}
use Rattle.image_check.proofs.digests.entries_apart.Given as goal

abbrev pub invariant-loop-entry : goal.invariant-loop-entry
invariant-loop-entry l = record {
  few : length l.left.items ≤ l.entry-index;
  left : l.left.items ≡ entries_apart l.start l.len (take l.entry-index l.entries);
}
