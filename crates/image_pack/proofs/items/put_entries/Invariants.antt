-- The entries of so many loads are appended.
use Rattle.std.proofs.Common.{◌≡◌, ◌+◌, ◌*◌, ◌++◌, take, length}
use Rattle.std.specs.List.{flat_map}
use Rattle.image_pack.specs.Sealing.{entry_words}
use Rattle.image_pack.proofs.items.put_entries.Given as goal

abbrev pub invariant-loop-load : goal.invariant-loop-load
invariant-loop-load l = record {
  so_far : l.words.items ≡ l.fn.words.items ++ flat_map (entry_words l.at) (take l.load-index l.loads);
  long : length l.words.items ≡ length l.fn.words.items + 3 * l.load-index;
}
