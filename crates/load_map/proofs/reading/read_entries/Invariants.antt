use Rattle.std.proofs.Common.{◌≡◌, ◌≤◌, length, take}
use Rattle.std.specs.Prelude.{filter_map}
use Rattle.block_codec.specs.Blocks.{block_words}
use Rattle.block_codec.specs.FirstFault.{AreSound}
use Rattle.load_map.specs.Loads.{entries_of, is_absolute}
use Rattle.load_map.specs.Reading.{load_of, entry_fault}
use Rattle.load_map.proofs.reading.read_entries.Given as goal

abbrev pub invariant-loop-i : goal.invariant-loop-i
invariant-loop-i l = record {
  sound : AreSound (entry_fault l.setting l.block (is_absolute l.item)) (entries_of (block_words l.block) l.item) l.i;
  so_far : l.loads.items ≡ filter_map (load_of l.setting (is_absolute l.item))
      (take l.i (entries_of (block_words l.block) l.item));
  few : length l.loads.items ≤ l.i;
}
