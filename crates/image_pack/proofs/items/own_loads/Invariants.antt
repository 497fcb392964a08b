-- So many of the binary's loads were looked at.
use Rattle.std.proofs.Common.{◌≡◌, ◌≤◌, ◌+◌, take, length}
use Rattle.pico_board.specs.declared.window.TheConstants.{MOST_FLASH_BYTES}
use Rattle.load_map.specs.Stored.{AreStoredIn}
use Rattle.image_pack.specs.Sealing.{own_loads}
use Rattle.image_pack.proofs.items.own_loads.Given as goal

abbrev pub invariant-loop-load : goal.invariant-loop-load
invariant-loop-load l = record {
  so_far : l.own.items ≡ own_loads l.size l.at (take l.load-index l.loads);
  few : length l.own.items ≤ 1 + l.load-index;
  stored : AreStoredIn MOST_FLASH_BYTES l.own.items;
}
