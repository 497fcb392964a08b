-- What is true of the parts that a sealed image takes over from its binary.
use Rattle.std.specs.Prelude.{ℕ, ◌+◌, ◌≤◌}
use Rattle.pico_board.specs.declared.window.TheConstants.{MOST_FLASH_BYTES}
use Rattle.load_map.specs.Stored.{AreStoredIn}
use Rattle.image_pack.specs.declared.parts.Parts.{Parts}

-- the first block, the last block and its link word lie in the first n bytes of the binary; a
-- flash may have n bytes; the storages of the loads lie in the greatest flash
pub record IsWithin (p : Parts) (n : ℕ) : Type 0 where
  pub first : p.first ≤ n
  pub last : p.last ≤ n
  pub link : p.link_at + 4 ≤ n
  pub small : n ≤ MOST_FLASH_BYTES
  pub stored : AreStoredIn MOST_FLASH_BYTES p.loads.items
