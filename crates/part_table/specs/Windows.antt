-- Where partitions stand in the flash.
use Rattle.std.specs.Prelude.{◌≡◌, ℕ, Bool, ◌+◌, ◌-◌, ◌*◌, ◌/◌, ◌%◌, ◌≤◌, ◌&&◌, nat_le, length}
use Rattle.pico_board.specs.declared.window.Window.{Window}
use Rattle.pico_board.specs.Content.{Content}
use Rattle.part_table.specs.declared.partition.Partition.{Partition}
use Rattle.part_table.specs.declared.table.Table.{Table}
use Rattle.part_table.specs.Fields.{first_sector, last_sector}
use Rattle.part_table.specs.Partitions.{part_at}

-- a partition holds the sectors from its first to its last (RP2350 Datasheet, chapter 5, Bootrom)
abbrev pub has_sector : ℕ → Partition → Bool
has_sector sector p = nat_le (first_sector p) sector && nat_le sector (last_sector p)

-- two partitions share a sector where neither ends before the other begins; first and last sectors
-- judge this, so it is meant for partitions whose first sector is not above their last (RP2350
-- Datasheet, chapter 5, Bootrom)
abbrev pub shares_sector : Partition → Partition → Bool
shares_sector p q =
    nat_le (first_sector p) (last_sector q) && nat_le (first_sector q) (last_sector p)

-- the window of a partition is its first to its last sector, of 4096 bytes each (RP2350 Datasheet,
-- chapter 5, Bootrom)
abbrev pub part_window : Partition → Window
part_window p =
    record { start = 4096 * first_sector p; len = 4096 * (last_sector p + 1 - first_sector p) }

-- the window of a table's partition is that of the partition with that number (RP2350 Datasheet,
-- chapter 5, Bootrom)
abbrev pub partition_window : Table → ℕ → Window
partition_window t i = part_window (part_at t.parts.items i)

-- a window is of whole sectors, at least one; it stands inside a flash of n sectors, and begins at
-- sector m or after it
pub record IsPlacedWindow (w : Window) (n m : ℕ) : Type 0 where
  pub starts : w.start % 4096 ≡ 0
  pub whole : w.len % 4096 ≡ 0
  pub some : 4096 ≤ w.len
  pub inside : w.start + w.len ≤ 4096 * n
  pub free : 4096 * m ≤ w.start

-- a window is of whole sectors, at least one, inside the flash of a content
abbrev pub IsPlacedIn : Content → Window → Type 0
IsPlacedIn c w = IsPlacedWindow w (length c.flash / 4096) 0
