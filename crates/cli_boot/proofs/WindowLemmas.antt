-- Where the windows of partitions stand.
use Rattle.std.proofs.Common.{ℕ, ◌+◌, ◌/◌, ◌<◌, ◌≤◌, All, map, get_or, arith}
use Rattle.std.proofs.lemmas.List.Elements.{All-map}
use Rattle.part_table.specs.declared.partition.Partition.{Partition}
use Rattle.part_table.specs.declared.table.Table.{Table}
use Rattle.part_table.specs.Fields.{first_sector, last_sector}
use Rattle.part_table.specs.Sound.{IsSoundTable}
use Rattle.part_table.specs.Windows.{part_window}
use Rattle.pico_board.specs.declared.window.Window.{Window}

within : (n : ℕ) (p : Partition) → first_sector p ≤ last_sector p → last_sector p < n / 4096
    → (part_window p).start + (part_window p).len ≤ n
within n p some last = omega arith

-- the partitions of a sound table stand inside the flash
pub parts-inside : (t : Table) (n : ℕ) → IsSoundTable t (n / 4096)
    → All (λ (w : Window). w.start + w.len ≤ n) (map part_window t.parts.items)
parts-inside t n sound =
    All-map (λ (w : Window). w.start + w.len ≤ n) part_window t.parts.items
    (λ k d lt. within n (get_or t.parts.items k d) (sound.inside k d lt).0 (sound.inside k d lt).1)
