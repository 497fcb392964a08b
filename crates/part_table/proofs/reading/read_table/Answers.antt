use Rattle.std.proofs.Common.{ℕ, ◌<◌, length}
use Rattle.part_table.specs.Sound.{IsSoundTable}
use Rattle.part_table.specs.Windows.{IsPlacedWindow, partition_window}
use Rattle.part_table.proofs.TableLemmas.{of_read, sound_from_table_of, faultless_from_table_of, partition_placed}
use Rattle.part_table.proofs.reading.read_table.Goals as goal

pub returns-clause-sound : goal.returns-clause-sound
returns-clause-sound c =
    of_read c.args.block.now c.args.sectors c.args.first c.table_of.result
    (λ t. IsSoundTable t c.args.sectors) c.table_of.ensures
    (sound_from_table_of c.args.block.now c.args.sectors c.args.first)

pub returns-clause-placed : goal.returns-clause-placed
returns-clause-placed c =
    of_read c.args.block.now c.args.sectors c.args.first c.table_of.result
    (λ t. (i : ℕ) → i < length t.parts.items
    → IsPlacedWindow (partition_window t i) c.args.sectors c.args.first) c.table_of.ensures
    (λ t read. partition_placed t c.args.sectors c.args.first
    (faultless_from_table_of c.args.block.now c.args.sectors c.args.first t read))
