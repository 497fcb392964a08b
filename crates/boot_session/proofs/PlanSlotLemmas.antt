-- A slot that a plan writes: where it stands, and that its sectors have one right.
use Rattle.std.proofs.Common.{◌≡◌, inl, inr, ℕ, ◌+◌, ◌/◌, ◌<◌, ◌≤◌, Bool, true, ◌&&◌, length, Some, sym, ap, ap₂, ◌∙◌, subst, arith, le-leb}
use Rattle.pico_board.specs.declared.boot.Cpu.{Cpu}
use Rattle.pico_board.specs.declared.window.Window.{Window}
use Rattle.pico_board.specs.Content.{Content, IsContent}
use Rattle.part_table.specs.declared.partition.Partition.{Partition}
use Rattle.part_table.specs.declared.table.Right.TheVariants.{BootWrite}
use Rattle.part_table.specs.declared.table.Table.{Table}
use Rattle.part_table.specs.Fields.{first_sector, has_bit, last_sector}
use Rattle.part_table.specs.Partitions.{no_partition, part_at}
use Rattle.part_table.specs.Rights.{allowed_by}
use Rattle.part_table.specs.Sound.{IsSoundTable}
use Rattle.part_table.specs.Windows.{IsPlacedWindow, has_sector, partition_window}
use Rattle.part_table.proofs.TableLemmas.{partition_right, sound_placed}
use Rattle.boot_rules.specs.Tables.{table_in}
use Rattle.boot_rules.proofs.TableLemmas.{found-sound}
use Rattle.boot_machine.specs.Serving.{table_of_found}
use Rattle.boot_session.specs.Sessions.{IsSlotOf}
use Rattle.boot_session.proofs.NeighbourLemmas as near

-- the slot stands in whole sectors inside the flash, which may all be written, or none
pub record IsSlot (c : Content) (w : Window) : Type 0 where
  pub placed : IsPlacedWindow w (length c.flash / 4096) 0
  pub may : Bool
  pub rights : (k : ℕ) → w.start ≤ k → k < w.start + w.len
      → allowed_by (table_of_found (table_in c)) (k / 4096) BootWrite ≡ may

both-true : (a b : Bool) → a ≡ true → b ≡ true → (a && b) ≡ true
both-true a b p q = ap₂ (λ x y. x && y) p q

module _ (t : Table) (n i : ℕ) (sound : IsSoundTable t n) (lt : i < length t.parts.items) where
  abbrev part : Partition
  part = part_at t.parts.items i

  holds : (k : ℕ) → (partition_window t i).start ≤ k
      → k < (partition_window t i).start + (partition_window t i).len → has_sector (k / 4096) part ≡ true
  holds k low high =
      let order : first_sector part ≤ last_sector part = (sound.inside i no_partition lt).0 in
      both-true _ _ (le-leb (first_sector part) (k / 4096) (omega (arith, low)))
      (le-leb (k / 4096) (last_sector part) (omega (arith, high, order)))

  pub part-right : (k : ℕ) → (partition_window t i).start ≤ k
      → k < (partition_window t i).start + (partition_window t i).len
      → allowed_by (Some t) (k / 4096) BootWrite ≡ has_bit part.location 31
  part-right k low high =
      ap (λ word. has_bit word 31) (partition_right t sound.overlap i (k / 4096) lt (holds k low high))

pub slot-is : (c : Content) (cpu : Cpu) (w : Window) → IsContent c → IsSlotOf c cpu w → IsSlot c w
slot-is c cpu w right (inl (found, i, is, lt, same)) =
    let sound = found-sound c found is in
    record {
      placed = subst (λ v. IsPlacedWindow v (length c.flash / 4096) 0) (sym same)
          (sound_placed found.table (length c.flash / 4096) sound i lt);
      may = has_bit (part_at found.table.parts.items i).location 31;
      rights = λ k low high.
          ap (λ o. allowed_by (table_of_found o) (k / 4096) BootWrite) is
          ∙ part-right found.table (length c.flash / 4096) i sound lt k
          (subst (λ (v : Window). v.start ≤ k) same low)
          (subst (λ (v : Window). k < v.start + v.len) same high);
    }
slot-is c cpu w right (inr (none, boot_member)) = record {
  placed = near.placed c w cpu right boot_member;
  may = true;
  rights = λ k low high. ap (λ o. allowed_by (table_of_found o) (k / 4096) BootWrite) none;
}
