use Rattle.std.proofs.Common.{◌≡◌, ℕ, suc, ◌+◌, length, slice_get, Some, refl, subst, arith}
use Rattle.otp_roll.specs.Flags.{slot_size}
use Rattle.part_table.specs.Partitions.{part_at}
use Rattle.part_table.specs.Windows.{part_window}
use Rattle.boot_rules.specs.Tables.{table_of_content}
use Rattle.boot_rules.specs.Tables.{slot_window}
use Rattle.boot_map.specs.declared.places.MapPlace.TheVariants.{Slot, Partition as Part}
use Rattle.boot_map.specs.Windows.{parts_of}
use Rattle.boot_map.proofs.StartLemmas.{no-neighbours, place-once, place-row}
use Rattle.boot_map.proofs.laws.each_place_has_one_row.Goals as goal

next-at : (k : ℕ) → k + 1 ≡ suc k
next-at k = omega arith

pub returns-clause-slots : goal.returns-clause-slots
returns-clause-slots a = λ c cpu m number right is lt slots.
    place-row c cpu m right is (Slot number) (slot_window (slot_size c.otp (length c.flash)) number) (slots, lt, refl)

pub returns-clause-partitions : goal.returns-clause-partitions
returns-clause-partitions a = λ c cpu m i right is lt.
    place-row c cpu m right is (Part i) (part_window (part_at (parts_of (table_of_content c)) i)) (lt, refl)

pub returns-clause-one : goal.returns-clause-one
returns-clause-one a = λ c cpu m j k x y right is one two same other.
    place-once c cpu m right is j k x y one two same other

pub returns-clause-apart : goal.returns-clause-apart
returns-clause-apart a = λ c cpu m k x y right is one two x_free y_free.
    no-neighbours c cpu m right is k x y one (subst (λ j. slice_get m.rows.items j ≡ Some y) (next-at k) two) x_free
    y_free
