-- What a session on a partition that is a member of no boot unit leaves.
use Rattle.std.proofs.Common.{◌≡◌, ℕ, ◌*◌, ◌/◌, ◌<◌, List, length, slice_get, Some, sym, ap, ◌∙◌, subst, inl, inr}
use Rattle.std.specs.Prelude.{option_map}
use Rattle.std.proofs.lemmas.Bool.{cases_eq}
use Rattle.pico_board.specs.declared.Step.{Step}
use Rattle.pico_board.specs.declared.boot.Cpu.{Cpu}
use Rattle.pico_board.specs.declared.boot.BootKind.TheVariants.{Normal}
use Rattle.pico_board.specs.declared.window.Window.{Window}
use Rattle.pico_board.specs.Content.{AreApart, Content, IsContent}
use Rattle.pico_board.specs.Sessions.{Confined, SameButWindow}
use Rattle.pico_board.specs.Steps.{MayLeave}
use Rattle.pico_board.proofs.ConfinementLemmas.{confined-MayLeave}
use Rattle.otp_roll.specs.Flags.{slot_size}
use Rattle.part_table.specs.Partitions.{part_at}
use Rattle.part_table.specs.Windows.{part_window, partition_window}
use Rattle.part_table.proofs.TableLemmas.{partition_placed, partitions_apart}
use Rattle.slot_choice.specs.declared.unit.SlotUnit.{SlotUnit}
use Rattle.slot_choice.specs.Units.{IsMember, units}
use Rattle.slot_choice.proofs.PlaceLemmas.{IsBootUnit, boot_unit}
use Rattle.slot_choice.proofs.UnitLemmas.{Belongs, belongs_within, member_part}
use Rattle.boot_rules.specs.declared.decision.Decision.{Decision}
use Rattle.boot_rules.specs.declared.tables.Found.{Found}
use Rattle.boot_rules.specs.Choosing.{boot_units_in}
use Rattle.boot_rules.specs.Chosen.{Chosen}
use Rattle.boot_rules.specs.Tables.{table_of_content}
use Rattle.boot_rules.specs.Tables.{slot_window, table_in}
use Rattle.boot_rules.proofs.DataLemmas.{same-decision, same-table, slots-apart}
use Rattle.boot_rules.proofs.DecisionLemmas.{chosen-exactly}
use Rattle.boot_rules.proofs.TableLemmas.{found-in, found-sound}

module _ (c : Content) (found : Found) (i : ℕ) (right : IsContent c) (is : table_in c ≡ Some found)
    (within : i < length found.table.parts.items) where
  abbrev n : ℕ
  n = length c.flash

  abbrev z : ℕ
  z = slot_size c.otp n

  abbrev here : Window
  here = partition_window found.table i

  slots : AreApart (slot_window z 0) here × AreApart (slot_window z 1) here
  slots = slots-apart c here right
      (partition_placed found.table (n / 4096) (2 * z / 4096) (found-in c found is).1 i within)

  module _ (steps : List Step) (d : Content) (confined : Confined steps here) (left : MayLeave c steps d) where
    same : SameButWindow here c d
    same = confined-MayLeave c here steps d confined left

    pub beside-table : table_in d ≡ Some found
    beside-table = same-table c d here same slots.0 slots.1 ∙ is

    module _ (cpu : Cpu) (outside : (k : ℕ) (u : SlotUnit) → slice_get (boot_units_in c cpu) k ≡ Some u
        → ¬ (IsMember u here)) where
      apart-of : (k : ℕ) (u : SlotUnit) → slice_get (boot_units_in c cpu) k ≡ Some u → (x : Window) → IsMember u x
          → AreApart here x
      apart-of k u at x member =
          let table-is : table_of_content c ≡ Some found.table = ap (option_map (λ (f : Found). f.table)) is in
          let boot : (j : ℕ) × IsBootUnit found.table.parts.items cpu k u j =
          boot_unit found.table n z cpu k u (sym (ap (λ t. slice_get (units t n z cpu) k) table-is) ∙ at) in
          let of_x : (e : ℕ) × Belongs found.table.parts.items boot.0 e
          × (x ≡ part_window (part_at found.table.parts.items e)) =
          member_part found.table.parts.items boot.0 x (subst (λ v. IsMember v x) boot.1.unit member) in
          let e_within : of_x.0 < length found.table.parts.items =
          belongs_within found.table.parts.items boot.0 of_x.0 boot.1.within of_x.1 in
          elim (cases_eq i of_x.0) [
            | inl e ↦
                let same : x ≡ here = of_x.2 ∙ ap (λ l. part_window (part_at found.table.parts.items l)) (sym e) in
                absurd (outside k u at (subst (IsMember u) same member))
            | inr differ ↦
                subst (AreApart here) (sym of_x.2)
                (partitions_apart found.table (n / 4096) (found-sound c found is) i of_x.0 within e_within differ)
          ]

      pub beside-decision : (e : Decision) → Chosen c cpu Normal e → Chosen d cpu Normal e
      beside-decision e h =
          (chosen-exactly d cpu Normal e).1
          ((chosen-exactly c cpu Normal e).0 h
          ∙ sym (same-decision c d here same (beside-table ∙ sym is) cpu apart-of))
