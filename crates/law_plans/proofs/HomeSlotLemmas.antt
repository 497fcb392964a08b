-- With a table, a member of a pair is the window of a partition.
use Rattle.std.proofs.Common.{◌≡◌, ◌⊎◌, inl, inr, ℕ, ◌<◌, length, slice_get, Some, sym, ap, ◌∙◌, subst, option_map}
use Rattle.pico_board.specs.declared.boot.Cpu.{Cpu}
use Rattle.pico_board.specs.declared.window.Window.{Window}
use Rattle.pico_board.specs.Content.{Content, IsContent}
use Rattle.otp_roll.specs.Flags.{slot_size}
use Rattle.part_table.specs.Links.{pair_of}
use Rattle.part_table.specs.declared.table.Table.{Table}
use Rattle.part_table.specs.Windows.{partition_window}
use Rattle.part_table.proofs.LinkLemmas.{second_found}
use Rattle.slot_choice.specs.Units.{IsMember, unit_of, units}
use Rattle.slot_choice.proofs.PlaceLemmas.{boot_unit}
use Rattle.slot_choice.proofs.UnitLemmas.{member_part}
use Rattle.boot_rules.specs.declared.tables.Found.{Found}
use Rattle.boot_rules.specs.Chosen.{IsBootMember}
use Rattle.boot_rules.specs.Tables.{table_in}
use Rattle.boot_session.specs.Sessions.{IsSlotOf}
use Rattle.boot_session.proofs.NeighbourLemmas.{in-unit}

member-partition : (p : Table) (i : ℕ) → i < length p.parts.items → (w : Window)
    → IsMember (unit_of p.parts.items i) w
    → (e : ℕ) × (e < length p.parts.items) × (w ≡ partition_window p e)
member-partition p i lt w inside =
    let at = member_part p.parts.items i w inside in (at.0, within at.0 at.1, at.2)
  where
    within : (e : ℕ) → (e ≡ i) ⊎ (pair_of p.parts.items i ≡ Some e) → e < length p.parts.items
    within e (inl same) = subst (λ k. k < length p.parts.items) (sym same) lt
    within e (inr pair) = (second_found p.parts.items i e pair).0

pub home-slot : (c : Content) (w : Window) (cpu : Cpu) (found : Found) → IsContent c → IsBootMember c w cpu
    → table_in c ≡ Some found → IsSlotOf c cpu w
home-slot c w cpu found right boot_member is =
    let n = length c.flash in
    let z = slot_size c.otp n in
    let at : slice_get (units (Some found.table) n z cpu) boot_member.place ≡ Some boot_member.unit =
    sym (ap (λ o. slice_get (units (option_map (λ (f : Found). f.table) o) n z cpu) boot_member.place) is)
    ∙ boot_member.tried in
    let boot = boot_unit found.table n z cpu boot_member.place boot_member.unit at in
    let part = member-partition found.table boot.0 boot.1.within w
    (subst (λ u. IsMember u w) boot.1.unit (in-unit c w cpu right boot_member)) in
    inl (found, part.0, is, part.1, part.2)
