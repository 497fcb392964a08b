-- Where the members of boot units stand beside a member of a pair, and the table slots.
use Rattle.std.proofs.Common.{◌≡◌, ◌⊎◌, inl, inr, ℕ, ◌*◌, ◌/◌, length, slice_get, Some, refl, sym, ap, ◌∙◌, subst, arith, option_map}
use Rattle.std.proofs.lemmas.Bool.{cases_eq}
use Rattle.std.proofs.lemmas.Option.{same_Some}
use Rattle.pico_board.specs.declared.boot.Cpu.{Cpu}
use Rattle.pico_board.specs.declared.window.Window.{Window}
use Rattle.pico_board.specs.Content.{AreApart, Content, IsContent}
use Rattle.otp_roll.specs.Flags.{slot_size}
use Rattle.part_table.specs.Windows.{IsPlacedWindow, IsPlacedIn}
use Rattle.part_table.proofs.TableLemmas.{partition_placed}
use Rattle.slot_choice.specs.declared.unit.Member.{Member}
use Rattle.slot_choice.specs.declared.unit.Member.TheVariants.{A, B}
use Rattle.slot_choice.specs.declared.unit.SlotUnit.{SlotUnit}
use Rattle.slot_choice.specs.Units.{IsMember, member_window, units}
use Rattle.slot_choice.proofs.PlaceLemmas.{apart_from_slots, boot_unit}
use Rattle.slot_choice.proofs.UnitLemmas.{member_placed}
use Rattle.boot_rules.specs.declared.tables.Found.{Found}
use Rattle.boot_rules.specs.Choosing.{boot_units_in, other_of}
use Rattle.boot_rules.specs.Chosen.{IsBootMember}
use Rattle.boot_rules.specs.Starts.{table_of_content}
use Rattle.boot_rules.specs.Tables.{slot_window, table_in}
use Rattle.boot_rules.proofs.PlaceLemmas.{boot-unit-members, slot-size, table-sound}
use Rattle.boot_rules.proofs.StartLemmas.{boot-pair-apart, is-member, other-apart}
use Rattle.boot_rules.proofs.TableLemmas.{found-in}
use Rattle.slot_choice.proofs.PlaceLemmas.{units-apart}

same-or-other : (m n : Member) → (m ≡ n) ⊎ (m ≡ other_of n)
same-or-other A A = inl refl
same-or-other A B = inr refl
same-or-other B A = inr refl
same-or-other B B = inl refl

-- a window behind both table slots stands apart from them
pub placed-apart : (c : Content) (w : Window) → IsContent c
    → IsPlacedWindow w (length c.flash / 4096) (2 * slot_size c.otp (length c.flash) / 4096)
    → AreApart (slot_window (slot_size c.otp (length c.flash)) 0) w
    × AreApart (slot_window (slot_size c.otp (length c.flash)) 1) w
placed-apart c w right placed =
    let z = slot_size c.otp (length c.flash) in
    let size = slot-size c.otp (length c.flash) right.flash_length.least in
    let whole = size.whole in
    let both : 4096 * (2 * z / 4096) ≡ 2 * z = omega (arith, whole) in
    let apart = apart_from_slots z (2 * z / 4096) (length c.flash / 4096) w both placed in
    let never : 0 ≡ 0 * z = omega arith in
    let once : z ≡ 1 * z = omega arith in (
      subst (λ k. AreApart (record { start = k; len = z }) w) never apart.0,
      subst (λ k. AreApart (record { start = k; len = z }) w) once apart.1,
    )

module _ (c : Content) (w : Window) (cpu : Cpu) (right : IsContent c) (boot_member : IsBootMember c w cpu) where
  abbrev n : ℕ
  n = length c.flash

  abbrev z : ℕ
  z = slot_size c.otp n

  pub in-unit : IsMember boot_member.unit w
  in-unit = is-member boot_member.member boot_member.unit w boot_member.stands

  pub placed : IsPlacedIn c w
  placed = boot-unit-members c cpu right boot_member.place boot_member.unit boot_member.tried w in-unit

  -- a member of a boot unit is the window, or stands apart from it
  pub here-or-apart : (k : ℕ) (v : SlotUnit) (m : Member) (x : Window) → slice_get (boot_units_in c cpu) k ≡ Some v
      → member_window m v ≡ Some x → (x ≡ w) ⊎ AreApart w x
  here-or-apart k v m x at stands = elim (cases_eq boot_member.place k) [
    | inl here ↦
        let is : boot_member.unit ≡ v =
        same_Some boot_member.unit v (sym boot_member.tried ∙ ap (slice_get (boot_units_in c cpu)) here ∙ at) in
        of-unit (subst (λ (u : SlotUnit). member_window m u ≡ Some x) (sym is) stands)
        (same-or-other m boot_member.member)
    | inr differ ↦
        inr (units-apart (table_of_content c) n z cpu
        (table-sound c (table_in c) refl) boot_member.place k boot_member.unit v differ
        boot_member.tried at w x in-unit (is-member m v x stands))
  ]
    where
      of-unit : member_window m boot_member.unit ≡ Some x → (m ≡ boot_member.member) ⊎ (m ≡ other_of boot_member.member)
          → (x ≡ w) ⊎ AreApart w x
      of-unit mine (inl e) = inl (same_Some x w
          (sym mine ∙ ap (λ l. member_window l boot_member.unit) e ∙ boot_member.stands))
      of-unit mine (inr e) =
          inr (other-apart boot_member.unit
          (boot-pair-apart (table_of_content c) n z cpu
          (table-sound c (table_in c) refl) boot_member.place boot_member.unit
          boot_member.tried)
          boot_member.member w x boot_member.stands (sym (ap (λ l. member_window l boot_member.unit) e) ∙ mine))

  -- with a table, the window stands apart from both table slots
  module _ (found : Found) (is : table_in c ≡ Some found) where
    boot-at : slice_get (units (Some found.table) n z cpu) boot_member.place ≡ Some boot_member.unit
    boot-at =
        sym (ap (λ o. slice_get (units (option_map (λ (f : Found). f.table) o) n z cpu) boot_member.place) is)
        ∙ boot_member.tried

    behind-slots : IsPlacedWindow w (n / 4096) (2 * z / 4096)
    behind-slots =
        let boot = boot_unit found.table n z cpu boot_member.place boot_member.unit boot-at in
        member_placed found.table (n / 4096) (2 * z / 4096)
        (partition_placed found.table (n / 4096) (2 * z / 4096) (found-in c found is).1) boot.0 boot.1.within w
        (subst (λ u. IsMember u w) boot.1.unit in-unit)

    pub slots-apart : AreApart (slot_window z 0) w × AreApart (slot_window z 1) w
    slots-apart = placed-apart c w right behind-slots
