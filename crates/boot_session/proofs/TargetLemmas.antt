-- Where a target is a slot of the content, and where it is the whole flash.
use Rattle.std.proofs.Common.{◌≡◌, ◌⊎◌, inl, inr, ℕ, ◌<◌, Bool, true, false, length, Option, Some, None, refl, sym, ap, ◌∙◌, subst, true≢false}
use Rattle.std.specs.Prelude.{nat_lt, slice_get, option_map, if◌then◌else◌}
use Rattle.part_table.specs.Links.{pair_of}
use Rattle.part_table.proofs.TestLemmas.{mapped_some}
use Rattle.pico_board.specs.declared.boot.Cpu.{Cpu}
use Rattle.pico_board.specs.declared.window.Window.{Window}
use Rattle.pico_board.specs.Content.{Content}
use Rattle.otp_roll.specs.Flags.{slot_size}
use Rattle.part_table.specs.declared.Table.{Table}
use Rattle.part_table.specs.declared.Target.{Target}
use Rattle.part_table.specs.Windows.{partition_window}
use Rattle.part_table.proofs.LinkLemmas.{second_found}
use Rattle.slot_choice.specs.declared.unit.SlotUnit.{SlotUnit}
use Rattle.slot_choice.specs.LoadUnits.{load_unit}
use Rattle.slot_choice.specs.Units.{IsMember, slot_pair, tableless_unit, unit_of, units, whole_flash}
use Rattle.slot_choice.proofs.PlaceLemmas.{IsLoadUnit}
use Rattle.slot_choice.proofs.UnitLemmas.{member_part}
use Rattle.boot_rules.specs.declared.tables.Found.{Found}
use Rattle.boot_rules.specs.Choosing.{boot_units_in}
use Rattle.boot_rules.specs.Starts.{table_of_content}
use Rattle.boot_rules.specs.Tables.{table_in}
use Rattle.boot_rules.specs.Targets.{target_of, unit_target}
use Rattle.boot_rules.proofs.HomeLemmas.{pair-home}
use Rattle.boot_rules.proofs.PlaceLemmas.{IsLoad, all_flash, load-is, no_table, of_part}
use Rattle.boot_rules.proofs.TargetLemmas.{pair-member}
use Rattle.boot_session.specs.Sessions.{IsSlotOf}

-- a member of a partition's unit is the window of a partition
pub member-partition : (p : Table) (i : ℕ) → i < length p.parts.items → (w : Window)
    → IsMember (unit_of p.parts.items i) w
    → (e : ℕ) × (e < length p.parts.items) × (w ≡ partition_window p e)
member-partition p i lt w inside =
    let at = member_part p.parts.items i w inside in (at.0, within at.0 at.1, at.2)
  where
    within : (e : ℕ) → (e ≡ i) ⊎ (pair_of p.parts.items i ≡ Some e) → e < length p.parts.items
    within e (inl same) = subst (λ k. k < length p.parts.items) (sym same) lt
    within e (inr pair) = (second_found p.parts.items i e pair).0

module _ (c : Content) (cpu : Cpu) (family : ℕ) where
  abbrev n : ℕ
  n = length c.flash

  abbrev z : ℕ
  z = slot_size c.otp n

  abbrev t : Option Table
  t = table_of_content c

  -- the target of a unit is one of its members, and a pair where it is gated
  member : (u : SlotUnit) → IsMember u (unit_target c t cpu family u u.b).window
  member u = go u.b refl
    where
      go : (o : Option Window) → u.b ≡ o → IsMember u (unit_target c t cpu family u u.b).window
      go None e = inl (ap (λ (o : Option Window). (unit_target c t cpu family u o).window) e)
      go (Some second) e = pair-member c cpu family t u second e

  gated-pair : (u : SlotUnit) → (unit_target c t cpu family u u.b).gated ≡ true
      → (second : Window) × (u.b ≡ Some second)
  gated-pair u gated = go u.b refl
    where
      go : (o : Option Window) → u.b ≡ o → (second : Window) × (u.b ≡ Some second)
      go None e =
          absurd (true≢false (sym gated ∙ ap (λ (o : Option Window). (unit_target c t cpu family u o).gated) e))
      go (Some second) e = (second, e)

  -- a member of a partition's unit is a partition of the content's table
  part-slot : (p : Table) (u : SlotUnit) (i : ℕ) → t ≡ Some p → IsLoadUnit p.parts.items family u i → (w : Window)
      → IsMember u w → IsSlotOf c cpu w
  part-slot p u i is load w inside =
      let at = member-partition p i load.within w (subst (λ (x : SlotUnit). IsMember x w) load.unit inside) in
      let found = mapped_some (λ (f : Found). f.table) (table_in c) p is in
      inl (
        found.0,
        at.0,
        found.1,
        subst (λ (x : Table). at.0 < length x.parts.items) found.2 at.1,
        at.2 ∙ ap (λ (x : Table). partition_window x at.0) found.2,
      )

  -- without a table a member of the pair of slots is a boot member
  none-found : t ≡ None → table_in c ≡ None
  none-found none = go (table_in c) none
    where
      go : (o : Option Found) → option_map (λ (f : Found). f.table) o ≡ None → o ≡ None
      go None e = refl
      go (Some found) e = cc

  pair-slot : (u : SlotUnit) (second : Window) → t ≡ None → u ≡ tableless_unit n z → u.b ≡ Some second → (w : Window)
      → IsMember u w → IsSlotOf c cpu w
  pair-slot u second none same pair w inside =
      inr (none-found none, pair-home c w cpu 0 u second tried pair inside)
    where
      tried : slice_get (boot_units_in c cpu) 0 ≡ Some u
      tried = ap (λ o. slice_get (units o n z cpu) 0) none ∙ ap Some (sym same)

  whole-alone : (u : SlotUnit) → u ≡ tableless_unit n z → u.b ≡ None → u ≡ whole_flash n
  whole-alone u same alone = go (nat_lt 4096 z) same
    where
      go : (b : Bool) → u ≡ (if b then slot_pair z else whole_flash n) → u ≡ whole_flash n
      go true e = let wrong : None ≡ Some _ = sym alone ∙ ap (λ (x : SlotUnit). x.b) e in cc
      go false e = e

  abbrev Stands : Window → Type 0
  Stands w = IsSlotOf c cpu w ⊎ (w ≡ record { start = 0; len = n })

  -- the one member of the whole flash
  whole-member : (u : SlotUnit) (w : Window) → u ≡ whole_flash n → IsMember u w → w ≡ record { start = 0; len = n }
  whole-member u w same (inl a) = a ∙ ap (λ (x : SlotUnit). x.a) same
  whole-member u w same (inr b) = let wrong : None ≡ Some w = sym (ap (λ (x : SlotUnit). x.b) same) ∙ b in cc

  unit-stands : (u : SlotUnit) → IsLoad t n z family u → (w : Window) → IsMember u w → Stands w
  unit-stands u (all_flash same) w inside = inr (whole-member u w same inside)
  unit-stands u (no_table none same) w inside = go u.b refl
    where
      go : (o : Option Window) → u.b ≡ o → Stands w
      go None e = inr (whole-member u w (whole-alone u same e) inside)
      go (Some second) e = inl (pair-slot u second none same e w inside)
  unit-stands u (of_part p i is load) w inside = inl (part-slot p u i is load w inside)

  unit-gated : (u : SlotUnit) (second : Window) → u.b ≡ Some second → IsLoad t n z family u → (w : Window)
      → IsMember u w → IsSlotOf c cpu w
  unit-gated u second pair (all_flash same) w inside =
      let wrong : None ≡ Some second = sym (ap (λ (x : SlotUnit). x.b) same) ∙ pair in cc
  unit-gated u second pair (no_table none same) w inside = pair-slot u second none same pair w inside
  unit-gated u second pair (of_part p i is load) w inside = part-slot p u i is load w inside

pub target-stands : (c : Content) (cpu : Cpu) (family : ℕ) (target : Target)
    → target_of c (table_of_content c) cpu family ≡ Some target
    → IsSlotOf c cpu target.window ⊎ (target.window ≡ record { start = 0; len = length c.flash })
target-stands c cpu family target is =
    let n = length c.flash in
    let t = table_of_content c in
    let at = mapped_some (λ (u : SlotUnit). unit_target c t cpu family u u.b)
    (load_unit t n (slot_size c.otp n) family) target is in
    unit-stands c cpu family at.0 (load-is t n (slot_size c.otp n) family at.0 at.1) target.window
    (subst (λ (x : Target). IsMember at.0 x.window) (sym at.2) (member c cpu family at.0))

pub gated-target : (c : Content) (cpu : Cpu) (family : ℕ) (target : Target)
    → target_of c (table_of_content c) cpu family ≡ Some target → target.gated ≡ true
    → IsSlotOf c cpu target.window
gated-target c cpu family target is gated =
    let n = length c.flash in
    let t = table_of_content c in
    let at = mapped_some (λ (u : SlotUnit). unit_target c t cpu family u u.b)
    (load_unit t n (slot_size c.otp n) family) target is in
    let pair = gated-pair c cpu family at.0 (ap (λ (x : Target). x.gated) (sym at.2) ∙ gated) in
    unit-gated c cpu family at.0 pair.0 pair.1 (load-is t n (slot_size c.otp n) family at.0 at.1) target.window
    (subst (λ (x : Target). IsMember at.0 x.window) (sym at.2) (member c cpu family at.0))
