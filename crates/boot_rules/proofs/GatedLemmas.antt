-- A gated target is a boot member, or stands in a unit of a partition that begins no boot unit.
use Rattle.std.proofs.Common.{◌≡◌, ◌⊎◌, ℕ, Bool, true, false, length, slice_get, Option, Some, None, refl, sym, ap, ◌∙◌, subst, inl, inr}
use Rattle.std.specs.Prelude.{option_map}
use Rattle.pico_board.specs.declared.boot.Cpu.{Cpu}
use Rattle.pico_board.specs.declared.window.Window.{Window}
use Rattle.pico_board.specs.Content.{Content}
use Rattle.otp_roll.specs.Flags.{slot_size}
use Rattle.part_table.specs.declared.table.Table.{Table}
use Rattle.part_table.specs.declared.target.Target.{Target}
use Rattle.part_table.specs.Fields.{is_ignored}
use Rattle.part_table.specs.Links.{is_owned}
use Rattle.part_table.specs.Partitions.{part_at}
use Rattle.part_table.proofs.TestLemmas.{mapped_some}
use Rattle.slot_choice.specs.declared.unit.SlotUnit.{SlotUnit}
use Rattle.slot_choice.specs.LoadUnits.{load_unit}
use Rattle.slot_choice.specs.Units.{IsMember, tableless_unit, unit_of, units, whole_flash}
use Rattle.slot_choice.proofs.PlaceLemmas.{IsLoadUnit, unit_at}
use Rattle.boot_rules.specs.declared.tables.Found.{Found}
use Rattle.boot_rules.specs.Chosen.{IsBootMember}
use Rattle.boot_rules.specs.Starts.{IsOfKeptUnit}
use Rattle.boot_rules.specs.Tables.{table_in, table_of_content}
use Rattle.boot_rules.specs.Targets.{target_of, unit_target}
use Rattle.boot_rules.proofs.HomeLemmas.{pair-home}
use Rattle.boot_rules.proofs.PlaceLemmas.{IsLoad, all_flash, load-is, no_table, of_part, target-member}

-- a unit without a B has no gated target
gated-pair : (c : Content) (t : Option Table) (cpu : Cpu) (family : ℕ) (u : SlotUnit) (o : Option Window)
    → (unit_target c t cpu family u o).gated ≡ true → (second : Window) × (o ≡ Some second)
gated-pair c t cpu family u None e = cc
gated-pair c t cpu family u (Some second) e = (second, refl)

nothing : (second : Window) → None ≡ Some second → ⊥
nothing second both = absurd cc

no-pair : (n : ℕ) (u : SlotUnit) (second : Window) → u ≡ whole_flash n → u.b ≡ Some second → ⊥
no-pair n u second whole pair = nothing second (sym (ap (λ (v : SlotUnit). v.b) whole) ∙ pair)

module _ (c : Content) (cpu : Cpu) (u : SlotUnit) (second : Window) (pair : u.b ≡ Some second) (w : Window)
    (member : IsMember u w) where
  abbrev n : ℕ
  n = length c.flash

  abbrev z : ℕ
  z = slot_size c.otp n

  of-slots : table_of_content c ≡ None → u ≡ tableless_unit n z → IsBootMember c w cpu
  of-slots none is =
      pair-home c w cpu 0 u second
      (ap (λ t. slice_get (units t n z cpu) 0) none ∙ ap Some (sym is)) pair member

  of-partition : (found : Found) (i : ℕ) (family : ℕ) → table_in c ≡ Some found
      → IsLoadUnit found.table.parts.items family u i → IsBootMember c w cpu ⊎ IsOfKeptUnit c cpu w
  of-partition found i family is load =
      go (is_owned (part_at found.table.parts.items i)) (is_ignored cpu (part_at found.table.parts.items i)) refl refl
    where
      there : IsMember (unit_of found.table.parts.items i) w
      there = subst (λ v. IsMember v w) load.unit member

      kept : (is_owned (part_at found.table.parts.items i) ≡ true)
          ⊎ (is_ignored cpu (part_at found.table.parts.items i) ≡ true) → IsOfKeptUnit c cpu w
      kept why =
          record { found = found; part = i; table = is; within = load.within; member = there; kept = why }

      go : (owned ignored : Bool) → is_owned (part_at found.table.parts.items i) ≡ owned
          → is_ignored cpu (part_at found.table.parts.items i) ≡ ignored → IsBootMember c w cpu ⊎ IsOfKeptUnit c cpu w
      go true ignored o e = inr (kept (inl o))
      go false true o e = inr (kept (inr e))
      go false false o e =
          let at : (k : ℕ) × (slice_get (units (Some found.table) n z cpu) k
          ≡ Some (unit_of found.table.parts.items i)) =
          unit_at found.table n z cpu i load.within load.first o e in
          let table-is : table_of_content c ≡ Some found.table = ap (option_map (λ (f : Found). f.table)) is in
          inl (pair-home c w cpu at.0 u second
          (ap (λ t. slice_get (units t n z cpu) at.0) table-is ∙ (at.1 ∙ ap Some (sym load.unit))) pair member)

  of-load : (family : ℕ) → IsLoad (table_of_content c) n z family u → IsBootMember c w cpu ⊎ IsOfKeptUnit c cpu w
  of-load family (all_flash is) = absurd (no-pair n u second is pair)
  of-load family (no_table none is) = inl (of-slots none is)
  of-load family (of_part p i some load) =
      let found : (f : Found) × (table_in c ≡ Some f) × (p ≡ f.table) =
      mapped_some (λ (f : Found). f.table) (table_in c) p some in
      of-partition found.0 i family found.1
      (subst (λ (t : Table). IsLoadUnit t.parts.items family u i) found.2 load)

pub gated-home : (c : Content) (cpu : Cpu) (family : ℕ) (target : Target)
    → target_of c (table_of_content c) cpu family ≡ Some target → target.gated ≡ true
    → IsBootMember c target.window cpu ⊎ IsOfKeptUnit c cpu target.window
gated-home c cpu family target targeted gated =
    let t : Option Table = table_of_content c in
    let found : (u : SlotUnit) × (load_unit t (length c.flash) (slot_size c.otp (length c.flash)) family ≡ Some u)
    × (target ≡ unit_target c t cpu family u u.b) =
    mapped_some (λ (u : SlotUnit). unit_target c t cpu family u u.b)
    (load_unit t (length c.flash) (slot_size c.otp (length c.flash)) family) target targeted in
    let u : SlotUnit = found.0 in
    let two : (second : Window) × (u.b ≡ Some second) =
    gated-pair c t cpu family u u.b (sym (ap (λ (x : Target). x.gated) found.2) ∙ gated) in
    let member : IsMember u target.window =
    subst (λ (x : Target). IsMember u x.window) (sym found.2) (target-member c t cpu family u u.b refl) in
    of-load c cpu u two.0 two.1 target.window member family
    (load-is t (length c.flash) (slot_size c.otp (length c.flash)) family u found.1)
