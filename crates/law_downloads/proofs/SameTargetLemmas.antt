-- Where the other member of its pair starts before and after, a download goes to the same window.
use Rattle.std.proofs.Common.{◌≡◌, ◌≢◌, ◌⊎◌, inl, inr, ℕ, zero, suc, ◌/◌, ◌≤◌, true, false, List, [], ◌∷◌, length, Option, Some, None, refl, sym, ap, ◌∙◌, subst, arith}
use Rattle.std.specs.Prelude.{if◌then◌else◌, option_map, slice_get}
use Rattle.std.specs.Option.{option_map_or}
use Rattle.std.proofs.lemmas.Bool.{cases_eq}
use Rattle.std.proofs.lemmas.Option.{same_Some}
use Rattle.pico_board.specs.declared.boot.BootKind.TheVariants.{Normal}
use Rattle.pico_board.specs.declared.boot.Cpu.{Cpu}
use Rattle.pico_board.specs.declared.window.Window.{Window}
use Rattle.pico_board.specs.Content.{AreApart, Content, IsContent}
use Rattle.otp_roll.specs.Flags.{slot_size}
use Rattle.part_table.specs.declared.partition.Partition.{Partition}
use Rattle.part_table.specs.declared.table.Table.{Table}
use Rattle.part_table.specs.declared.Target.{Target}
use Rattle.part_table.specs.Fields.{link_value}
use Rattle.part_table.specs.Links.{is_owned, owner_of}
use Rattle.part_table.specs.Partitions.{part_at}
use Rattle.part_table.specs.Sound.{IsSoundTable}
use Rattle.part_table.proofs.TestLemmas.{mapped_some}
use Rattle.slot_choice.specs.declared.choice.Choice.{Choice}
use Rattle.slot_choice.specs.declared.unit.SlotUnit.{SlotUnit}
use Rattle.slot_choice.specs.LoadUnits.{load_unit}
use Rattle.slot_choice.specs.Units.{IsMember, IsSoundFor, tableless_unit, unit_of, units}
use Rattle.slot_choice.proofs.PlaceLemmas.{IsBootUnit, IsLoadUnit, boot_unit}
use Rattle.slot_choice.proofs.UnitLemmas.{units_apart}
use Rattle.boot_rules.specs.declared.decision.Decision.TheVariants.{Start}
use Rattle.boot_rules.specs.Choosing.{boot_units_in, other_of}
use Rattle.boot_rules.specs.Chosen.{Chosen, IsBootMember}
use Rattle.boot_rules.specs.Picking.{taken}
use Rattle.boot_rules.specs.Starts.{table_of_content}
use Rattle.boot_rules.specs.Tables.{table_in}
use Rattle.boot_rules.specs.Targets.{deciding_in, deciding_unit, member_for, pair_target, target_of, unit_target}
use Rattle.boot_rules.proofs.PlaceLemmas.{IsLoad, all_flash, boot-unit-members, load-is, no_table, of_part, table-sound, target-member}
use Rattle.boot_rules.proofs.StartLemmas.{is-member}
use Rattle.boot_rules.proofs.TargetLemmas.{normal-taken, taken-stands}
use Rattle.boot_rules.proofs.SameUnitLemmas.{units-same}
use Rattle.slot_choice.proofs.PlaceLemmas.{units-apart}

pub self-apart : (w : Window) → 4096 ≤ w.len → AreApart w w → ⊥
self-apart w some (inl e) = omega (arith, some, e)
self-apart w some (inr e) = omega (arith, some, e)

only : (v : SlotUnit) (k : ℕ) (u : SlotUnit) → slice_get (v ∷ []) k ≡ Some u → v ≡ u
only v zero u e = same_Some v u e
only v (suc k) u e = cc

no-owner : (parts : List Partition) (i : ℕ) → is_owned (part_at parts i) ≡ false → owner_of (part_at parts i) ≡ None
no-owner parts i e = ap (λ yes. if yes then Some (link_value (part_at parts i)) else None) e

-- where the same choice is taken in the deciding unit, the target is the same
unit-same : (c d : Content) (t : Option Table) (cpu : Cpu) (family : ℕ) (u : SlotUnit) (o : Option Window)
    → taken d cpu (deciding_unit t u) ≡ taken c cpu (deciding_unit t u)
    → unit_target d t cpu family u o ≡ unit_target c t cpu family u o
unit-same c d t cpu family u None e = refl
unit-same c d t cpu family u (Some second) e =
    ap (λ o. pair_target t family u second (member_for (option_map (λ (x : Choice). x.member) o))) e

not-alone : (c : Content) (t : Option Table) (cpu : Cpu) (family : ℕ) (u : SlotUnit) (o : Option Window)
    → (unit_target c t cpu family u o).gated ≡ true → o ≢ None
not-alone c t cpu family u None gated e = let wrong : false ≡ true = gated in cc
not-alone c t cpu family u (Some second) gated e = cc

module _ (c : Content) (cpu : Cpu) (w : Window) (right : IsContent c) (boot_member : IsBootMember c w cpu) where
  abbrev n : ℕ
  n = length c.flash

  abbrev z : ℕ
  z = slot_size c.otp n

  abbrev t : Option Table
  t = table_of_content c

  sound : IsSoundFor t n
  sound = table-sound c (table_in c) refl

  other-in : IsMember boot_member.unit boot_member.other
  other-in = is-member (other_of boot_member.member) boot_member.unit boot_member.other boot_member.pair

  w-in : IsMember boot_member.unit w
  w-in = is-member boot_member.member boot_member.unit w boot_member.stands

  -- a boot unit with the other member is the pair
  boot-same : (k : ℕ) (v : SlotUnit) → slice_get (boot_units_in c cpu) k ≡ Some v → IsMember v boot_member.other
      → v ≡ boot_member.unit
  boot-same k v at inside = elim (cases_eq boot_member.place k) [
    | inl here ↦ same_Some v boot_member.unit
        (sym at ∙ ap (slice_get (boot_units_in c cpu)) (sym here) ∙ boot_member.tried)
    | inr differ ↦
        absurd (self-apart boot_member.other (boot-unit-members c cpu right boot_member.place boot_member.unit boot_member.tried boot_member.other
        other-in).some
        (units-apart t n z cpu sound boot_member.place k boot_member.unit v differ boot_member.tried at boot_member.other boot_member.other other-in
        inside))
  ]

  -- what is taken in the pair, on a content with the same boot units
  pub pair-taken : (d : Content) (choice : Choice) → boot_units_in d cpu ≡ boot_units_in c cpu
      → choice.image.window ≡ boot_member.other → Chosen d cpu Normal (Start choice)
      → taken d cpu boot_member.unit ≡ Some choice
  pair-taken d choice same here chosen =
      let found = normal-taken d cpu choice chosen in
      let at : slice_get (boot_units_in c cpu) found.0 ≡ Some found.1 =
      sym (ap (λ us. slice_get us found.0) same) ∙ found.2 in
      let stands : IsMember found.1 boot_member.other =
      subst (IsMember found.1) here
      (is-member choice.member found.1 choice.image.window (taken-stands d cpu found.1 choice found.3)) in
      ap (taken d cpu) (sym (boot-same found.0 found.1 at stands)) ∙ found.3

  -- a load unit with the window is the pair, which decides on its own member
  Decides : SlotUnit → Type 0
  Decides u = deciding_unit t u ≡ boot_member.unit

  of-table : (p : Table) (u : SlotUnit) (i family : ℕ) → t ≡ Some p → IsLoadUnit p.parts.items family u i → IsMember u w
      → deciding_unit t u ≡ boot_member.unit
  of-table p u i family is load inside = go (cases_eq i boot.0)
    where
      boot : (j : ℕ) × IsBootUnit p.parts.items cpu boot_member.place boot_member.unit j
      boot =
          boot_unit p n z cpu boot_member.place boot_member.unit
          (sym (ap (λ o. slice_get (units o n z cpu) boot_member.place) is) ∙ boot_member.tried)

      table_sound : IsSoundTable p (n / 4096)
      table_sound = subst (λ o. IsSoundFor o n) is sound

      go : (i ≡ boot.0) ⊎ (i ≢ boot.0) → deciding_unit t u ≡ boot_member.unit
      go (inl e) =
          let same : u ≡ boot_member.unit = load.unit ∙ ap (unit_of p.parts.items) e ∙ sym boot.1.unit in
          let free : is_owned (part_at p.parts.items i) ≡ false =
          subst (λ l. is_owned (part_at p.parts.items l) ≡ false) (sym e) boot.1.free in
          let number : u.a_part ≡ Some i = ap (λ (x : SlotUnit). x.a_part) load.unit in
          ap (λ o. deciding_unit o u) is
          ∙ ap (deciding_in p.parts.items u) number
          ∙ ap (λ o. option_map_or (unit_of p.parts.items) o u) (no-owner p.parts.items i free)
          ∙ same
      go (inr differ) =
          absurd (self-apart w (boot-unit-members c cpu right boot_member.place boot_member.unit boot_member.tried w w-in).some
          (units_apart p (n / 4096) table_sound i boot.0 load.within boot.1.within load.first boot.1.first differ w w
          (subst (λ x. IsMember x w) load.unit inside) (subst (λ x. IsMember x w) boot.1.unit w-in)))

  without : (u : SlotUnit) → t ≡ None → u ≡ tableless_unit n z → deciding_unit t u ≡ boot_member.unit
  without u none is =
      ap (λ o. deciding_unit o u) none
      ∙ is ∙ only (tableless_unit n z) boot_member.place boot_member.unit
      (sym (ap (λ o. slice_get (units o n z cpu) boot_member.place) none) ∙ boot_member.tried)

  decides : (family : ℕ) (u : SlotUnit) → IsLoad t n z family u → u.b ≢ None → IsMember u w
      → deciding_unit t u ≡ boot_member.unit
  decides family u (all_flash is) pair inside = absurd (pair (ap (λ (x : SlotUnit). x.b) is))
  decides family u (no_table none is) pair inside = without u none is
  decides family u (of_part p i some load) pair inside = of-table p u i family some load inside

  -- the target on another content with the same table, length and rows
  module _ (d : Content) (table : table_in d ≡ table_in c) (long : length d.flash ≡ length c.flash)
      (rows : d.otp ≡ c.otp) (choice : Choice) (here : choice.image.window ≡ boot_member.other)
      (before : Chosen c cpu Normal (Start choice)) (after : Chosen d cpu Normal (Start choice)) where
    same-units : boot_units_in d cpu ≡ boot_units_in c cpu
    same-units = units-same c d cpu table long (ap (λ o. slot_size o (length c.flash)) rows)

    same-taken : taken d cpu boot_member.unit ≡ taken c cpu boot_member.unit
    same-taken = pair-taken d choice same-units here after ∙ sym (pair-taken c choice refl here before)

    abbrev aimed_at : Content → Option Table → ℕ → ℕ → ℕ → Option Target
    aimed_at x o k y family =
        option_map (λ (u : SlotUnit). unit_target x o cpu family u u.b) (load_unit o k y family)

    pub same-target : (family : ℕ) (target : Target) → target.window ≡ w → target.gated ≡ true
        → target_of c t cpu family ≡ Some target
        → target_of d (table_of_content d) cpu family ≡ Some target
    same-target family target window gated is =
        let at = mapped_some (λ (u : SlotUnit). unit_target c t cpu family u u.b) (load_unit t n z family) target is in
        let u = at.0 in
        let inside : IsMember u w =
        subst (IsMember u) (ap (λ (x : Target). x.window) (sym at.2) ∙ window)
        (target-member c t cpu family u u.b refl) in
        let pair : u.b ≢ None =
        not-alone c t cpu family u u.b (ap (λ (x : Target). x.gated) (sym at.2) ∙ gated) in
        let unit : deciding_unit t u ≡ boot_member.unit = decides family u (load-is t n z family u at.1) pair inside in
        let same : taken d cpu (deciding_unit t u) ≡ taken c cpu (deciding_unit t u) =
        ap (taken d cpu) unit ∙ same-taken ∙ ap (taken c cpu) (sym unit) in
        ap (λ o. aimed_at d (option_map (λ f. f.table) o) (length d.flash) (slot_size d.otp (length d.flash)) family)
        table
        ∙ ap (λ o. aimed_at d t (length d.flash) (slot_size o (length d.flash)) family) rows
        ∙ ap (λ k. aimed_at d t k (slot_size c.otp k) family) long
        ∙ ap (option_map (λ (x : SlotUnit). unit_target d t cpu family x x.b)) at.1
        ∙ ap Some (unit-same c d t cpu family u u.b same ∙ sym at.2)
