-- Which windows are boot members, by the words on pairs.
use Rattle.std.proofs.Common.{◌≡◌, ◌≢◌, ◌⊎◌, ℕ, zero, suc, ◌*◌, ◌/◌, ◌<◌, ◌≤◌, Bool, true, false, List, [], ◌∷◌, length, slice_get, Option, Some, None, arith, refl, sym, ap, ◌∙◌, subst, inl, inr}
use Rattle.std.specs.Prelude.{if◌then◌else◌, nat_lt, option_map}
use Rattle.std.proofs.lemmas.Bool.{cases_eq, eqb-true, lt-ltb, ltb-true}
use Rattle.std.proofs.lemmas.Option.{same_Some}
use Rattle.pico_board.specs.declared.boot.Cpu.{Cpu}
use Rattle.pico_board.specs.declared.window.Window.{Window}
use Rattle.pico_board.specs.Content.{AreApart, Content, IsContent}
use Rattle.part_table.specs.declared.partition.Partition.{Partition}
use Rattle.part_table.specs.declared.table.Table.{Table}
use Rattle.part_table.specs.Fields.{is_ignored, link_type}
use Rattle.part_table.specs.Links.{is_owned, is_second, pair_of}
use Rattle.part_table.specs.Partitions.{part_at}
use Rattle.part_table.specs.Sound.{IsSoundTable}
use Rattle.part_table.specs.Windows.{part_window, partition_window}
use Rattle.part_table.proofs.TableLemmas.{partitions_apart, sound_placed}
use Rattle.part_table.proofs.TestLemmas.{differ, mapped_some, never_true}
use Rattle.slot_choice.specs.declared.unit.SlotUnit.{SlotUnit}
use Rattle.slot_choice.specs.Units.{IsMember, slot_pair, tableless_unit, unit_of, units, whole_flash}
use Rattle.slot_choice.proofs.PlaceLemmas.{boot_members_placed, boot_unit, unit_at}
use Rattle.slot_choice.proofs.UnitLemmas.{units_apart}
use Rattle.boot_rules.specs.declared.tables.Found.{Found}
use Rattle.boot_rules.specs.Choosing.{boot_units_in}
use Rattle.boot_rules.specs.Chosen.{IsBootMember}
use Rattle.boot_rules.specs.Tables.{table_in}
use Rattle.boot_rules.proofs.HomeLemmas.{home-pair, pair-home}
use Rattle.boot_rules.proofs.PlaceLemmas.{slot-size}
use Rattle.boot_rules.proofs.TableLemmas.{found-in, found-sound}
use Rattle.law_targets.specs.HomeRules.{IsInBootPair, IsInKeptPair, MayBoot}
use Rattle.law_targets.specs.Pairs.{HasNoSecond, IsPart, IsSecondOf}
use Rattle.law_targets.specs.TargetRules.{flash_window, slot_size_in}
use Rattle.law_targets.proofs.PairLemmas.{part-is, part-there, part-within, second-words, words-second}

not-apart : (w : Window) → 4096 ≤ w.len → AreApart w w → ⊥
not-apart w some (inl before) = omega arith
not-apart w some (inr behind) = omega arith

-- partitions of a sound table
module _ (t : Table) (n : ℕ) (sound : IsSoundTable t n) where
  abbrev parts : List Partition
  parts = t.parts.items

  no-second : (i : ℕ) (p : Partition) → IsPart t i p → link_type p ≢ 1 → is_second (part_at parts i) ≡ false
  no-second i p at other =
      ap is_second (part-is t i p at) ∙ never_true (is_second p) (λ yes. other (eqb-true (link_type p) 1 yes))

  -- two partitions of one window are one
  one-window : (i j : ℕ) (p q : Partition) → IsPart t i p → IsPart t j q → part_window p ≡ part_window q → i ≡ j
  one-window i j p q one two same = elim (cases_eq i j) [
    | inl here ↦ here
    | inr other ↦
        (let i_lt = part-within t i p one in
        let apart : AreApart (partition_window t i) (partition_window t j) =
        partitions_apart t n sound i j i_lt (part-within t j q two) other in
        let here : partition_window t j ≡ partition_window t i =
        ap part_window (part-is t j q two) ∙ sym same ∙ sym (ap part_window (part-is t i p one)) in
        absurd (not-apart (partition_window t i) (sound_placed t n sound i i_lt).some
        (subst (AreApart (partition_window t i)) here apart)))
  ]

  -- a member of a pair is one of the unit of its A
  in-unit : (i j : ℕ) (p q : Partition) (w : Window) → IsPart t i p → IsSecondOf t i j q
      → (w ≡ part_window p) ⊎ (w ≡ part_window q) → IsMember (unit_of parts i) w
  in-unit i j p q w at pair (inl one) = inl (one ∙ sym (ap part_window (part-is t i p at)))
  in-unit i j p q w at pair (inr two) =
      inr (ap (option_map (λ k. part_window (part_at parts k))) (words-second t sound.links i j q pair)
      ∙ ap Some (ap part_window (part-is t j q pair.stands) ∙ sym two))

  unit-some : (i : ℕ) → i < length parts → (w : Window) → IsMember (unit_of parts i) w → 4096 ≤ w.len
  unit-some i lt w (inl one) =
      let some = (sound_placed t n sound i lt).some in subst (λ (x : Window). 4096 ≤ x.len) (sym one) some
  unit-some i lt w (inr two) =
      let found : (j : ℕ) × (pair_of parts i ≡ Some j) × (w ≡ part_window (part_at parts j)) =
      mapped_some (λ j. part_window (part_at parts j)) (pair_of parts i) w two in
      let second = second-words t i found.0 found.1 in
      let some = (sound_placed t n sound found.0 (part-within t found.0 (part_at parts found.0) second.stands)).some in
      subst (λ (x : Window). 4096 ≤ x.len) (sym found.2) some

  -- the window of a member of two pairs is that of one
  one-pair : (i j : ℕ) (w : Window) → i < length parts → j < length parts → is_second (part_at parts i) ≡ false
      → is_second (part_at parts j) ≡ false → IsMember (unit_of parts i) w → IsMember (unit_of parts j) w → i ≡ j
  one-pair i j w i_lt j_lt i_first j_first one two = elim (cases_eq i j) [
    | inl here ↦ here
    | inr other ↦ absurd (not-apart w (unit-some i i_lt w one)
        (units_apart t n sound i j i_lt j_lt i_first j_first other w w one two))
  ]

  -- the A of a boot pair is that of any pair whose member the window is
  pub same-first : (cpu : Cpu) (w : Window) → IsInBootPair t cpu w → (i j : ℕ) (p q : Partition) → IsPart t i p
      → link_type p ≢ 1 → IsSecondOf t i j q → (w ≡ part_window p) ⊎ (w ≡ part_window q)
      → MayBoot cpu p
  same-first cpu w boot_member i j p q at first pair member =
      let same : boot_member.number ≡ i =
      one-pair boot_member.number i w (part-within t boot_member.number boot_member.first boot_member.stands)
      (part-within t i p at)
      (no-second boot_member.number boot_member.first boot_member.stands boot_member.no_second) (no-second i p at first)
      (in-unit boot_member.number boot_member.other boot_member.first boot_member.second w boot_member.stands boot_member.pair boot_member.member)
      (in-unit i j p q w at pair member) in
      let part : boot_member.first ≡ p =
      same_Some boot_member.first p (sym boot_member.stands ∙ ap (slice_get parts) same ∙ at) in
      subst (MayBoot cpu) part boot_member.boots

  -- a window is in no pair of both kinds
  pub not-both : (cpu : Cpu) (w : Window) → IsInBootPair t cpu w → IsInKeptPair t cpu w → ⊥
  not-both cpu w boot_member kept =
      let same : boot_member.number ≡ kept.number =
      one-pair boot_member.number kept.number w (part-within t boot_member.number boot_member.first boot_member.stands)
      (part-within t kept.number kept.first kept.stands)
      (no-second boot_member.number boot_member.first boot_member.stands boot_member.no_second)
      (no-second kept.number kept.first kept.stands kept.no_second)
      (in-unit boot_member.number boot_member.other boot_member.first boot_member.second w boot_member.stands boot_member.pair boot_member.member)
      (in-unit kept.number kept.other kept.first kept.second w kept.stands kept.pair kept.member) in
      let part : boot_member.first ≡ kept.first =
      same_Some boot_member.first kept.first (sym boot_member.stands ∙ ap (slice_get parts) same ∙ kept.stands) in
      by part kept.kept
    where
      by : boot_member.first ≡ kept.first → (link_type kept.first ≡ 2) ⊎ (is_ignored cpu kept.first ≡ true) → ⊥
      by part (inl owned) = boot_member.boots.no_owner (ap link_type part ∙ owned)
      by part (inr ignored) =
          let yes : is_ignored cpu boot_member.first ≡ true = ap (is_ignored cpu) part ∙ ignored in
          let no : is_ignored cpu boot_member.first ≡ false = boot_member.boots.not_ignored in
          cc (yes, no)

  -- a partition that is alone is in no pair
  pub lone-not : (cpu : Cpu) (i : ℕ) (p : Partition) → IsPart t i p → link_type p ≢ 1 → HasNoSecond t i
      → IsInBootPair t cpu (part_window p) → ⊥
  lone-not cpu i p at other alone boot_member = by boot_member.member
    where
      by : (part_window p ≡ part_window boot_member.first) ⊎ (part_window p ≡ part_window boot_member.second) → ⊥
      by (inl one) =
          let same : i ≡ boot_member.number = one-window i boot_member.number p boot_member.first at boot_member.stands one in
          alone boot_member.other boot_member.second
          (subst (λ k. IsSecondOf t k boot_member.other boot_member.second) (sym same) boot_member.pair)
      by (inr two) =
          let same : i ≡ boot_member.other = one-window i boot_member.other p boot_member.second at boot_member.pair.stands two in
          let part : p ≡ boot_member.second =
          same_Some p boot_member.second (sym at ∙ ap (slice_get parts) same ∙ boot_member.pair.stands) in
          other (ap link_type part ∙ (boot_member.pair.says).0)

module _ (c : Content) (cpu : Cpu) (w : Window) where
  abbrev n : ℕ
  n = length c.flash

  abbrev z : ℕ
  z = slot_size_in c

  -- the boot members of a flash with a table
  module _ (found : Found) (is : table_in c ≡ Some found) where
    abbrev t : Table
    t = found.table

    listed : (k : ℕ) → slice_get (boot_units_in c cpu) k ≡ slice_get (units (Some t) n z cpu) k
    listed k = ap (λ (o : Option Found). slice_get (units (option_map (λ (f : Found). f.table) o) n z cpu) k) is

    abbrev sound : IsSoundTable t (n / 4096)
    sound = found-sound c found is

    pub home-words : IsBootMember c w cpu → IsInBootPair t cpu w
    home-words boot_member =
        let h = home-pair c w cpu boot_member in
        let b = boot_unit t n z cpu h.0 h.1 (sym (listed h.0) ∙ h.3) in
        let i : ℕ = b.0 in
        let unit = b.1 in
        let second : (j : ℕ) × (pair_of t.parts.items i ≡ Some j) × (h.2 ≡ part_window (part_at t.parts.items j)) =
        mapped_some (λ j. part_window (part_at t.parts.items j)) (pair_of t.parts.items i) h.2
        (sym (ap (λ (u : SlotUnit). u.b) unit.unit) ∙ h.4) in
        record {
          number = i;
          first = part_at t.parts.items i;
          stands = part-there t i unit.within;
          no_second = differ (link_type (part_at t.parts.items i)) 1 unit.first;
          boots = record {
            no_owner = differ (link_type (part_at t.parts.items i)) 2 unit.free;
            not_ignored = unit.kept;
          };
          other = second.0;
          second = part_at t.parts.items second.0;
          pair = second-words t i second.0 second.1;
          member = by i second.0 second.1 (subst (λ u. IsMember u w) unit.unit h.5);
        }
      where
        by : (i j : ℕ) → pair_of t.parts.items i ≡ Some j → IsMember (unit_of t.parts.items i) w
            → (w ≡ part_window (part_at t.parts.items i)) ⊎ (w ≡ part_window (part_at t.parts.items j))
        by i j pair (inl one) = inl one
        by i j pair (inr two) =
            inr (sym (same_Some (part_window (part_at t.parts.items j)) w
            (sym (ap (option_map (λ k. part_window (part_at t.parts.items k))) pair) ∙ two)))

    pub words-home : IsInBootPair t cpu w → IsBootMember c w cpu
    words-home pair =
        let i : ℕ = pair.number in
        let same = part-is t i pair.first pair.stands in
        let first = no-second t (n / 4096) sound i pair.first pair.stands pair.no_second in
        let free : is_owned (part_at t.parts.items i) ≡ false =
        ap is_owned same
        ∙ never_true (is_owned pair.first) (λ yes. pair.boots.no_owner (eqb-true (link_type pair.first) 2 yes)) in
        let at = unit_at t n z cpu i (part-within t i pair.first pair.stands) first free
        (ap (is_ignored cpu) same ∙ pair.boots.not_ignored) in
        let two : (unit_of t.parts.items i).b ≡ Some (part_window (part_at t.parts.items pair.other)) =
        ap (option_map (λ k. part_window (part_at t.parts.items k)))
        (words-second t sound.links i pair.other pair.second pair.pair) in
        pair-home c w cpu at.0 (unit_of t.parts.items i) (part_window (part_at t.parts.items pair.other))
        (listed at.0 ∙ at.1) two
        (in-unit t (n / 4096) sound i pair.other pair.first pair.second w pair.stands pair.pair pair.member)

    -- with a table a boot member lies behind the first sector
    pub home-behind : IsContent c → IsBootMember c w cpu → 4096 ≤ w.start
    home-behind right boot_member =
        let h = home-pair c w cpu boot_member in
        let placed = boot_members_placed t (n / 4096) (2 * z / 4096) n z cpu (found-in c found is).1 h.0 h.1
        (sym (listed h.0) ∙ h.3) w h.5 in
        let free = placed.free in
        let least = (slot-size c.otp n right.flash_length.least).least in
        omega (arith, free, least)

  -- without one
  module _ (none : table_in c ≡ None) where
    listed-none : (k : ℕ) → slice_get (boot_units_in c cpu) k ≡ slice_get (units None n z cpu) k
    listed-none k = ap (λ (o : Option Found). slice_get (units (option_map (λ (f : Found). f.table) o) n z cpu) k) none

    only : (v u : SlotUnit) (k : ℕ) → units None n z cpu ≡ v ∷ [] → slice_get (units None n z cpu) k ≡ Some u → v ≡ u
    only v u zero is at = same_Some v u (sym (ap (λ us. slice_get us 0) is) ∙ at)
    only v u (suc k) is at = let no : None ≡ Some u = sym (ap (λ us. slice_get us (suc k)) is) ∙ at in cc

    slots-by : (large : Bool) (u : SlotUnit) (second : Window)
        → (if large then slot_pair z else whole_flash n) ≡ u → u.b ≡ Some second → IsMember u w
        → (large ≡ true) × ((w ≡ record { start = 0; len = z }) ⊎ (w ≡ record { start = z; len = z }))
    slots-by true u second is pair member = (refl, by (subst (λ v. IsMember v w) (sym is) member))
      where
        by : IsMember (slot_pair z) w → (w ≡ record { start = 0; len = z }) ⊎ (w ≡ record { start = z; len = z })
        by (inl one) = inl one
        by (inr two) = inr (sym (same_Some (record { start = z; len = z }) w two))
    slots-by false u second is pair member =
        let no : None ≡ Some second = ap (λ (v : SlotUnit). v.b) is ∙ pair in cc

    pub home-slots : IsBootMember c w cpu
        → (4096 < z) × ((w ≡ record { start = 0; len = z }) ⊎ (w ≡ record { start = z; len = z }))
    home-slots boot_member =
        let h = home-pair c w cpu boot_member in
        let is = slots-by (nat_lt 4096 z) h.1 h.2 (only (tableless_unit n z) h.1 h.0 refl (sym (listed-none h.0) ∙ h.3))
        h.4 h.5 in
        (ltb-true 4096 z is.0, is.1)

    pub slots-home : 4096 < z → (w ≡ record { start = 0; len = z }) ⊎ (w ≡ record { start = z; len = z })
        → IsBootMember c w cpu
    slots-home large member =
        let unit : tableless_unit n z ≡ slot_pair z =
        ap (λ b. if b then slot_pair z else whole_flash n) (lt-ltb 4096 z large) in
        pair-home c w cpu 0 (slot_pair z) (record { start = z; len = z })
        (listed-none 0 ∙ ap Some unit) refl (by member)
      where
        by : (w ≡ record { start = 0; len = z }) ⊎ (w ≡ record { start = z; len = z }) → IsMember (slot_pair z) w
        by (inl one) = inl one
        by (inr two) = inr (ap Some (sym two))

-- the whole flash is no boot member
pub whole-not : (c : Content) (cpu : Cpu) → IsContent c → IsBootMember c (flash_window c) cpu → ⊥
whole-not c cpu right boot_member = by (table_in c) refl
  where
    by : (o : Option Found) → table_in c ≡ o → ⊥
    by (Some found) is =
        let behind : 4096 ≤ 0 = home-behind c cpu (flash_window c) found is right boot_member in omega (arith, behind)
    by None none =
        let slots = home-slots c cpu (flash_window c) none boot_member in
        let size = slot-size c.otp (length c.flash) right.flash_length.least in
        in-slots slots.0 size.fits slots.1
      where
        in-slots : 4096 < slot_size_in c → 2 * slot_size_in c ≤ length c.flash
            → (flash_window c ≡ record { start = 0; len = slot_size_in c })
            ⊎ (flash_window c ≡ record { start = slot_size_in c; len = slot_size_in c }) → ⊥
        in-slots large fits (inl one) =
            let long : length c.flash ≡ slot_size_in c = ap (λ (x : Window). x.len) one in
            omega (arith, large, fits, long)
        in-slots large fits (inr two) =
            let long : length c.flash ≡ slot_size_in c = ap (λ (x : Window). x.len) two in
            omega (arith, large, fits, long)
