-- A target is that of the rules' words, and one at most meets them.
use Rattle.std.proofs.Common.{◌≡◌, ◌≢◌, ◌⊎◌, ◌↔◌, ℕ, ◌<◌, ◌/◌, ◌==◌, ◌&&◌, Bool, true, false, List, length, Option, Some, None, refl, sym, ap, ◌∙◌, subst, inl, inr}
use Rattle.std.specs.Prelude.{if◌then◌else◌, nat_le, nat_lt, option_map}
use Rattle.std.specs.Int.{bit_at}
use Rattle.std.specs.Option.{option_map_or}
use Rattle.std.proofs.lemmas.Bool.{eq-eqb, eqb-true, ltb-false, ltb-true}
use Rattle.std.proofs.lemmas.Option.{same_Some}
use Rattle.pico_board.specs.declared.boot.Cpu.{Cpu}
use Rattle.pico_board.specs.declared.window.Window.{Window}
use Rattle.pico_board.specs.Content.{Content}
use Rattle.part_table.specs.declared.partition.Partition.{Partition}
use Rattle.part_table.specs.declared.table.Table.{Table}
use Rattle.part_table.specs.declared.target.Target.{Target}
use Rattle.part_table.specs.Families.{absolute_family, accepts_absolute, arm_ns_family, data_family}
use Rattle.part_table.specs.Fields.{is_staying, link_type, link_value}
use Rattle.part_table.specs.Links.{is_owned, owner_of, pair_of}
use Rattle.part_table.specs.Partitions.{part_at}
use Rattle.part_table.specs.Sound.{IsSoundTable}
use Rattle.part_table.specs.Windows.{part_window}
use Rattle.part_table.proofs.LinkLemmas.{right_owner_of}
use Rattle.part_table.proofs.TestLemmas.{differ, mapped_some, some_if}
use Rattle.slot_choice.specs.declared.unit.Member.{Member}
use Rattle.slot_choice.specs.declared.unit.Member.TheVariants.{A, B}
use Rattle.slot_choice.specs.declared.unit.SlotUnit.{SlotUnit}
use Rattle.slot_choice.specs.LoadUnits.{absolute_unit, family_unit, load_unit}
use Rattle.slot_choice.specs.Units.{IsSoundFor, slot_pair, tableless_unit, unit_of, whole_flash}
use Rattle.boot_rules.specs.Picking.{taken_member}
use Rattle.boot_rules.specs.Targets.{deciding_unit, is_executable, member_for, pair_target, is_staying_target, target_of, unit_target}
use Rattle.law_targets.specs.Loads.{AcceptsAbsolute, IsExecutable, IsLoadPart, IsSlotFamily}
use Rattle.law_targets.specs.Taking.{TakesFirst}
use Rattle.law_targets.specs.TargetRules.{FollowsOwner, IsAbsoluteTarget, IsLoneTarget, IsPairTarget, IsPartTarget, IsSlotTarget, IsTablelessTarget, IsTarget, IsUnitTarget, IsWholeFlash, StaysBy, WouldTakeFirst, WritesMember, WritesOther, partition_of_member, slot_size_in}
use Rattle.law_targets.proofs.LoadLemmas.{accepting-words}
use Rattle.law_targets.proofs.PairLemmas.{none-words, part-within, second-words, unit-windows, windows-unit}
use Rattle.law_targets.proofs.TakenLemmas.{member-words, words-member, writes-other}
use Rattle.law_targets.proofs.WordLemmas.{executable-words, slot-words, words-executable}

stay-words : (p : Partition) → (is_staying p ≡ true) ↔ (bit_at p.flags 13 ≡ 1)
stay-words p = (eqb-true (bit_at p.flags 13) 1, eq-eqb (bit_at p.flags 13) 1)

gated-words : (family : ℕ) → (is_executable family ≡ true) ↔ IsExecutable family
gated-words family = (executable-words family, words-executable family)

stays-none : (t : Option Table) → is_staying_target t None ≡ false
stays-none None = refl
stays-none (Some p) = refl

-- a flash without a table
module _ (c : Content) (cpu : Cpu) (family : ℕ) (slots : IsSlotFamily family) where
  abbrev first : Window
  first = record { start = 0; len = slot_size_in c }

  abbrev second : Window
  second = record { start = slot_size_in c; len = slot_size_in c }

  slot-target : 4096 < slot_size_in c → (m : Member) → WritesOther c cpu first second m
      → IsSlotTarget c cpu family (pair_target None family (slot_pair (slot_size_in c)) second m)
  slot-target large A written = record {
    large = large;
    member = A;
    written = written;
    window = refl;
    gated = gated-words family;
    stays = refl;
  }
  slot-target large B written = record {
    large = large;
    member = B;
    written = written;
    window = refl;
    gated = gated-words family;
    stays = refl;
  }

  tableless-by : (large : Bool) → nat_lt 4096 (slot_size_in c) ≡ large → (u : SlotUnit)
      → u ≡ (if large then slot_pair (slot_size_in c) else whole_flash (length c.flash))
      → IsTablelessTarget c cpu family (unit_target c None cpu family u u.b)
  tableless-by true large u is =
      subst (λ (v : SlotUnit). IsTablelessTarget c cpu family (unit_target c None cpu family v v.b)) (sym is)
      (record {
        taken = slots;
        placed = inl (slot-target (ltb-true 4096 (slot_size_in c) large)
            (member_for (taken_member c cpu (slot_pair (slot_size_in c))))
            (writes-other c cpu (slot_pair (slot_size_in c)) second refl));
      })
  tableless-by false small u is =
      subst (λ (v : SlotUnit). IsTablelessTarget c cpu family (unit_target c None cpu family v v.b)) (sym is)
      (record {
        taken = slots;
        placed = inr (record {
          small = ltb-false 4096 (slot_size_in c) small;
          whole = record { window = refl; gated = refl; stays = refl };
        });
      })

-- a partition of a table
module _ (c : Content) (t : Table) (cpu : Cpu) (sound : IsSoundTable t (length c.flash / 4096)) where
  abbrev parts : List Partition
  parts = t.parts.items

  would-first : (i : ℕ) → WouldTakeFirst c t cpu i → taken_member c cpu (unit_of parts i) ≡ Some A
  would-first i would =
      let is = windows-unit t sound.links i would.one would.two would.windows in
      let first : TakesFirst c cpu (unit_of parts i).a would.two =
      subst (λ w. TakesFirst c cpu w would.two) (sym is.0) would.takes in
      words-member c cpu (unit_of parts i) A
      (subst (TakesFirst c cpu (unit_of parts i).a) (sym is.1) first)

  follows-owner : (i : ℕ) → i < length parts
      → FollowsOwner c t cpu i (member_for (taken_member c cpu (unit_of parts i)))
  follows-owner i lt = by (taken_member c cpu (unit_of parts i)) refl
    where
      by : (o : Option Member) → taken_member c cpu (unit_of parts i) ≡ o → FollowsOwner c t cpu i (member_for o)
      by None e = λ would. let both : None ≡ Some A = sym e ∙ would-first i would in cc
      by (Some A) e = record {
        one = (unit_of parts i).a;
        two = (unit_of parts i).b;
        windows = unit-windows t sound.links i lt;
        takes = member-words c cpu (unit_of parts i) A e;
      }
      by (Some B) e = λ would. let both : Some B ≡ Some A = sym e ∙ would-first i would in cc

  module _ (family i : ℕ) (lt : i < length parts) where
    abbrev p : Partition
    p = part_at parts i

    abbrev u : SlotUnit
    u = unit_of parts i

    owned-by : (yes : Bool) → is_owned p ≡ yes → (j : ℕ) → pair_of parts i ≡ Some j
        → WritesMember c t cpu p (part_at parts j) (member_for (taken_member c cpu (deciding_unit (Some t) u)))
    owned-by true owned j pair =
        let owner : owner_of p ≡ Some (link_value p) =
        ap (λ b. if b then Some (link_value p) else None) owned in
        let there = right_owner_of parts sound.links i (link_value p) lt owner in
        let decides : deciding_unit (Some t) u ≡ unit_of parts (link_value p) =
        ap (λ o. option_map_or (unit_of parts) o u) owner in
        inl (
          link_value p,
          (eqb-true (link_type p) 2 owned, refl),
          subst (λ (v : SlotUnit). FollowsOwner c t cpu (link_value p) (member_for (taken_member c cpu v)))
              (sym decides) (follows-owner (link_value p) there.0),
        )
    owned-by false free j pair =
        let owner : owner_of p ≡ None = ap (λ b. if b then Some (link_value p) else None) free in
        let decides : deciding_unit (Some t) u ≡ u = ap (λ o. option_map_or (unit_of parts) o u) owner in
        let two : u.b ≡ Some (part_window (part_at parts j)) =
        ap (option_map (λ k. part_window (part_at parts k))) pair in
        inr (
          differ (link_type p) 2 free,
          subst (λ (v : SlotUnit). WritesOther c cpu (part_window p) (part_window (part_at parts j))
              (member_for (taken_member c cpu v)))
              (sym decides) (writes-other c cpu u (part_window (part_at parts j)) two),
        )

    pair-window : (j : ℕ) (m : Member)
        → (pair_target (Some t) family u (part_window (part_at parts j)) m).window
        ≡ part_window (partition_of_member m p (part_at parts j))
    pair-window j A = refl
    pair-window j B = refl

    pair-stays : (j : ℕ) → pair_of parts i ≡ Some j → (m : Member)
        → StaysBy (partition_of_member m p (part_at parts j))
        (pair_target (Some t) family u (part_window (part_at parts j)) m)
    pair-stays j pair A = stay-words p
    pair-stays j pair B =
        subst (λ (b : Bool). (b ≡ true) ↔ (bit_at (part_at parts j).flags 13 ≡ 1))
        (sym (ap (is_staying_target (Some t)) pair)) (stay-words (part_at parts j))

    pair-gated : (w : Window) (m : Member) → (pair_target (Some t) family u w m).gated ≡ is_executable family
    pair-gated w A = refl
    pair-gated w B = refl

    pair-target : (j : ℕ) → pair_of parts i ≡ Some j
        → IsPairTarget c t cpu family i p
        (unit_target c (Some t) cpu family u (Some (part_window (part_at parts j))))
    pair-target j pair =
        let m : Member = member_for (taken_member c cpu (deciding_unit (Some t) u)) in
        record {
          number = j;
          second = part_at parts j;
          pair = second-words t i j pair;
          member = m;
          written = owned-by (is_owned p) refl j pair;
          window = pair-window j m;
          stays = pair-stays j pair m;
          gated = subst (λ (b : Bool). (b ≡ true) ↔ IsExecutable family)
              (sym (pair-gated (part_window (part_at parts j)) m)) (gated-words family);
        }

    placed-by : (o : Option ℕ) → pair_of parts i ≡ o
        → IsLoneTarget t i p (unit_target c (Some t) cpu family u
        (option_map (λ j. part_window (part_at parts j)) o))
        ⊎ IsPairTarget c t cpu family i p (unit_target c (Some t) cpu family u
        (option_map (λ j. part_window (part_at parts j)) o))
    placed-by None alone = inl (record {
      lone = none-words t sound.links i alone;
      window = refl;
      stays = stay-words p;
      gated = refl;
    })
    placed-by (Some j) pair = inr (pair-target j pair)

    pub part-target : family ≢ absolute_family → IsLoadPart t family i p
        → IsPartTarget c t cpu family (unit_target c (Some t) cpu family u u.b)
    part-target other load = record {
      other = other;
      number = i;
      first = p;
      load = load;
      placed = placed-by (pair_of parts i) refl;
    }

-- what the function answers meets the words
module _ (c : Content) (cpu : Cpu) (family : ℕ) where
  abbrev n : ℕ
  n = length c.flash

  abbrev z : ℕ
  z = slot_size_in c

  abbrev target-in : Option Table → SlotUnit → Target
  target-in t u = unit_target c t cpu family u u.b

  whole-target : (t : Option Table) → IsWholeFlash c (target-in t (whole_flash n))
  whole-target t = record { window = refl; gated = refl; stays = stays-none t }

  accepts-absolute : (t : Option Table) → option_map_or accepts_absolute t true ≡ true → AcceptsAbsolute t
  accepts-absolute None e table is = cc
  accepts-absolute (Some p) e table is =
      let same : p ≡ table = same_Some p table is in
      eqb-true (bit_at table.unpartitioned 15) 1 (subst (λ (x : Table). accepts_absolute x ≡ true) same e)

  absolute-target : (t : Option Table) (u : SlotUnit) → family ≡ absolute_family → absolute_unit t n ≡ Some u
      → IsAbsoluteTarget c t family (target-in t u)
  absolute-target t u same e =
      let found = some_if (option_map_or accepts_absolute t true) (whole_flash n) u e in
      record {
        absolute = same;
        accepts = accepts-absolute t found.0;
        whole = subst (λ (v : SlotUnit). IsWholeFlash c (target-in t v)) found.1 (whole-target t);
      }

  other-target : (t : Option Table) → IsSoundFor t n → (u : SlotUnit) → family ≢ absolute_family
      → family_unit t n z family ≡ Some u → IsUnitTarget c t cpu family (target-in t u)
  other-target None sound u other e =
      let found = some_if (nat_le data_family family && nat_le family arm_ns_family) (tableless_unit n z) u e in
      tableless-by c cpu family (slot-words family found.0) (nat_lt 4096 z) refl u (sym found.1)
  other-target (Some t) sound u other e =
      let found = accepting-words t family u e in
      subst (λ (v : SlotUnit). IsPartTarget c t cpu family (target-in (Some t) v)) (sym found.2)
      (part-target c t cpu sound family found.0 (part-within t found.0 (part_at t.parts.items found.0) found.1.stands)
      other found.1)

  unit-words : (t : Option Table) → IsSoundFor t n → (u : SlotUnit) → load_unit t n z family ≡ Some u
      → IsTarget c t cpu family (target-in t u)
  unit-words t sound u e = by (family == absolute_family) refl e
    where
      by : (yes : Bool) → (family == absolute_family) ≡ yes
          → (if yes then absolute_unit t n else family_unit t n z family) ≡ Some u
          → IsTarget c t cpu family (target-in t u)
      by true same h = inl (absolute-target t u (eqb-true family absolute_family same) h)
      by false other h = inr (other-target t sound u (differ family absolute_family other) h)

  pub target-words : (t : Option Table) → IsSoundFor t n → (target : Target) → target_of c t cpu family ≡ Some target
      → IsTarget c t cpu family target
  target-words t sound target e =
      let found = mapped_some (target-in t) (load_unit t n z family) target e in
      subst (IsTarget c t cpu family) (sym found.2) (unit-words t sound found.0 found.1)
