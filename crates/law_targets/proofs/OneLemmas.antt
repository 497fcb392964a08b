-- One target at most meets the rules' words, and where one does the function answers it.
use Rattle.std.proofs.Common.{◌≡◌, ◌≢◌, ◌⊎◌, ◌↔◌, ℕ, ◌/◌, ◌==◌, Bool, true, false, length, Option, Some, None, arith, refl, sym, ap, ◌∙◌, subst, inl, inr}
use Rattle.std.specs.Prelude.{if◌then◌else◌, option_map}
use Rattle.std.specs.Int.{bit_at}
use Rattle.std.specs.Option.{option_map_or}
use Rattle.std.proofs.lemmas.Bool.{eq-eqb, eqb-true}
use Rattle.pico_board.specs.declared.boot.Cpu.{Cpu}
use Rattle.pico_board.specs.declared.window.Window.{Window}
use Rattle.pico_board.specs.Content.{Content}
use Rattle.part_table.specs.declared.partition.Partition.{Partition}
use Rattle.part_table.specs.declared.table.Table.{Table}
use Rattle.part_table.specs.declared.target.Target.{Target}
use Rattle.part_table.specs.Families.{absolute_family, accepts_absolute}
use Rattle.part_table.specs.Sound.{IsSoundTable}
use Rattle.part_table.specs.Windows.{part_window}
use Rattle.part_table.proofs.TestLemmas.{never_true}
use Rattle.slot_choice.specs.declared.unit.Member.{Member}
use Rattle.slot_choice.specs.declared.unit.Member.TheVariants.{A, B}
use Rattle.slot_choice.specs.declared.unit.SlotUnit.{SlotUnit}
use Rattle.slot_choice.specs.LoadUnits.{absolute_unit, family_unit, load_unit}
use Rattle.slot_choice.specs.Units.{IsSoundFor, tableless_unit, unit_of, whole_flash}
use Rattle.boot_rules.specs.Targets.{target_of, unit_target}
use Rattle.law_targets.specs.Loads.{AcceptsAbsolute}
use Rattle.law_targets.specs.TargetRules.{FollowsOwner, IsLoneTarget, IsPairTarget, IsPartTarget, IsSlotTarget, IsSmallTarget, IsTablelessTarget, IsTarget, IsUnitTarget, IsWholeFlash, StaysBy, WritesMember, partition_of_member, slot_size_in, window_of_member}
use Rattle.law_targets.proofs.LoadLemmas.{one-load, one-part, words-accepting}
use Rattle.law_targets.proofs.PairLemmas.{one-second}
use Rattle.law_targets.proofs.TakenLemmas.{one-written}
use Rattle.law_targets.proofs.TargetLemmas.{target-words}
use Rattle.law_targets.proofs.WordLemmas.{slot-not_absolute, words-slot}

-- equal fields, equal targets
same-target : (x y : Target) → x.window ≡ y.window → x.gated ≡ y.gated → x.stay ≡ y.stay → x ≡ y
same-target x y window gated stay = λ t. record { window = window t; gated = gated t; stay = stay t }

same-flag : (P : Type 0) (a b : Bool) → (a ≡ true) ↔ P → (b ≡ true) ↔ P → a ≡ b
same-flag P true true x y = refl
same-flag P false false x y = refl
same-flag P true false x y = let no : false ≡ true = y.1 (x.0 refl) in cc
same-flag P false true x y = let no : false ≡ true = x.1 (y.0 refl) in cc

one-whole : (c : Content) (x y : Target) → IsWholeFlash c x → IsWholeFlash c y → x ≡ y
one-whole c x y a b =
    same-target x y (a.window ∙ sym b.window) (a.gated ∙ sym b.gated) (a.stays ∙ sym b.stays)

same-stay : (p : Partition) (x y : Target) → StaysBy p x → StaysBy p y → x.stay ≡ y.stay
same-stay p x y a b = same-flag (bit_at p.flags 13 ≡ 1) x.stay y.stay a b

-- a flash without a table
module _ (c : Content) (cpu : Cpu) (family : ℕ) (x y : Target) where
  one-slot : IsSlotTarget c cpu family x → IsSlotTarget c cpu family y → x ≡ y
  one-slot a b =
      let first : Window = record { start = 0; len = slot_size_in c } in
      let second : Window = record { start = slot_size_in c; len = slot_size_in c } in
      let same : a.member ≡ b.member = one-written c cpu first second a.member b.member a.written b.written in
      same-target x y
      (a.window ∙ ap (λ (m : Member). window_of_member m first second) same ∙ sym b.window)
      (same-flag _ x.gated y.gated a.gated b.gated)
      (a.stays ∙ sym b.stays)

  one-tableless : IsTablelessTarget c cpu family x → IsTablelessTarget c cpu family y → x ≡ y
  one-tableless a b = by a.placed b.placed
    where
      by : IsSlotTarget c cpu family x ⊎ IsSmallTarget c x → IsSlotTarget c cpu family y ⊎ IsSmallTarget c y → x ≡ y
      by (inl s) (inl t) = one-slot s t
      by (inl s) (inr t) = absurd (omega (arith, s.large, t.small))
      by (inr s) (inl t) = absurd (omega (arith, s.small, t.large))
      by (inr s) (inr t) = one-whole c x y s.whole t.whole

-- a partition of a table
module _ (c : Content) (t : Table) (cpu : Cpu) (family : ℕ) (sound : IsSoundTable t (length c.flash / 4096)) where
  one-follows : (i : ℕ) (m n : Member) → FollowsOwner c t cpu i m → FollowsOwner c t cpu i n → m ≡ n
  one-follows i A A x y = refl
  one-follows i B B x y = refl
  one-follows i A B x y = absurd (x y)
  one-follows i B A x y = absurd (y x)

  one-member : (p q : Partition) (m n : Member) → WritesMember c t cpu p q m → WritesMember c t cpu p q n → m ≡ n
  one-member p q m n (inl a) (inl b) =
      one-follows a.0 m n a.2 (subst (λ i. FollowsOwner c t cpu i n) (sym (b.1).1 ∙ (a.1).1) b.2)
  one-member p q m n (inr a) (inr b) = one-written c cpu _ _ m n a.1 b.1
  one-member p q m n (inl a) (inr b) = absurd (b.0 (a.1).0)
  one-member p q m n (inr a) (inl b) = absurd (a.0 (b.1).0)

  one-pair : (i : ℕ) (p : Partition) (x y : Target) → IsPairTarget c t cpu family i p x
      → IsPairTarget c t cpu family i p y → x ≡ y
  one-pair i p x y a b =
      let second : a.second ≡ b.second =
      one-second t sound.links i a.number b.number a.second b.second a.pair b.pair in
      let member : a.member ≡ b.member =
      one-member p b.second a.member b.member
      (subst (λ q. WritesMember c t cpu p q a.member) second a.written) b.written in
      let part : partition_of_member a.member p a.second ≡ partition_of_member b.member p b.second =
      ap (partition_of_member a.member p) second ∙ ap (λ (m : Member). partition_of_member m p b.second) member in
      same-target x y (a.window ∙ ap part_window part ∙ sym b.window)
      (same-flag _ x.gated y.gated a.gated b.gated)
      (same-stay (partition_of_member b.member p b.second) x y (subst (λ q. StaysBy q x) part a.stays) b.stays)

  one-placed : (i : ℕ) (p : Partition) (x y : Target) → IsLoneTarget t i p x ⊎ IsPairTarget c t cpu family i p x
      → IsLoneTarget t i p y ⊎ IsPairTarget c t cpu family i p y → x ≡ y
  one-placed i p x y (inl a) (inl b) =
      same-target x y (a.window ∙ sym b.window) (a.gated ∙ sym b.gated) (same-stay p x y a.stays b.stays)
  one-placed i p x y (inr a) (inr b) = one-pair i p x y a b
  one-placed i p x y (inl a) (inr b) = absurd (a.lone b.number b.second b.pair)
  one-placed i p x y (inr a) (inl b) = absurd (b.lone a.number a.second a.pair)

  one-part_target : (x y : Target) → IsPartTarget c t cpu family x → IsPartTarget c t cpu family y → x ≡ y
  one-part_target x y a b =
      let number : a.number ≡ b.number = one-load t family a.number b.number a.first b.first a.load b.load in
      let part : a.first ≡ b.first = one-part t family a.number b.number a.first b.first a.load b.load in
      one-placed b.number b.first x y
      (subst (λ i. IsLoneTarget t i b.first x ⊎ IsPairTarget c t cpu family i b.first x) number
      (subst (λ p. IsLoneTarget t a.number p x ⊎ IsPairTarget c t cpu family a.number p x) part a.placed)) b.placed

module _ (c : Content) (cpu : Cpu) (family : ℕ) where
  abbrev n : ℕ
  n = length c.flash

  abbrev z : ℕ
  z = slot_size_in c

  one-unit : (t : Option Table) → IsSoundFor t n → (x y : Target) → IsUnitTarget c t cpu family x
      → IsUnitTarget c t cpu family y → x ≡ y
  one-unit None sound x y a b = one-tableless c cpu family x y a b
  one-unit (Some t) sound x y a b = one-part_target c t cpu family sound x y a b

  not-absolute : (t : Option Table) (x : Target) → IsUnitTarget c t cpu family x → family ≢ absolute_family
  not-absolute None x a = slot-not_absolute family a.taken
  not-absolute (Some t) x a = a.other

  pub one-target : (t : Option Table) → IsSoundFor t n → (x y : Target) → IsTarget c t cpu family x
      → IsTarget c t cpu family y → x ≡ y
  one-target t sound x y (inl a) (inl b) = one-whole c x y a.whole b.whole
  one-target t sound x y (inr a) (inr b) = one-unit t sound x y a b
  one-target t sound x y (inl a) (inr b) = absurd (not-absolute t y b a.absolute)
  one-target t sound x y (inr a) (inl b) = absurd (not-absolute t x a b.absolute)

  -- where a target meets the words there is a unit
  absolute-open : (t : Option Table) → AcceptsAbsolute t → option_map_or accepts_absolute t true ≡ true
  absolute-open None all = refl
  absolute-open (Some p) all = eq-eqb (bit_at p.unpartitioned 15) 1 (all p refl)

  other-unit : (t : Option Table) (x : Target) → IsUnitTarget c t cpu family x
      → (u : SlotUnit) × (family_unit t n z family ≡ Some u)
  other-unit None x a = (
    tableless_unit n z,
    ap (λ (b : Bool). if b then Some (tableless_unit n z) else None) (words-slot family a.taken),
  )
  other-unit (Some t) x a = (unit_of t.parts.items a.number, words-accepting t family a.number a.first a.load)

  unit-there : (t : Option Table) (x : Target) → IsTarget c t cpu family x
      → (u : SlotUnit) × (load_unit t n z family ≡ Some u)
  unit-there t x (inl a) = (
    whole_flash n,
    ap (λ (b : Bool). if b then absolute_unit t n else family_unit t n z family)
        (eq-eqb family absolute_family a.absolute)
        ∙ ap (λ (b : Bool). if b then Some (whole_flash n) else None) (absolute-open t a.accepts),
  )
  unit-there t x (inr a) =
      let found = other-unit t x a in
      let other : (family == absolute_family) ≡ false =
      never_true (family == absolute_family) (λ yes. not-absolute t x a (eqb-true family absolute_family yes)) in
      (found.0, ap (λ (b : Bool). if b then absolute_unit t n else family_unit t n z family) other ∙ found.1)

  pub words-target : (t : Option Table) → IsSoundFor t n → (x : Target) → IsTarget c t cpu family x
      → target_of c t cpu family ≡ Some x
  words-target t sound x is =
      let found = unit-there t x is in
      let u : SlotUnit = found.0 in
      let answer : target_of c t cpu family ≡ Some (unit_target c t cpu family u u.b) =
      ap (option_map (λ (v : SlotUnit). unit_target c t cpu family v v.b)) found.1 in
      answer ∙ ap Some (one-target t sound (unit_target c t cpu family u u.b) x
      (target-words c cpu family t sound (unit_target c t cpu family u u.b) answer) is)

  pub no-target-words : (t : Option Table) → IsSoundFor t n
      → (target_of c t cpu family ≡ None) ↔ ((x : Target) → IsTarget c t cpu family x → ⊥)
  no-target-words t sound = (
    λ none x is. (let both : None ≡ Some x = sym none ∙ words-target t sound x is in cc),
    λ never. by never (target_of c t cpu family) refl,
  )
    where
      by : ((x : Target) → IsTarget c t cpu family x → ⊥) → (o : Option Target) → target_of c t cpu family ≡ o
          → target_of c t cpu family ≡ None
      by never None e = e
      by never (Some x) e = absurd (never x (target-words c cpu family t sound x e))
