-- The words on families and on versions say what their tests say.
use Rattle.std.proofs.Common.{◌≡◌, ◌⊎◌, ℕ, suc, ◌+◌, ◌-◌, ◌<◌, ◌≤◌, ◌&&◌, ◌||◌, ◌==◌, Bool, true, false, not, List, [], ◌∷◌, Contains, arith, refl, sym, ap, ◌∙◌, inl, inr}
use Rattle.std.specs.Prelude.{nat_le, nat_lt}
use Rattle.std.specs.Int.{bit_at}
use Rattle.std.specs.List.{list_any}
use Rattle.std.proofs.lemmas.Bool.{cases_eq, cases_lt, eq-eqb, eqb-true, le-leb, leb-true}
use Rattle.std.proofs.lemmas.Bool.Decides.{nat_tests}
use Rattle.std.proofs.lemmas.List.Folds.{list_any_at}
use Rattle.block_codec.specs.declared.versions.Version.{Version}
use Rattle.part_table.specs.declared.partition.Partition.{Partition}
use Rattle.part_table.specs.declared.table.Table.{Table}
use Rattle.part_table.specs.Families.{absolute_family, accepts, arm_ns_family, arm_s_family, data_family, has_family_bit, riscv_family, rp2040_family}
use Rattle.part_table.specs.Fields.{has_bit}
use Rattle.part_table.proofs.TestLemmas.{all_of_three}
use Rattle.slot_choice.specs.Versions.{is_below}
use Rattle.boot_rules.specs.Tables.{is_first_taken}
use Rattle.boot_rules.specs.Targets.{is_executable}
use Rattle.law_targets.specs.Loads.{Accepts, HasFamilyBit, IsExecutable, IsSlotFamily}
use Rattle.law_targets.specs.Taking.{IsLower}

-- versions
lower-of : (a b x y : ℕ) → (nat_lt a b || (a == b && nat_lt x y)) ≡ true → (a < b) ⊎ ((a ≡ b) × (x < y))
lower-of a b x y e =
    elim (cases_lt a b) [
      | inl lt ↦ inl lt
      | inr ge ↦
          let same : a ≡ b = grind (arith, nat_tests, ge, e) in
          let less : x < y = grind (arith, nat_tests, ge, e) in
          inr (same, less)
    ]

of-lower : (a b x y : ℕ) → (a < b) ⊎ ((a ≡ b) × (x < y)) → (nat_lt a b || (a == b && nat_lt x y)) ≡ true
of-lower a b x y (inl lt) = grind (arith, nat_tests, lt)
of-lower a b x y (inr both) = let same = both.0 in let less = both.1 in grind (arith, nat_tests, same, less)

pub below-lower : (v w : Version) → is_below v w ≡ true → IsLower v w
below-lower v w e = lower-of v.major w.major v.minor w.minor e

pub lower-below : (v w : Version) → IsLower v w → is_below v w ≡ true
lower-below v w lower = of-lower v.major w.major v.minor w.minor lower

-- tables
pub taken-words : (t u : Table) → is_first_taken t u ≡ true
    → (t.singleton ≡ true) ⊎ (IsLower t.version u.version → ⊥)
taken-words t u e = go t.singleton (is_below t.version u.version) refl refl e
  where
    go : (one lower : Bool) → t.singleton ≡ one → is_below t.version u.version ≡ lower → (one || not lower) ≡ true
        → (t.singleton ≡ true) ⊎ (IsLower t.version u.version → ⊥)
    go true lower singleton is taken = inl singleton
    go false false singleton is taken =
        inr (λ less. let no_ : true ≡ false = sym (lower-below t.version u.version less) ∙ is in cc)
    go false true singleton is taken = cc

pub words-taken : (t u : Table) → (t.singleton ≡ true) ⊎ (IsLower t.version u.version → ⊥)
    → is_first_taken t u ≡ true
words-taken t u (inl singleton) = ap (λ b. b || not (is_below t.version u.version)) singleton
words-taken t u (inr never) = go t.singleton (is_below t.version u.version) refl
  where
    go : (one lower : Bool) → is_below t.version u.version ≡ lower → (one || not lower) ≡ true
    go true lower is = refl
    go false false is = refl
    go false true is = absurd (never (below-lower t.version u.version is))

-- extra families
extra-contains : (xs : List ℕ) (f : ℕ) → list_any (λ extra. extra == f) xs ≡ true → Contains xs f
extra-contains [] f e = cc
extra-contains (x ∷ xs) f e = by (extra-contains xs f) (x == f) refl e
  where
    by : (list_any (λ extra. extra == f) xs ≡ true → Contains xs f) → (y : Bool) → (x == f) ≡ y
        → (y || list_any (λ extra. extra == f) xs) ≡ true → Contains (x ∷ xs) f
    by rest true same h = (0, omega arith, eqb-true x f same)
    by rest false other h = let more = rest h in (suc more.0, omega (arith, more.1), more.2)

contains-extra : (xs : List ℕ) (f : ℕ) → Contains xs f → list_any (λ extra. extra == f) xs ≡ true
contains-extra xs f has =
    list_any_at (λ extra. extra == f) xs has.0 f has.1 (ap (λ x. x == f) has.2 ∙ eq-eqb f f refl)

-- the bit of a family
bit-has : (p : Partition) (family : ℕ) → has_family_bit p.flags family ≡ true → HasFamilyBit p family
bit-has p family e =
    let all = all_of_three _ _ _ e in
    let low = leb-true rp2040_family family all.0 in
    let high = leb-true family arm_ns_family all.1 in
    record {
      number = family - rp2040_family;
      named = omega (arith, low, high);
      family_is = omega (arith, low);
      set = eqb-true (bit_at p.flags (14 + (family - rp2040_family))) 1 all.2;
    }

three : (x y z : Bool) → x ≡ true → y ≡ true → z ≡ true → (x && y && z) ≡ true
three x y z a b c = rw (a, b, c) refl

has-bit : (p : Partition) (family : ℕ) → HasFamilyBit p family → has_family_bit p.flags family ≡ true
has-bit p family has =
    let named = has.named in
    let is = has.family_is in
    let place : family - rp2040_family ≡ has.number = omega (arith, is) in
    three (nat_le rp2040_family family) (nat_le family arm_ns_family)
    (has_bit p.flags (14 + (family - rp2040_family)))
    (le-leb rp2040_family family (omega (arith, is)))
    (le-leb family arm_ns_family (omega (arith, is, named)))
    (eq-eqb (bit_at p.flags (14 + (family - rp2040_family))) 1
    (ap (λ k. bit_at p.flags (14 + k)) place ∙ has.set))

pub accepts-words : (p : Partition) (family : ℕ) → accepts p family ≡ true → Accepts p family
accepts-words p family e = by (has_family_bit p.flags family) refl e
  where
    by : (y : Bool) → has_family_bit p.flags family ≡ y
        → (y || list_any (λ extra. extra == family) p.families.items) ≡ true → Accepts p family
    by true bit h = inl (bit-has p family bit)
    by false bit h = inr (extra-contains p.families.items family h)

pub words-accepts : (p : Partition) (family : ℕ) → Accepts p family → accepts p family ≡ true
words-accepts p family (inl bit) =
    ap (λ y. y || list_any (λ extra. extra == family) p.families.items) (has-bit p family bit)
words-accepts p family (inr extra) = either (has_family_bit p.flags family)
    (list_any (λ e. e == family) p.families.items) (contains-extra p.families.items family extra)
  where
    either : (x y : Bool) → y ≡ true → (x || y) ≡ true
    either true y e = refl
    either false y e = e

-- families of executables, and those of a flash without a table
any-three : (a b x : ℕ) (f : ℕ) → (f == a || f == b || f == x) ≡ true → (f ≡ a) ⊎ ((f ≡ b) ⊎ (f ≡ x))
any-three a b x f e =
    elim (cases_eq f a) [
      | inl one ↦ inl one
      | inr n ↦ elim (cases_eq f b) [
        | inl two ↦ inr (inl two)
        | inr m ↦ (let last : f ≡ x = grind (arith, nat_tests, n, m, e) in inr (inr last))
      ]
    ]

pub executable-words : (family : ℕ) → is_executable family ≡ true → IsExecutable family
executable-words family e = any-three arm_s_family riscv_family arm_ns_family family e

pub words-executable : (family : ℕ) → IsExecutable family → is_executable family ≡ true
words-executable family (inl is) = rw is refl
words-executable family (inr (inl is)) = rw is refl
words-executable family (inr (inr is)) = rw is refl

pub slot-words : (family : ℕ) → (nat_le data_family family && nat_le family arm_ns_family) ≡ true → IsSlotFamily family
slot-words family e =
    let low : data_family ≤ family = grind (arith, nat_tests, e) in
    let high : family ≤ arm_ns_family = grind (arith, nat_tests, e) in
    elim (cases_eq family data_family) [
      | inl is ↦ inl is
      | inr a ↦ elim (cases_eq family arm_s_family) [
        | inl is ↦ inr (inl is)
        | inr b ↦ elim (cases_eq family riscv_family) [
          | inl is ↦ inr (inr (inl is))
          | inr c ↦ (let last : family ≡ arm_ns_family = omega (arith, low, high, a, b, c) in inr (inr (inr last)))
        ]
      ]
    ]

pub words-slot : (family : ℕ) → IsSlotFamily family → (nat_le data_family family && nat_le family arm_ns_family) ≡ true
words-slot family (inl is) = rw is refl
words-slot family (inr (inl is)) = rw is refl
words-slot family (inr (inr (inl is))) = rw is refl
words-slot family (inr (inr (inr is))) = rw is refl

-- no family of a flash without a table is the absolute one
pub slot-not_absolute : (family : ℕ) → IsSlotFamily family → family ≡ absolute_family → ⊥
slot-not_absolute family (inl is) e = omega (arith, is, e)
slot-not_absolute family (inr (inl is)) e = omega (arith, is, e)
slot-not_absolute family (inr (inr (inl is))) e = omega (arith, is, e)
slot-not_absolute family (inr (inr (inr is))) e = omega (arith, is, e)
