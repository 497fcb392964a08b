-- The order of versions.
use Rattle.std.proofs.Common.{◌≡◌, ◌≢◌, ◌↔◌, if◌then◌else◌, ℕ, ◌==◌, ◌&&◌, ◌||◌, nat_lt, Bool, true, false, refl, ◌∙◌, ap, arith, Option, None, Some}
use Rattle.std.proofs.lemmas.Bool.Decides.{nat_tests}
use Rattle.block_codec.specs.declared.versions.Version.{Version}
use Rattle.part_table.proofs.TestLemmas.{never_false}
use Rattle.slot_choice.specs.declared.unit.Member.{Member}
use Rattle.slot_choice.specs.declared.unit.Member.TheVariants.{A, B}
use Rattle.slot_choice.specs.Versions.{is_below, better, better_of}

below_numbers_irreflexive : (a b : ℕ) → (nat_lt a a || (a == a && nat_lt b b)) ≡ false
below_numbers_irreflexive a b = grind (arith, nat_tests)

below_numbers_transitive : (a b c d e f : ℕ) → (nat_lt a c || (a == c && nat_lt b d)) ≡ true
    → (nat_lt c e || (c == e && nat_lt d f)) ≡ true
    → (nat_lt a e || (a == e && nat_lt b f)) ≡ true
below_numbers_transitive a b c d e f one two = grind (arith, nat_tests)

below_numbers_total : (a b c d : ℕ) → (nat_lt a c || (a == c && nat_lt b d)) ≡ false
    → (nat_lt c a || (c == a && nat_lt d b)) ≡ false
    → (a ≡ c) × (b ≡ d)
below_numbers_total a b c d one two = grind (arith, nat_tests)

-- versions whose numbers are equal are equal
same_version : (v w : Version) → (v.major ≡ w.major) × (v.minor ≡ w.minor) → v ≡ w
same_version v w same = ap (λ m. record { major = m; minor = v.minor }) same.0
    ∙ ap (λ m. record { major = w.major; minor = m }) same.1

pub irreflexive : (v : Version) → is_below v v ≡ false
irreflexive v = below_numbers_irreflexive v.major v.minor

pub transitive : (u v w : Version) → is_below u v ≡ true → is_below v w ≡ true → is_below u w ≡ true
transitive u v w one two = below_numbers_transitive u.major u.minor v.major v.minor w.major w.minor one two

pub total : (v w : Version) → is_below v w ≡ false → is_below w v ≡ false → v ≡ w
total v w one two = same_version v w (below_numbers_total v.major v.minor w.major w.minor one two)

chosen_b : (yes : Bool) → Some (if yes then B else A) ≡ Some B → yes ≡ true
chosen_b true e = refl
chosen_b false e = cc

chosen_a : (yes : Bool) → Some (if yes then B else A) ≡ Some A → yes ≡ false
chosen_a true e = cc
chosen_a false e = refl

-- B is better exactly where A's version is below
pub second_better : (v w : Version) → (better (Some v) (Some w) ≡ Some B) ↔ (is_below v w ≡ true)
second_better v w = (chosen_b (is_below v w), λ below. ap (λ yes. Some (if yes then B else A)) below)

taken_a : (yes : Bool) → (if yes then B else A) ≡ A → yes ≡ false
taken_a true e = cc
taken_a false e = refl

taken_b : (yes : Bool) → (if yes then B else A) ≡ B → yes ≡ true
taken_b true e = refl
taken_b false e = cc

-- the first of two versions is better exactly where it is not below
pub first_of_two : (v w : Version) → (better_of v w ≡ A) ↔ (is_below v w ≡ false)
first_of_two v w = (taken_a (is_below v w), λ above. ap (λ yes. if yes then B else A) above)

-- the second of two versions is better exactly where the first is below
pub second_of_two : (v w : Version) → (better_of v w ≡ B) ↔ (is_below v w ≡ true)
second_of_two v w = (taken_b (is_below v w), λ below. ap (λ yes. if yes then B else A) below)

-- A is better where the versions are equal
pub tie : (v : Version) → better (Some v) (Some v) ≡ Some A
tie v = ap (λ yes. Some (if yes then B else A)) (irreflexive v)

-- no member is better exactly where neither has a version
pub none_better : (a b : Option Version) → (better a b ≡ None) ↔ ((a ≡ None) × (b ≡ None))
none_better None None = ((λ e. (refl, refl)), λ both. refl)
none_better None (Some w) = ((λ e. cc), λ both. cc)
none_better (Some v) None = ((λ e. cc), λ both. cc)
none_better (Some v) (Some w) = ((λ e. cc), λ both. cc)

-- of two different versions the same one is better whichever member has it
pub swapped : (v w : Version) → v ≢ w → better (Some v) (Some w) ≡ Some A → better (Some w) (Some v) ≡ Some B
swapped v w differ first = (second_better w v).1
    (never_false (is_below w v) (λ above. differ (total v w (chosen_a (is_below v w) first) above)))
