-- What tests and options that were joined, mapped or searched tell of their parts.
use Rattle.std.proofs.Common.{sym, ap, cond, ◌⊎◌, inl, inr, ◌∙◌, find, slice_get, ◌==◌, ◌&&◌, ◌||◌, not, nat_lt, if◌then◌else◌, ◌≡◌, ◌≢◌, ℕ, ◌<◌, ◌≤◌, Bool, true, false, List, length, get_or, refl, subst, arith, Option, None, Some, option_map, position}
use Rattle.std.specs.List.{position_or_len}
use Rattle.std.specs.Option.{option_or}
use Rattle.std.proofs.lemmas.Bool.Decides.{nat_tests}
use Rattle.std.proofs.lemmas.Bool.{eq-eqb}
use Rattle.std.proofs.lemmas.List.Folds.{find_at}
use Rattle.std.proofs.lemmas.Option.{slice_get_cases, slice_get_within, get_or_from_slice_get, none-some, same_Some}
use Rattle.std.proofs.lemmas.List.Sums.{fails_before_first, passes_at_first, position_or_len_is}

-- a join without a value has none on either side
pub first_none : {A : Type 0} (one two : Option A) → option_or one two ≡ None → one ≡ None
first_none None two e = refl
first_none (Some x) two e = e

pub second_none : {A : Type 0} (one two : Option A) → option_or one two ≡ None → two ≡ None
second_none None two e = e
second_none (Some x) two e = cc

-- a mapped option has a value where the option has one
pub mapped_none : {A B : Type 0} (f : A → B) (o : Option A) → option_map f o ≡ None → o ≡ None
mapped_none f None e = refl
mapped_none f (Some x) e = cc

pub mapped_some : {A B : Type 0} (f : A → B) (o : Option A) (y : B) → option_map f o ≡ Some y → (x : A) × (o ≡ Some x)
    × (y ≡ f x)
mapped_some f None y e = cc
mapped_some f (Some x) y e = (x, refl, cc)

-- a value that comes with a test
pub fails : {A : Type 0} (test : Bool) (x : A) → (if test then Some x else None) ≡ None → test ≡ false
fails true x none = cc
fails false x none = refl

pub holds : {A : Type 0} (test : Bool) (x : A) → (if test then None else Some x) ≡ None → test ≡ true
holds true x none = refl
holds false x none = cc

pub some_if : {A : Type 0} (test : Bool) (x y : A) → (if test then Some x else None) ≡ Some y → (test ≡ true) × (x ≡ y)
some_if true x y e = (refl, cc)
some_if false x y e = cc

-- tests that were joined
pub any_of_two : (one two : Bool) → (one || two) ≡ false → (one ≡ false) × (two ≡ false)
any_of_two false false e = (refl, refl)
any_of_two true two e = cc
any_of_two false true e = cc

pub any_of_three : (one two three : Bool) → (one || two || three) ≡ false → (one ≡ false) × (two ≡ false)
    × (three ≡ false)
any_of_three false false false e = (refl, refl, refl)
any_of_three true two three e = cc
any_of_three false true three e = cc
any_of_three false false true e = cc

pub both_of_two : (one two : Bool) → (one && two) ≡ true → (one ≡ true) × (two ≡ true)
both_of_two true true e = (refl, refl)
both_of_two false two e = cc
both_of_two true false e = cc

pub all_of_three : (one two three : Bool) → (one && two && three) ≡ true → (one ≡ true) × (two ≡ true) × (three ≡ true)
all_of_three true true true e = (refl, refl, refl)
all_of_three false two three e = cc
all_of_three true false three e = cc
all_of_three true true false e = cc

-- the other value of a test
pub not_false : (test : Bool) → not test ≡ false → test ≡ true
not_false true e = refl
not_false false e = cc

pub not_true : (test : Bool) → not test ≡ true → test ≡ false
not_true true e = cc
not_true false e = refl

pub never_true : (test : Bool) → (test ≡ true → ⊥) → test ≡ false
never_true true no_way = absurd (no_way refl)
never_true false no_way = refl

pub never_false : (test : Bool) → (test ≡ false → ⊥) → test ≡ true
never_false true no_way = refl
never_false false no_way = absurd (no_way refl)

pub differ : (a b : ℕ) → (a == b) ≡ false → a ≢ b
differ a b e = λ same. let yes : (a == b) ≡ true = eq-eqb a b same in cc

-- the first place that passes a test
place_none : (k n : ℕ) → cond (nat_lt k n) (Some k) None ≡ None → n ≤ k
place_none k n e = grind (arith, nat_tests)

place_some : (k n v : ℕ) → cond (nat_lt k n) (Some k) None ≡ Some v → (k < n) × (k ≡ v)
place_some k n v e = grind (arith, nat_tests)

place_at : (k n v : ℕ) → k ≡ v → v < n → cond (nat_lt k n) (Some k) None ≡ Some v
place_at k n v same lt = grind (arith, nat_tests)

no_place : (k n : ℕ) → n ≤ k → cond (nat_lt k n) (Some k) None ≡ None
no_place k n le = grind (arith, nat_tests)

module _ {X : Type 0} (test : X → Bool) (xs : List X) where
  pub none_passes : position test xs ≡ None → (k : ℕ) (d : X) → k < length xs → test (get_or xs k d) ≡ false
  none_passes none k d lt =
      let past : length xs ≤ position_or_len test xs = place_none (position_or_len test xs) (length xs) none in
      fails_before_first test xs k d (omega arith)

  pub passes_at_position : (k : ℕ) (d : X) → position test xs ≡ Some k → (k < length xs) × (test (get_or xs k d) ≡ true)
  passes_at_position k d at =
      let found : (position_or_len test xs < length xs) × (position_or_len test xs ≡ k) =
      place_some (position_or_len test xs) (length xs) k at in (
        subst (λ n. n < length xs) found.1 found.0,
        subst (λ n. test (get_or xs n d) ≡ true) found.1
            (passes_at_first test xs d found.0),
      )

  pub fails_before_position : (k : ℕ) (d : X) → position test xs ≡ Some k → (j : ℕ) → j < k
      → test (get_or xs j d) ≡ false
  fails_before_position k d at j lt =
      let found : (position_or_len test xs < length xs) × (position_or_len test xs ≡ k) =
      place_some (position_or_len test xs) (length xs) k at in
      fails_before_first test xs j d (omega arith)

  pub first_position : (k : ℕ) (d : X) → k < length xs → test (get_or xs k d) ≡ true
      → ((j : ℕ) → j < k → test (get_or xs j d) ≡ false)
      → (position_or_len test xs ≡ k) × (position test xs ≡ Some k)
  first_position k d lt passes before =
      let first : position_or_len test xs ≡ k = position_or_len_is test xs k d (omega arith) before (λ _. passes) in
      (first, place_at _ (length xs) k first lt)

-- what a search finds, and where: an element at its place, or nothing anywhere
pub record Found {X : Type 0} (test : X → Bool) (xs : List X) (k : ℕ) (x : X) : Type 0 where
  pub sought : find test xs ≡ Some x
  pub place : position test xs ≡ Some k
  pub at : slice_get xs k ≡ Some x
  pub passes : test x ≡ true

pub record Absent {X : Type 0} (test : X → Bool) (xs : List X) : Type 0 where
  pub unfound : find test xs ≡ None
  pub placeless : position test xs ≡ None
  pub fails : (k : ℕ) (x : X) → slice_get xs k ≡ Some x → test x ≡ false

pub search_of : {X : Type 0} (test : X → Bool) (xs : List X) → Absent test xs ⊎ ((k : ℕ) × (x : X) × Found test xs k x)
search_of test xs =
    elim ((slice_get_cases xs (position_or_len test xs)).1) [
      | inl there ↦ inr (
        position_or_len test xs,
        there.0,
        record {
          sought = find_at test xs ∙ there.2;
          place = place_at (position_or_len test xs) (length xs) (position_or_len test xs) refl there.1;
          at = there.2;
          passes = subst (λ y. test y ≡ true) there.3 (passes_at_first test xs there.0 there.1);
        },
      )
      | inr past ↦ inl (record {
        unfound = find_at test xs ∙ past.1;
        placeless = no_place (position_or_len test xs) (length xs) past.0;
        fails = λ k x at. subst (λ y. test y ≡ false) (get_or_from_slice_get xs k x x at)
            (fails_before_first test xs k x
            (let within : k < length xs = slice_get_within xs k x at in omega (arith, past.0)));
      })
    ]

-- an element that was found is one of the list that passes
pub found_place : {X : Type 0} (test : X → Bool) (xs : List X) (x : X) → find test xs ≡ Some x → (k : ℕ)
    × (slice_get xs k ≡ Some x) × (test x ≡ true)
found_place test xs x e =
    elim (search_of test xs) [
      | inl absent ↦ absurd (none-some x (sym absent.unfound ∙ e))
      | inr found ↦
          let same : found.1 ≡ x = same_Some found.1 x (sym found.2.sought ∙ e) in
          (found.0, found.2.at ∙ ap (λ y. Some y) same, subst (λ y. test y ≡ true) same found.2.passes)
    ]

-- no place passes the test
pub no_position : {X : Type 0} (test : X → Bool) (xs : List X) (d : X)
    → ((k : ℕ) → k < length xs → test (get_or xs k d) ≡ false) → position test xs ≡ None
no_position test xs d none =
    let past : position_or_len test xs ≡ length xs =
    position_or_len_is test xs (length xs) d (omega arith) none (λ lt. absurd (omega (arith, lt))) in
    no_place (position_or_len test xs) (length xs) (omega (arith, past))
