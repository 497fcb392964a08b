-- Lists of numbers that differ.
use Rattle.std.proofs.Common.{◌≡◌, ℕ, zero, suc, ◌+◌, ◌<◌, ◌≤◌, Bool, true, false, nat_eq, List, [], ◌∷◌, ◌++◌, length, arith, refl, ◌∙◌}
use Rattle.std.specs.List.{AllByRecursion, IsDistinct, range_with_len}
use Rattle.std.specs.Set.{is_member}
use Rattle.std.proofs.lemmas.List.Elements.{All-from_recursion}
use Rattle.std.proofs.lemmas.List.FromFn.{get_or-range_with_len, length-range_with_len}
use Rattle.std.proofs.lemmas.Bool.Decides.{Decides-eqb, nat_tests}
use Rattle.std.proofs.lemmas.Grind.{common_steps}
use Rattle.std.proofs.lemmas.Cmp.{nat_eq_equiv}
use Rattle.std.proofs.lemmas.Map.Made.{is_member-Decides, length-le_from_is_member}
use Rattle.pico_board.proofs.GateLemmas.{AllByRecursion-left, IsDistinct-first, IsDistinct-rest, IsDistinct-more, IsDistinct-none}

-- all of two lists
pub all-append : {X : Type 0} (P : X → Type 0) (xs ys : List X) → AllByRecursion P xs → AllByRecursion P ys
    → AllByRecursion P (xs ++ ys)
all-append P [] ys first second = second
all-append P (x ∷ xs) ys first second = (first.0, all-append P xs ys first.1 second)

pub all-right : {X : Type 0} (P : X → Type 0) (xs ys : List X) → AllByRecursion P (xs ++ ys) → AllByRecursion P ys
all-right P [] ys all = all
all-right P (x ∷ xs) ys all = all-right P xs ys all.1

pub IsDistinct-left : (xs ys : List ℕ) → IsDistinct nat_eq (xs ++ ys) → IsDistinct nat_eq xs
IsDistinct-left [] ys distinct = IsDistinct-none
IsDistinct-left (x ∷ xs) ys distinct =
    IsDistinct-more x xs (AllByRecursion-left (λ y. nat_eq x y ≡ false) xs ys (IsDistinct-first x (xs ++ ys) distinct))
    (IsDistinct-left xs ys (IsDistinct-rest x (xs ++ ys) distinct))

-- a number that is no element differs from all
pub no-member : (x : ℕ) (xs : List ℕ) → is_member nat_eq xs x ≡ false → AllByRecursion (λ y. nat_eq x y ≡ false) xs
no-member x [] absent = tt
no-member x (y ∷ ys) absent = (
  grind (arith, common_steps, absent),
  no-member x ys (grind
      (arith, common_steps, absent)),
)

-- one more number, which differs from all
pub IsDistinct-push : (xs : List ℕ) (x : ℕ) → IsDistinct nat_eq xs → is_member nat_eq xs x ≡ false
    → IsDistinct nat_eq (xs ++ x ∷ [])
IsDistinct-push [] x distinct absent = IsDistinct-more x [] tt IsDistinct-none
IsDistinct-push (y ∷ ys) x distinct absent =
    IsDistinct-more y (ys ++ x ∷ [])
    (all-append (λ z. nat_eq y z ≡ false) ys (x ∷ []) (IsDistinct-first y ys distinct) (
      grind
          (arith, nat_tests, common_steps, absent),
      tt,
    ))
    (IsDistinct-push ys x (IsDistinct-rest y ys distinct) (grind (arith, common_steps, absent)))

-- numbers from a on differ from those below a
above : (x a n : ℕ) → x < a → AllByRecursion (λ y. nat_eq x y ≡ false) (range_with_len a n)
above x a zero low = tt
above x a (suc n) low = (grind (arith, nat_tests, low), above x (a + 1) n (omega (arith, low)))

pub IsDistinct-range : (a n : ℕ) → IsDistinct nat_eq (range_with_len a n)
IsDistinct-range a zero = IsDistinct-none
IsDistinct-range a (suc n) = IsDistinct-more a (range_with_len (a + 1) n) (above a (a + 1) n (omega arith))
    (IsDistinct-range (a + 1) n)

-- the members of a range are the numbers in it
pub in-range : (count i : ℕ) → i < count → is_member nat_eq (range_with_len 0 count) i ≡ true
in-range count i low =
    (is_member-Decides Decides-eqb (range_with_len 0 count) i).1
    (i, omega (arith, low, length-range_with_len 0 count), get_or-range_with_len 0 count i i low ∙ omega arith)

pub member-below : (count : ℕ) (ns : List ℕ) (i : ℕ) → AllByRecursion (λ k. k < count) ns → is_member nat_eq ns i ≡ true
    → i < count
member-below count ns i all member =
    let held = (is_member-Decides Decides-eqb ns i).0 member in
    omega (arith, All-from_recursion (λ k. k < count) ns all held.0 i held.1, held.2)

range-below : (a n count : ℕ) → a + n ≤ count → AllByRecursion (λ k. k < count) (range_with_len a n)
range-below a zero count fits = tt
range-below a (suc n) count fits = (omega (arith, fits), range-below (a + 1) n count (omega (arith, fits)))

-- different numbers below a count are no more than the count
pub few-numbers : (count : ℕ) (ns : List ℕ) → AllByRecursion (λ k. k < count) ns → IsDistinct nat_eq ns
    → length ns ≤ count
few-numbers count ns below distinct =
    omega (
      arith,
      length-range_with_len 0 count,
      length-le_from_is_member nat_eq_equiv ns (range_with_len 0 count) distinct
          (λ q member. in-range count q (member-below count ns q below member)),
    )

-- where all numbers below the count are there, there are as many
pub all-numbers : (count : ℕ) (ns : List ℕ) → ((i : ℕ) → i < count → is_member nat_eq ns i ≡ true) → count ≤ length ns
all-numbers count ns there =
    omega (
      arith,
      length-range_with_len 0 count,
      length-le_from_is_member nat_eq_equiv (range_with_len 0 count) ns (IsDistinct-range 0 count)
          (λ q member. there q (member-below count (range_with_len 0 count) q (range-below 0 count count
          (omega arith)) member)),
    )

-- where there are as many different numbers below the count, each is there
pub each-number : (count : ℕ) (ns : List ℕ) → AllByRecursion (λ k. k < count) ns → IsDistinct nat_eq ns
    → length ns ≡ count
    → (i : ℕ) → i < count → is_member nat_eq ns i ≡ true
each-number count ns below distinct long i low = by (is_member nat_eq ns i) refl
  where
    by : (b : Bool) → is_member nat_eq ns i ≡ b → is_member nat_eq ns i ≡ true
    by true is = is
    by false is = absurd (omega (
      arith,
      long,
      few-numbers count (i ∷ ns) (low, below) (IsDistinct-more i ns
          (no-member i ns is) distinct),
    ))
