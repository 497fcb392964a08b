-- The bytes before and behind a mark, by the place of the first.
use Rattle.std.proofs.Common.{◌≡◌, ℕ, zero, suc, ◌+◌, ◌^◌, ◌<◌, ◌≤◌, ◌==◌, Bool, true, false, List, [], ◌∷◌, ◌++◌, length, take, drop, get_or, Option, Some, None, refl, ap, arith, inl, inr, decimal}
use Rattle.std.specs.Prelude.{IfSome, if◌then◌else◌, nat_le}
use Rattle.std.specs.Char.{is_ascii_digit}
use Rattle.std.specs.Str.{all_ascii_digits}
use Rattle.std.specs.List.{list_all}
use Rattle.std.proofs.lemmas.Bool.{and_parts, cases_eq, eq-eqb, leb-true, ne_eqb}
use Rattle.text_words.proofs.NumberBackLemmas.{decimal-digits}
use Rattle.script_words.specs.Splitting.{before_mark, behind_mark}

abbrev IsMarkAt : ℕ → List ℕ → ℕ → Type 0
IsMarkAt mark bs k = (get_or bs k 0 == mark) ≡ true

pub mark-none : (mark : ℕ) (bs : List ℕ) → ((k : ℕ) → 0 ≤ k → k < length bs → IsMarkAt mark bs k → ⊥)
    → (before_mark mark bs ≡ bs) × (behind_mark mark bs ≡ None)
mark-none mark [] none = (refl, refl)
mark-none mark (b ∷ bs) none = elim (cases_eq b mark) [
  | inl e ↦ absurd (none 0 (omega arith) (omega arith) (eq-eqb b mark e))
  | inr ne ↦
      let rest = mark-none mark bs (λ k low lt is. none (suc k) (omega arith) (omega arith) is) in
      rw (ne_eqb b mark ne) (ap (λ xs. b ∷ xs) rest.0, rest.1)
]

pub mark-some : (mark : ℕ) (bs : List ℕ) (k : ℕ) → k < length bs → IsMarkAt mark bs k
    → ((j : ℕ) → 0 ≤ j → j < k → IsMarkAt mark bs j → ⊥)
    → (before_mark mark bs ≡ take k bs) × (behind_mark mark bs ≡ Some (drop (k + 1) bs))
mark-some mark [] k lt is none = absurd (omega arith)
mark-some mark (b ∷ bs) zero lt is none = rw is (refl, refl)
mark-some mark (b ∷ bs) (suc k) lt is none = elim (cases_eq b mark) [
  | inl e ↦ absurd (none 0 (omega arith) (omega arith) (eq-eqb b mark e))
  | inr ne ↦
      let rest = mark-some mark bs k (omega arith) is
      (λ j low more is_j. none (suc j) (omega arith) (omega arith) is_j) in
      let next : suc k + 1 ≡ suc (k + 1) = omega arith in
      rw (next, ne_eqb b mark ne) (ap (λ xs. b ∷ xs) rest.0, rest.1)
]

-- bytes none of which is the mark
abbrev pub is_other : ℕ → ℕ → Bool
is_other mark b = if b == mark then false else true

abbrev pub is_free : ℕ → List ℕ → Bool
is_free mark bs = list_all (is_other mark) bs

pub free-append : (mark : ℕ) (xs ys : List ℕ) → is_free mark xs ≡ true → is_free mark ys ≡ true
    → is_free mark (xs ++ ys) ≡ true
free-append mark [] ys first second = second
free-append mark (x ∷ xs) ys first second =
    let parts = and_parts (is_other mark x) (is_free mark xs) first in
    rw parts.0 (free-append mark xs ys parts.1 second)

pub other-ne : (mark b : ℕ) → is_other mark b ≡ true → (b == mark) ≡ false
other-ne mark b other = by_test (b == mark) other
  where
    by_test : (t : Bool) → (if t then false else true) ≡ true → t ≡ false
    by_test true h = cc h
    by_test false h = refl

pub mark-before : (mark : ℕ) (front rest : List ℕ) → is_free mark front ≡ true
    → before_mark mark (front ++ (mark ∷ rest)) ≡ front
mark-before mark [] rest free = rw (eq-eqb mark mark refl) refl
mark-before mark (b ∷ front) rest free =
    let parts = and_parts (is_other mark b) (is_free mark front) free in
    rw (other-ne mark b parts.0) (ap (λ xs. b ∷ xs) (mark-before mark front rest parts.1))

pub mark-behind : (mark : ℕ) (front rest : List ℕ) → is_free mark front ≡ true
    → behind_mark mark (front ++ (mark ∷ rest)) ≡ Some rest
mark-behind mark [] rest free = rw (eq-eqb mark mark refl) refl
mark-behind mark (b ∷ front) rest free =
    let parts = and_parts (is_other mark b) (is_free mark front) free in
    rw (other-ne mark b parts.0) (mark-behind mark front rest parts.1)

-- what stands behind a mark follows what stands before it, and the mark
pub mark-whole : (mark : ℕ) (bs : List ℕ)
    → IfSome (behind_mark mark bs) (λ rest. bs ≡ before_mark mark bs ++ (mark ∷ rest))
mark-whole mark [] = tt
mark-whole mark (b ∷ bs) = elim (cases_eq b mark) [
  | inl e ↦ rw (eq-eqb b mark e) (ap (λ m. m ∷ bs) e)
  | inr ne ↦ rw (ne_eqb b mark ne) (more (behind_mark mark bs) (mark-whole mark bs))
]
  where
    more : (r : Option (List ℕ)) → IfSome r (λ rest. bs ≡ before_mark mark bs ++ (mark ∷ rest))
        → IfSome r (λ rest. b ∷ bs ≡ b ∷ (before_mark mark bs ++ (mark ∷ rest)))
    more None is = tt
    more (Some rest) is = ap (λ xs. b ∷ xs) is

-- ---- marks below the digits

digit-other : (mark c : ℕ) → mark < 48 → is_ascii_digit c ≡ true → is_other mark c ≡ true
digit-other mark c low digit =
    let parts = and_parts (nat_le 48 c) (nat_le c 57) digit in
    let above = leb-true 48 c parts.0 in
    rw (ne_eqb c mark (omega arith)) refl

decimals-free : (mark : ℕ) (text : List ℕ) → mark < 48 → all_ascii_digits text ≡ true → is_free mark text ≡ true
decimals-free mark [] low digits = refl
decimals-free mark (c ∷ text) low digits =
    let parts = and_parts (is_ascii_digit c) (all_ascii_digits text) digits in
    rw (digit-other mark c low parts.0) (decimals-free mark text low parts.1)

-- the digits of a number are neither blanks nor line feeds
pub decimal-free : (mark n : ℕ) → mark < 48 → n < 2 ^ 64 → is_free mark (decimal n) ≡ true
decimal-free mark n low small = decimals-free mark (decimal n) low (decimal-digits n small)
