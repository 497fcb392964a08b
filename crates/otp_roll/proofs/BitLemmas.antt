-- The set bits of a number: what the majority of three numbers has, what the lowest clear bits add, and how many
-- there are.
use Rattle.std.proofs.Common.{◌≡◌, ℕ, zero, suc, ◌+◌, ◌-◌, ◌*◌, ◌/◌, ◌%◌, ◌^◌, ◌<◌, ◌≤◌, arith, refl, ◌∙◌, lit<, pow-suc, inl, inr}
use Rattle.std.specs.Prelude.{◌↔◌, ◌⊎◌, min, max, bit_and, bit_or, bit_xor}
use Rattle.std.specs.Int.{bit_at}
use Rattle.std.specs.Int.Bits.{or_step, or_zero_r, or_lt, and_le_l}
use Rattle.std.proofs.lemmas.Bool.{cases_eq, cases_lt, eq-eqb, ne_eqb}
use Rattle.std.specs.Int.Count.{ones, ones_step, ones-le}
use Rattle.std.proofs.lemmas.Nat.Bits.{bit_at_lowest, bit_at-zero, bit_at-suc, bit_at_and, bit_at_or, bit_at_xor, bit_at-lt, bit_at_above, bit_at_ones, same_from_bits}
use Rattle.otp_roll.specs.Rows.{majority_of}
use Rattle.otp_roll.specs.Raises.{lowest_clear_among, lowest_clear, lacking}

-- a bit of the majority, by those of the three numbers
pub bit_at-majority : (a b c k : ℕ)
    → bit_at (majority_of a b c) k
    ≡ max (min (bit_at a k) (bit_at b k)) (max (min (bit_at a k) (bit_at c k)) (min (bit_at b k) (bit_at c k)))
bit_at-majority a b c k =
    simp (bit_at_or, bit_at_and)

-- a bit is in the majority exactly where two of the three numbers have it
pub majority-two : (a b c k : ℕ) → (bit_at (majority_of a b c) k ≡ 1) ↔ (2 ≤ bit_at a k + bit_at b k + bit_at c k)
majority-two a b c k =
    let bits = bit_at-majority a b c k in
    let a_bit = bit_at-lt a k in
    let b_bit = bit_at-lt b k in
    let c_bit = bit_at-lt c k in
    (λ set. omega arith, λ two. omega arith)

-- where each of three numbers has the bits of another, so has their majority
pub majority-mono : (a b c x y z k : ℕ) → bit_at a k ≤ bit_at x k → bit_at b k ≤ bit_at y k → bit_at c k ≤ bit_at z k
    → bit_at (majority_of a b c) k ≤ bit_at (majority_of x y z) k
majority-mono a b c x y z k in_x in_y in_z =
    from_two (majority-two a b c k) (majority-two x y z k) (bit_at-lt (majority_of a b c) k)
  where
    from_two : ((bit_at (majority_of a b c) k ≡ 1) ↔ (2 ≤ bit_at a k + bit_at b k + bit_at c k))
        → ((bit_at (majority_of x y z) k ≡ 1) ↔ (2 ≤ bit_at x k + bit_at y k + bit_at z k))
        → bit_at (majority_of a b c) k < 2 → bit_at (majority_of a b c) k ≤ bit_at (majority_of x y z) k
    from_two old new low = by_bit (cases_eq (bit_at (majority_of a b c) k) 1)
      where
        by_bit : (bit_at (majority_of a b c) k ≡ 1) ⊎ (bit_at (majority_of a b c) k ≡ 1 → ⊥)
            → bit_at (majority_of a b c) k ≤ bit_at (majority_of x y z) k
        by_bit (inl set) = let two = old.0 set in let now = new.1 (omega arith) in omega arith
        by_bit (inr clear) = omega arith

-- a number that has each bit of another has no fewer
pub ones-mono_below : (k a b : ℕ) → a < 2 ^ k → b < 2 ^ k → ((i : ℕ) → bit_at a i ≤ bit_at b i) → ones a ≤ ones b
ones-mono_below zero a b a_low b_low covered =
    let a_none : a ≡ 0 = omega arith in
    let b_none : b ≡ 0 = omega arith in
    rw (a_none, b_none) (omega arith)
ones-mono_below (suc k) a b a_low b_low covered =
    let halves = ones-mono_below k (a / 2) (b / 2) (omega (arith, pow-suc 2 k)) (omega (arith, pow-suc 2 k))
    (λ i. rw (← bit_at-suc a i, ← bit_at-suc b i) (covered (suc i))) in
    let lowest : a % 2 ≤ b % 2 = rw (← bit_at_lowest a, ← bit_at_lowest b) (covered 0) in
    omega (arith, ones_step a, ones_step b)

-- the set bits of a disjunction, lowest first
ones-or : (a b : ℕ) → ones (bit_or a b) ≡ max (a % 2) (b % 2) + ones (bit_or (a / 2) (b / 2))
ones-or a b =
    let step = or_step a b in
    let low : bit_or a b % 2 ≡ max (a % 2) (b % 2) = omega (arith, step) in
    let half : bit_or a b / 2 ≡ bit_or (a / 2) (b / 2) = omega (arith, step) in
    ones_step (bit_or a b) ∙ rw (low, half) refl

-- the lowest clear bits of a number whose lowest bit is clear, or set
pub lowest-even : (p n v : ℕ) → v % 2 ≡ 0
    → lowest_clear_among (suc p) (suc n) v ≡ 1 + 2 * lowest_clear_among p n (v / 2)
lowest-even p n v even = rw (eq-eqb (v % 2) 0 even) refl

pub lowest-odd : (p n v : ℕ) → (v % 2 ≡ 0 → ⊥)
    → lowest_clear_among (suc p) (suc n) v ≡ 2 * lowest_clear_among p (suc n) (v / 2)
lowest-odd p n v odd = rw (ne_eqb (v % 2) 0 odd) refl

-- the lowest clear bits of a number of p bits are below 2 ^ p
pub lowest-lt : (p n v : ℕ) → lowest_clear_among p n v < 2 ^ p
lowest-lt zero n v = lit< tt
lowest-lt (suc p) zero v = omega (arith, pow-suc 2 p, lowest-lt p zero v)
lowest-lt (suc p) (suc n) v = by_digit (cases_eq (v % 2) 0) (lowest-lt p n (v / 2)) (lowest-lt p (suc n) (v / 2))
  where
    by_digit : (v % 2 ≡ 0) ⊎ (v % 2 ≡ 0 → ⊥) → lowest_clear_among p n (v / 2) < 2 ^ p
        → lowest_clear_among p (suc n) (v / 2) < 2 ^ p → lowest_clear_among (suc p) (suc n) v < 2 ^ suc p
    by_digit (inl even) one all = omega (arith, pow-suc 2 p, lowest-even p n v even)
    by_digit (inr odd) one all = omega (arith, pow-suc 2 p, lowest-odd p n v odd)

-- to set the n lowest clear bits of a number of p bits sets n bits more, or all that are clear
pub ones-lowest : (p n v : ℕ) → v < 2 ^ p → ones (bit_or v (lowest_clear_among p n v)) ≡ ones v + min n (p - ones v)
ones-lowest zero n v low = rw (or_zero_r v) (let none : v ≡ 0 = omega arith in omega arith)
ones-lowest (suc p) zero v low = rw (or_zero_r v) (omega arith)
ones-lowest (suc p) (suc n) v low =
    by_digit (cases_eq (v % 2) 0) (ones-lowest p n (v / 2) (omega (arith, pow-suc 2 p)))
    (ones-lowest p (suc n) (v / 2) (omega (arith, pow-suc 2 p)))
  where
    few : ones (v / 2) ≤ p
    few = ones-le p (v / 2) (omega (arith, pow-suc 2 p))

    by_digit : (v % 2 ≡ 0) ⊎ (v % 2 ≡ 0 → ⊥)
        → ones (bit_or (v / 2) (lowest_clear_among p n (v / 2))) ≡ ones (v / 2) + min n (p - ones (v / 2))
        → ones (bit_or (v / 2) (lowest_clear_among p (suc n) (v / 2))) ≡ ones (v / 2) + min (suc n) (p - ones (v / 2))
        → ones (bit_or v (lowest_clear_among (suc p) (suc n) v)) ≡ ones v + min (suc n) (suc p - ones v)
    by_digit (inl even) one all =
        let e = lowest-even p n v even in
        let half : lowest_clear_among (suc p) (suc n) v / 2 ≡ lowest_clear_among p n (v / 2) = omega (arith, e) in
        let digit : lowest_clear_among (suc p) (suc n) v % 2 ≡ 1 = omega (arith, e) in
        let both = rw (half, digit) at (ones-or v (lowest_clear_among (suc p) (suc n) v)) in
        omega (arith, both, ones_step v, one, few)
    by_digit (inr odd) one all =
        let e = lowest-odd p n v odd in
        let half : lowest_clear_among (suc p) (suc n) v / 2 ≡ lowest_clear_among p (suc n) (v / 2) =
        omega (arith, e) in
        let digit : lowest_clear_among (suc p) (suc n) v % 2 ≡ 0 = omega (arith, e) in
        let both = rw (half, digit) at (ones-or v (lowest_clear_among (suc p) (suc n) v)) in
        omega (arith, both, ones_step v, all, few)

-- each of the lowest clear bits is clear in the number
pub lowest-clear : (p n v k : ℕ) → bit_at (lowest_clear_among p n v) k ≡ 1 → bit_at v k ≡ 0
lowest-clear zero n v k set = absurd (omega (arith, bit_at-zero k))
lowest-clear (suc p) zero v k set = absurd (omega (arith, bit_at-zero k))
lowest-clear (suc p) (suc n) v zero set = by_digit (cases_eq (v % 2) 0)
  where
    by_digit : (v % 2 ≡ 0) ⊎ (v % 2 ≡ 0 → ⊥) → bit_at v 0 ≡ 0
    by_digit (inl even) = rw (bit_at_lowest v) even
    by_digit (inr odd) =
        absurd (let digit = rw (bit_at_lowest (lowest_clear_among (suc p) (suc n) v), lowest-odd p n v odd) at set in
        omega arith)
lowest-clear (suc p) (suc n) v (suc k) set =
    rw (bit_at-suc v k) (by_digit (cases_eq (v % 2) 0) (lowest-clear p n (v / 2) k)
    (lowest-clear p (suc n) (v / 2) k))
  where
    by_digit : (v % 2 ≡ 0) ⊎ (v % 2 ≡ 0 → ⊥)
        → (bit_at (lowest_clear_among p n (v / 2)) k ≡ 1 → bit_at (v / 2) k ≡ 0)
        → (bit_at (lowest_clear_among p (suc n) (v / 2)) k ≡ 1 → bit_at (v / 2) k ≡ 0)
        → bit_at (v / 2) k ≡ 0
    by_digit (inl even) one all =
        let half : (1 + 2 * lowest_clear_among p n (v / 2)) / 2 ≡ lowest_clear_among p n (v / 2) = omega arith in
        one (rw (bit_at-suc (lowest_clear_among (suc p) (suc n) v) k, lowest-even p n v even, half) at set)
    by_digit (inr odd) one all =
        let half : (2 * lowest_clear_among p (suc n) (v / 2)) / 2 ≡ lowest_clear_among p (suc n) (v / 2) =
        omega arith in
        all (rw (bit_at-suc (lowest_clear_among (suc p) (suc n) v) k, lowest-odd p n v odd, half) at set)

-- below each of the lowest clear bits every bit is one of them or set in the number
pub lowest-first : (p n v j k : ℕ) → j < k → bit_at (lowest_clear_among p n v) k ≡ 1
    → (bit_at v j ≡ 1) ⊎ (bit_at (lowest_clear_among p n v) j ≡ 1)
lowest-first zero n v j k below set = absurd (omega (arith, bit_at-zero k))
lowest-first (suc p) zero v j k below set = absurd (omega (arith, bit_at-zero k))
lowest-first (suc p) (suc n) v j zero below set = absurd (omega arith)
lowest-first (suc p) (suc n) v zero (suc k) below set = by_digit (cases_eq (v % 2) 0)
  where
    by_digit : (v % 2 ≡ 0) ⊎ (v % 2 ≡ 0 → ⊥)
        → (bit_at v 0 ≡ 1) ⊎ (bit_at (lowest_clear_among (suc p) (suc n) v) 0 ≡ 1)
    by_digit (inl even) =
        inr (rw (bit_at_lowest (lowest_clear_among (suc p) (suc n) v), lowest-even p n v even) (omega arith))
    by_digit (inr odd) = inl (rw (bit_at_lowest v) (omega arith))
lowest-first (suc p) (suc n) v (suc j) (suc k) below set =
    by_digit (cases_eq (v % 2) 0) (lowest-first p n (v / 2) j k (omega arith))
    (lowest-first p (suc n) (v / 2) j k (omega arith))
  where
    by_digit : (v % 2 ≡ 0) ⊎ (v % 2 ≡ 0 → ⊥)
        → (bit_at (lowest_clear_among p n (v / 2)) k ≡ 1
        → (bit_at (v / 2) j ≡ 1) ⊎ (bit_at (lowest_clear_among p n (v / 2)) j ≡ 1))
        → (bit_at (lowest_clear_among p (suc n) (v / 2)) k ≡ 1
        → (bit_at (v / 2) j ≡ 1) ⊎ (bit_at (lowest_clear_among p (suc n) (v / 2)) j ≡ 1))
        → (bit_at v (suc j) ≡ 1) ⊎ (bit_at (lowest_clear_among (suc p) (suc n) v) (suc j) ≡ 1)
    by_digit (inl even) one all =
        let half : (1 + 2 * lowest_clear_among p n (v / 2)) / 2 ≡ lowest_clear_among p n (v / 2) = omega arith in
        rw (bit_at-suc v j, bit_at-suc (lowest_clear_among (suc p) (suc n) v) j, lowest-even p n v even, half)
        (one (rw (bit_at-suc (lowest_clear_among (suc p) (suc n) v) k, lowest-even p n v even, half) at set))
    by_digit (inr odd) one all =
        let half : (2 * lowest_clear_among p (suc n) (v / 2)) / 2 ≡ lowest_clear_among p (suc n) (v / 2) =
        omega arith in
        rw (bit_at-suc v j, bit_at-suc (lowest_clear_among (suc p) (suc n) v) j, lowest-odd p n v odd, half)
        (all (rw (bit_at-suc (lowest_clear_among (suc p) (suc n) v) k, lowest-odd p n v odd, half) at set))

-- to raise a row by the bits that it lacks is to raise it by all of them
pub or-lacking : (v b : ℕ) → b < 2 ^ 24 → bit_or v (lacking b v) ≡ bit_or v b
or-lacking v b small = same_from_bits _ _ (λ i. by_place i (cases_lt i 24))
  where
    by_place : (i : ℕ) → (i < 24) ⊎ (24 ≤ i) → bit_at (bit_or v (lacking b v)) i ≡ bit_at (bit_or v b) i
    by_place i (inl inside) =
        let one : bit_at 0xff_ffff i ≡ 1 = bit_at_ones 24 i inside in
        rw (
          bit_at_or v (lacking b v) i,
          bit_at_or v b i,
          bit_at_and b
              (bit_xor v 0xff_ffff) i,
          bit_at_xor v 0xff_ffff i,
          one,
        )
        (omega (arith, bit_at-lt v i, bit_at-lt b i))
    by_place i (inr outside) =
        let none : bit_at b i ≡ 0 = bit_at_above b 24 i small outside in
        rw (bit_at_or v (lacking b v) i, bit_at_or v b i, bit_at_and b (bit_xor v 0xff_ffff) i, none) (omega arith)

-- what holds of both digits holds of each number below 2
digit : (P : ℕ → Type 0) → P 0 → P 1 → (x : ℕ) → x < 2 → P x
digit P at_zero at_one zero below = at_zero
digit P at_zero at_one (suc zero) below = at_one
digit P at_zero at_one (suc (suc x)) below = absurd (omega arith)

-- the majority of three digits that each get a digit
abbrev GetsDigit : ℕ → ℕ → ℕ → ℕ → Type 0
GetsDigit x y z d =
    max (min (max x d) (max y d)) (max (min (max x d) (max z d)) (min (max y d) (max z d)))
    ≡ max (max (min x y) (max (min x z) (min y z))) d

digits-or : (x y z d : ℕ) → x < 2 → y < 2 → z < 2 → d < 2 → GetsDigit x y z d
digits-or x y z d x_low y_low z_low d_low =
    (digit (λ v. GetsDigit v y z d)
    (digit (λ v. GetsDigit 0 v z d)
    (digit (λ v. GetsDigit 0 0 v d)
    (digit (λ v. GetsDigit 0 0 0 v) refl refl d d_low)
    (digit (λ v. GetsDigit 0 0 1 v) refl refl d d_low) z z_low)
    (digit (λ v. GetsDigit 0 1 v d)
    (digit (λ v. GetsDigit 0 1 0 v) refl refl d d_low)
    (digit (λ v. GetsDigit 0 1 1 v) refl refl d d_low) z z_low) y y_low)
    (digit (λ v. GetsDigit 1 v z d)
    (digit (λ v. GetsDigit 1 0 v d)
    (digit (λ v. GetsDigit 1 0 0 v) refl refl d d_low)
    (digit (λ v. GetsDigit 1 0 1 v) refl refl d d_low) z z_low)
    (digit (λ v. GetsDigit 1 1 v d)
    (digit (λ v. GetsDigit 1 1 0 v) refl refl d d_low)
    (digit (λ v. GetsDigit 1 1 1 v) refl refl d d_low) z z_low) y y_low) x x_low)

-- the majority of three numbers that each get the same bits gets these bits
pub majority-or : (a b c bits : ℕ)
    → majority_of (bit_or a bits) (bit_or b bits) (bit_or c bits) ≡ bit_or (majority_of a b c) bits
majority-or a b c bits = same_from_bits _ _ (λ i.
    simp (bit_at_or, bit_at_and)
    (digits-or (bit_at a i) (bit_at b i) (bit_at c i) (bit_at bits i) (bit_at-lt a i) (bit_at-lt b i) (bit_at-lt c i)
    (bit_at-lt bits i)))

-- rows of 24 bits have a majority of 24 bits
pub majority-lt : (a b c : ℕ) → a < 2 ^ 24 → b < 2 ^ 24 → majority_of a b c < 2 ^ 24
majority-lt a b c a_small b_small =
    or_lt 24 (bit_and a b) (bit_or (bit_and a c) (bit_and b c)) (and_lt_l a b a_small)
    (or_lt 24 (bit_and a c) (bit_and b c) (and_lt_l a c a_small) (and_lt_l b c b_small))
  where
    and_lt_l : (x y : ℕ) → x < 2 ^ 24 → bit_and x y < 2 ^ 24
    and_lt_l x y small = omega (arith, and_le_l x y)

-- each number is below the power of two of that number
lt-pow_two : (n : ℕ) → n < 2 ^ n
lt-pow_two zero = lit< tt
lt-pow_two (suc n) = omega (arith, pow-suc 2 n, lt-pow_two n)

pub ones-mono : (a b : ℕ) → ((i : ℕ) → bit_at a i ≤ bit_at b i) → ones a ≤ ones b
ones-mono a b covered =
    let large = lt-pow_two (a + b) in ones-mono_below (a + b) a b (omega arith) (omega arith) covered

-- the lowest clear bits of a row are a number below 2^24
pub lowest_clear-lt : (n v : ℕ) → lowest_clear n v < 2 ^ 24
unfolding lowest_clear
lowest_clear-lt n v = lowest-lt 24 n v

pub ones-lowest_clear : (n v : ℕ) → v < 2 ^ 24 → ones (bit_or v (lowest_clear n v)) ≡ ones v + min n (24 - ones v)
unfolding lowest_clear
ones-lowest_clear n v small = ones-lowest 24 n v small

pub lowest_clear-clear : (n v k : ℕ) → bit_at (lowest_clear n v) k ≡ 1 → bit_at v k ≡ 0
unfolding lowest_clear
lowest_clear-clear n v k set = lowest-clear 24 n v k set

pub lowest_clear-first : (n v j k : ℕ) → j < k → bit_at (lowest_clear n v) k ≡ 1
    → (bit_at v j ≡ 1) ⊎ (bit_at (lowest_clear n v) j ≡ 1)
unfolding lowest_clear
lowest_clear-first n v j k below set = lowest-first 24 n v j k below set
