-- Majorities, counts and raises of triples whose three rows are written out.
use Rattle.std.proofs.Common.{◌≡◌, ℕ, zero, suc, ◌+◌, ◌-◌, ◌/◌, ◌%◌, ◌^◌, ◌<◌, List, [], ◌∷◌, ◌++◌, refl, ap, ◌∙◌, arith, pow-suc, lit<}
use Rattle.std.specs.Prelude.{min}
use Rattle.std.specs.Int.Count.{ones, ones_in, ones_step}
use Rattle.pico_board.specs.declared.Step.{Step}
use Rattle.pico_board.specs.declared.Step.TheVariants.{Raise}
use Rattle.otp_roll.specs.Rows.{HoldsTriple, majority, majority_of, count}
use Rattle.otp_roll.specs.Raises.{raises, lowest_clear, raise_lacking}

-- the raises of one listed row, over the values of its triple
abbrev raises_of : (r a b c version : ℕ) → List Step
raises_of r a b c version =
    let bits = lowest_clear (min (24 - ones (majority_of a b c)) (version - (0 + ones (majority_of a b c))))
    (majority_of a b c) in
    (raise_lacking bits a r ++ (raise_lacking bits b (r + 1) ++ raise_lacking bits c (r + 2))) ++ []

module _ (otp : List ℕ) (r a b c : ℕ) (holds : HoldsTriple otp r a b c) where
  pub majority-triple : majority otp r ≡ majority_of a b c
  majority-triple = rw (holds.first, holds.second, holds.third) refl

  pub count-triple : count otp (r ∷ []) ≡ 0 + ones (majority_of a b c)
  count-triple = rw (holds.first, holds.second, holds.third) refl

  pub raises-triple : (version : ℕ) → raises otp (r ∷ []) version ≡ raises_of r a b c version
  raises-triple version = rw (holds.first, holds.second, holds.third) refl

-- the number of set bits, found in so many digits
pub ones-digits : (k n : ℕ) → n < 2 ^ k → ones n ≡ ones_in k n
unfolding ones ones_in
ones-digits zero n small = let none : n ≡ 0 = omega arith in rw none refl
ones-digits (suc k) n small = ones_step n ∙ ap (λ m. n % 2 + m) (ones-digits k (n / 2) (omega (arith, pow-suc 2 k)))

-- the raises of two listed rows, over the values of their triples and the numbers of bits in their majorities
abbrev pub raises_of_two : (otp_r otp_s : ℕ) (a b c m x y z n version : ℕ) → List Step
raises_of_two r s a b c m x y z n version =
    let wanted : ℕ = version - (0 + m + n) in
    let first : ℕ = lowest_clear (min (24 - m) wanted) (majority_of a b c) in
    let second : ℕ = lowest_clear (min (24 - n) (wanted - min (24 - m) wanted)) (majority_of x y z) in
    (raise_lacking first a r ++ (raise_lacking first b (r + 1) ++ raise_lacking first c (r + 2)))
    ++ ((raise_lacking second x s ++ (raise_lacking second y (s + 1) ++ raise_lacking second z (s + 2))) ++ [])

pub raises-two : (otp : List ℕ) (r s a b c m x y z n version : ℕ) → HoldsTriple otp r a b c → HoldsTriple otp s x y z
    → ones (majority_of a b c) ≡ m → ones (majority_of x y z) ≡ n
    → raises otp (r ∷ s ∷ []) version ≡ raises_of_two r s a b c m x y z n version
raises-two otp r s a b c m x y z n version first second first_ones second_ones =
    rw (first.first, first.second, first.third, second.first, second.second, second.third, first_ones, second_ones)
    refl

-- the worked examples
pub count-three_equal : (otp : List ℕ) → HoldsTriple otp 0x0c0 3 3 3 → count otp (0x0c0 ∷ []) ≡ 2
unfolding ones ones_in
count-three_equal otp holds = count-triple otp 0x0c0 3 3 3 holds

pub raises-three_equal : (otp : List ℕ) → HoldsTriple otp 0x0c0 3 3 3
    → raises otp (0x0c0 ∷ []) 3 ≡ Raise 0x0c0 4 ∷ Raise 0x0c1 4 ∷ Raise 0x0c2 4 ∷ []
unfolding ones ones_in lowest_clear
raises-three_equal otp holds = raises-triple otp 0x0c0 3 3 3 holds 3

pub count-at_version : (otp : List ℕ) → HoldsTriple otp 0x0c0 7 7 7 → count otp (0x0c0 ∷ []) ≡ 3
unfolding ones ones_in
count-at_version otp holds = count-triple otp 0x0c0 7 7 7 holds

pub raises-at_version : (otp : List ℕ) → HoldsTriple otp 0x0c0 7 7 7 → raises otp (0x0c0 ∷ []) 3 ≡ []
unfolding ones ones_in lowest_clear
raises-at_version otp holds = raises-triple otp 0x0c0 7 7 7 holds 3

pub count-two_agree : (otp : List ℕ) → HoldsTriple otp 0x0c0 0xf 0xf 7 → count otp (0x0c0 ∷ []) ≡ 4
unfolding ones ones_in
count-two_agree otp holds = count-triple otp 0x0c0 0xf 0xf 7 holds

pub count-one_alone : (otp : List ℕ) → HoldsTriple otp 0x0c0 0xf 7 3 → count otp (0x0c0 ∷ []) ≡ 3
unfolding ones ones_in
count-one_alone otp holds = count-triple otp 0x0c0 0xf 7 3 holds

pub raises-one_alone : (otp : List ℕ) → HoldsTriple otp 0x0c0 0xf 7 3 → raises otp (0x0c0 ∷ []) 3 ≡ []
unfolding ones ones_in lowest_clear
raises-one_alone otp holds = raises-triple otp 0x0c0 0xf 7 3 holds 3

-- the majorities of the examples with two rows: 22 bits and none, 24 bits, 23 bits
ones-22 : ones 0xff_fff5 ≡ 22
unfolding ones_in
ones-22 = ones-digits 24 0xff_fff5 (lit< tt)

ones-24 : ones 0xff_ffff ≡ 24
unfolding ones_in
ones-24 = ones-digits 24 0xff_ffff (lit< tt)

ones-23 : ones 0x7f_ffff ≡ 23
unfolding ones_in
ones-23 = ones-digits 24 0x7f_ffff (lit< tt)

ones-none : ones 0 ≡ 0
unfolding ones_in
ones-none = ones-digits 1 0 (lit< tt)

module _ (otp : List ℕ) (first : HoldsTriple otp 0x0c3 0xff_fff5 0xff_fffd 0xff_fff5)
    (second : HoldsTriple otp 0x0c0 0 1 0) where
  pub raises-one_bit : raises otp (0x0c3 ∷ 0x0c0 ∷ []) 23 ≡ Raise 0x0c3 2 ∷ Raise 0x0c4 2 ∷ Raise 0x0c5 2 ∷ []
  unfolding lowest_clear
  raises-one_bit = raises-two otp 0x0c3 0x0c0 0xff_fff5 0xff_fffd 0xff_fff5 22 0 1 0 0 23 first second ones-22
      ones-none

  pub raises-two_bits : raises otp (0x0c3 ∷ 0x0c0 ∷ []) 24 ≡ Raise 0x0c3 0xa ∷ Raise 0x0c4 2 ∷ Raise 0x0c5 0xa ∷ []
  unfolding lowest_clear
  raises-two_bits = raises-two otp 0x0c3 0x0c0 0xff_fff5 0xff_fffd 0xff_fff5 22 0 1 0 0 24 first second ones-22
      ones-none

  pub raises-three_bits : raises otp (0x0c3 ∷ 0x0c0 ∷ []) 25
      ≡ Raise 0x0c3 0xa ∷ Raise 0x0c4 2 ∷ Raise 0x0c5 0xa ∷ Raise 0x0c0 1 ∷ Raise 0x0c2 1 ∷ []
  unfolding lowest_clear
  raises-three_bits = raises-two otp 0x0c3 0x0c0 0xff_fff5 0xff_fffd 0xff_fff5 22 0 1 0 0 25 first second ones-22
      ones-none

module _ (otp : List ℕ) (first : HoldsTriple otp 0x0c0 0xff_ffff 0xff_ffff 0) where
  pub raises-next : HoldsTriple otp 0x0c3 0 0 0
      → raises otp (0x0c0 ∷ 0x0c3 ∷ []) 25 ≡ Raise 0x0c3 1 ∷ Raise 0x0c4 1 ∷ Raise 0x0c5 1 ∷ []
  unfolding lowest_clear
  raises-next second = raises-two otp 0x0c0 0x0c3 0xff_ffff 0xff_ffff 0 24 0 0 0 0 25 first second ones-24 ones-none

  pub raises-last : HoldsTriple otp 0x0c3 0x7f_ffff 0x7f_ffff 0xff_ffff
      → raises otp (0x0c0 ∷ 0x0c3 ∷ []) 48 ≡ Raise 0x0c3 0x80_0000 ∷ Raise 0x0c4 0x80_0000 ∷ []
  unfolding lowest_clear
  raises-last second = raises-two otp 0x0c0 0x0c3 0xff_ffff 0xff_ffff 0 24 0x7f_ffff 0x7f_ffff 0xff_ffff 23 48 first
      second ones-24 ones-23
