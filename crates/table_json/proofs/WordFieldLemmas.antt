-- The fields of the two words of a partition.
use Rattle.std.proofs.Common.{◌≡◌, ℕ, ◌+◌, ◌*◌, ◌/◌, ◌%◌, ◌^◌, ◌<◌, ◌≤◌, ◌==◌, Bool, true, false, arith, if◌then◌else◌}
use Rattle.table_json.specs.Families.{bit_if}
use Rattle.table_json.specs.Partitions.{location_word, marks_word, flag_word}

-- a bit as a number
abbrev pub one : Bool → ℕ
one set = if set then 1 else 0

one_less : (set : Bool) → one set ≤ 1
one_less true = omega arith
one_less false = omega arith

bit_is : (set : Bool) (bit : ℕ) → bit_if set bit ≡ bit * one set
bit_is true bit = omega arith
bit_is false bit = omega arith

one_back : (set : Bool) (n : ℕ) → n ≡ one set → (n == 1) ≡ set
one_back true n is = grind (arith, is)
one_back false n is = grind (arith, is)

module _ (first last permissions : ℕ) (a : first < 8192) (b : last < 8192) (c : permissions < 64) where
  pub first_back : location_word first last permissions % 2 ^ 13 ≡ first
  first_back = omega arith

  pub last_back : location_word first last permissions / 2 ^ 13 % 2 ^ 13 ≡ last
  last_back = omega arith

  pub permissions_back : location_word first last permissions / 2 ^ 26 % 2 ^ 6 ≡ permissions
  permissions_back = omega arith

-- a flag word of numbers
abbrev flags_of : ℕ → ℕ → ℕ → ℕ → ℕ → ℕ → ℕ → ℕ → ℕ → ℕ → ℕ
flags_of i k v e a r s n f p =
    i + (2 * k + 8 * v) + 128 * e + (512 * a + 1024 * r + 8192 * s) + 4096 * n + 16384 * f + 67108864 * p

module _ (identified named arm riscv stays : Bool) (kind value extra six permissions : ℕ)
    (small_kind : kind < 4) (small_value : value < 16) (few : extra ≤ 3) (small_six : six < 64)
    (small : permissions < 64) where
  abbrev pub flags : ℕ
  flags = flag_word identified (2 * kind + 8 * value) extra (marks_word arm riscv stays) named six permissions

  numbers : flags
      ≡ flags_of (one identified) kind value extra (one arm) (one riscv) (one stays) (one named) six permissions
  numbers =
      let i = bit_is identified 1 in
      let a = bit_is arm 512 in
      let r = bit_is riscv 1024 in
      let s = bit_is stays 8192 in
      let n = bit_is named 4096 in
      omega (arith, i, a, r, s, n)

  -- each field of the flag word is the number that it was made of
  pub record AreBack : Type 0 where
    pub kind_is : flags / 2 ^ 1 % 2 ^ 2 ≡ kind
    pub value_is : flags / 2 ^ 3 % 2 ^ 4 ≡ value
    pub six_is : flags / 2 ^ 14 % 2 ^ 6 ≡ six
    pub again_is : flags / 2 ^ 26 % 2 ^ 6 ≡ permissions
    pub arm_is : (flags / 2 ^ 9 % 2 == 1) ≡ arm
    pub riscv_is : (flags / 2 ^ 10 % 2 == 1) ≡ riscv
    pub stays_is : (flags / 2 ^ 13 % 2 == 1) ≡ stays

  pub flags_back : AreBack
  flags_back =
      let i = one_less identified in
      let a = one_less arm in
      let r = one_less riscv in
      let s = one_less stays in
      let n = one_less named in record {
        kind_is = omega (arith, numbers, i, a, r, s, n);
        value_is = omega (arith, numbers, i, a, r, s, n);
        six_is = omega (arith, numbers, i, a, r, s, n);
        again_is = omega (arith, numbers, i, a, r, s, n);
        arm_is = one_back arm (flags / 2 ^ 9 % 2) (omega (arith, numbers, i, a, r, s, n));
        riscv_is = one_back riscv (flags / 2 ^ 10 % 2) (omega (arith, numbers, i, a, r, s, n));
        stays_is = one_back stays (flags / 2 ^ 13 % 2) (omega (arith, numbers, i, a, r, s, n));
      }
