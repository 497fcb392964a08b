-- Rollback rows of the OTP and what counts as raised in them. The rows stand three by three.
-- Source: RP2350 Datasheet, chapter 5, Bootrom, and chapter 13, OTP: a vote of three copies. The
-- count over listed rows is this project's own.
use Rattle.std.specs.Prelude.{◌≡◌, ◌⊎◌, ℕ, ◌+◌, ◌*◌, ◌<◌, ◌≤◌, List, length, All, AllPairs, slice_index, bit_and, bit_or, count_ones, sum_by}
use Rattle.pico_board.specs.Steps.{HasBitsOf}
use Rattle.otp_roll.specs.declared.rows.TheConstants.{FIRST_ROW, LAST_ROW}

-- the number whose set bits are those that at least two of three numbers have
abbrev pub majority_of : ℕ → ℕ → ℕ → ℕ
majority_of a b c = bit_or (bit_and a b) (bit_or (bit_and a c) (bit_and b c))

-- the majority of the triple of rows r, r + 1 and r + 2
abbrev pub majority : List ℕ → ℕ → ℕ
majority otp r =
    majority_of (slice_index otp r) (slice_index otp (r + 1)) (slice_index otp (r + 2))

-- the triple of row r holds these three values
pub record HoldsTriple (otp : List ℕ) (r a b c : ℕ) : Type 0 where
  pub first : slice_index otp r ≡ a
  pub second : slice_index otp (r + 1) ≡ b
  pub third : slice_index otp (r + 2) ≡ c

-- the number of set bits in the majorities of the listed rows
abbrev pub count : List ℕ → List ℕ → ℕ
count otp rows = sum_by (λ r. count_ones (majority otp r)) rows

-- two listed rows whose triples share no row
abbrev pub AreRowsApart : ℕ → ℕ → Type 0
AreRowsApart r s = (r + 3 ≤ s) ⊎ (s + 3 ≤ r)

-- what an image may list: at most 32 rows, from `FIRST_ROW` to `LAST_ROW`; any two of them differ
-- by at least 3
pub record AreRollbackRows (rows : List ℕ) : Type 0 where
  pub few : length rows ≤ 32
  pub in_range : All (λ r. (FIRST_ROW ≤ r) × (r ≤ LAST_ROW)) rows
  pub apart : AllPairs AreRowsApart rows

-- a rollback version is at most 24 times the number of its rows
abbrev pub IsRollbackVersion : ℕ → List ℕ → Type 0
IsRollbackVersion version rows = version ≤ 24 * length rows

-- row i is none of the three rows from r on
abbrev pub IsOutside : ℕ → ℕ → Type 0
IsOutside i r = (i < r) ⊎ (r + 3 ≤ i)

-- the new rows have every bit of the old ones
pub record Rises (old new : List ℕ) : Type 0 where
  pub bits : (i : ℕ) → HasBitsOf (slice_index new i) (slice_index old i)
