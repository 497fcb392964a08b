-- Rows of the OTP.
use Rattle.std.specs.Prelude.{ℕ, ◌^◌, ◌<◌, ◌≤◌, List, All, length, slice_index, take}

-- the lowest row of more than 24 bits
pub record IsFirstWide (rows : List ℕ) (row : ℕ) : Type 0 where
  pub inside : row < length rows
  pub wide : 2 ^ 24 ≤ slice_index rows row
  pub least : All (λ v. v < 2 ^ 24) (take row rows)
