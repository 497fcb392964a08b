-- What a view shows.
use Rattle.std.specs.Prelude.{ℕ, ◌<◌, ◌≤◌, length, List, All}
use Rattle.pico_board.specs.declared.window.TheConstants.{MOST_FLASH_BYTES}

-- a view has at most as many elements as a flash has bytes, and each of them is a byte
pub record IsViewed (xs : List ℕ) : Type 0 where
  pub short : length xs ≤ MOST_FLASH_BYTES
  pub bytes : All (λ b. b < 256) xs
