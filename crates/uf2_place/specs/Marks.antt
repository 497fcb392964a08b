-- A bit for each number of a download and for each sector of the flash.
use Rattle.std.specs.Prelude.{◌≡◌, ℕ, ◌/◌, ◌%◌, ◌==◌, Bool, false, List, slice_index}
use Rattle.std.specs.Int.{bit_at}

-- the words with a bit for each number that is taken, and for each sector that is erased
pub record MarksView : Type 0 where
  pub numbers : List ℕ
  pub sectors : List ℕ

-- bit i of words of 64 bits, the lowest first
unfoldable pub is_marked : List ℕ → ℕ → Bool
is_marked words i = bit_at (slice_index words (i / 64)) (i % 64) == 1

-- no bit is set
pub record HasNoMark (marks : MarksView) : Type 0 where
  pub numbers : (i : ℕ) → is_marked marks.numbers i ≡ false
  pub sectors : (i : ℕ) → is_marked marks.sectors i ≡ false
