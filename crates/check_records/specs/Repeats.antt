-- Contents from which steps come to the same end.
use Rattle.std.specs.Prelude.{◌≡◌, ◌⊎◌, ℕ, ◌/◌, ◌==◌, ◌&&◌, Bool, true, false, List, length, slice_index}
use Rattle.std.specs.Int.{bit_at}
use Rattle.std.specs.List.{list_any}
use Rattle.pico_board.specs.declared.Step.{Step}
use Rattle.pico_board.specs.declared.Step.TheVariants.{Erase, Program, Raise}
use Rattle.pico_board.specs.Content.{Content}
use Rattle.check_records.specs.Unerased.{erases}

-- the step raises this bit of this row
abbrev pub raises_bit : ℕ → ℕ → Step → Bool
raises_bit row k (Raise r bits) = r == row && bit_at bits k == 1
raises_bit row k (Erase s) = false
raises_bit row k (Program p d) = false

-- d differs from c only in sectors that the steps erase, and in bits that a raise of theirs has in
-- that row
pub record DiffersOnlyIn (steps : List Step) (c d : Content) : Type 0 where
  pub flash : length d.flash ≡ length c.flash
  pub otp : length d.otp ≡ length c.otp
  pub bytes : (i : ℕ) → (slice_index d.flash i ≡ slice_index c.flash i)
      ⊎ (list_any (erases (i / 4096)) steps ≡ true)
  pub bits : (row k : ℕ) → (bit_at (slice_index d.otp row) k ≡ bit_at (slice_index c.otp row) k)
      ⊎ (list_any (raises_bit row k) steps ≡ true)
