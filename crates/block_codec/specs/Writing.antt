-- Which item words are refused by a writer.
use Rattle.std.specs.Prelude.{◌≡◌, ℕ, ◌+◌, ◌<◌, ◌⊎◌, List, length, take, slice_index}
use Rattle.block_codec.specs.Items.{AreItems, type_byte, size_of}

-- whole items end at word i, and the item that begins there has type byte 0xff or size 0, or runs
-- past the end
pub record IsBadAt (words : List ℕ) (i : ℕ) : Type 0 where
  pub before : AreItems (take i words)
  pub inside : i < length words
  pub bad : (type_byte (slice_index words i) ≡ 255) ⊎ (size_of (slice_index words i) ≡ 0)
      ⊎ (length words < i + size_of (slice_index words i))
