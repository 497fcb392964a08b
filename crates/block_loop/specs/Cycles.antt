-- Loops that lead through the same places.
use Rattle.std.specs.Prelude.{◌≡◌, ℕ, List, length, slice_get, Some}
use Rattle.block_codec.specs.Blocks.{BlockView, BlockAt}

-- the blocks stand at the same offset and lead to the same one
pub record IsLike (b c : BlockView) : Type 0 where
  pub place : c.at ≡ b.at
  pub link : c.link ≡ b.link

-- the lists have as many blocks, each at the same offset and with the same link
pub record IsSameCycle (bs cs : List BlockView) : Type 0 where
  pub count : length cs ≡ length bs
  pub each : (k : ℕ) (b c : BlockView) → slice_get bs k ≡ Some b → slice_get cs k ≡ Some c
      → IsLike b c

-- the first of the blocks cs stands where one of the blocks bs does
pub record BeginsAmong (bs cs : List BlockView) : Type 0 where
  pub begins : (c : BlockView) → slice_get cs 0 ≡ Some c
      → (i : ℕ) × (b : BlockView) × (slice_get bs i ≡ Some b) × (c.at ≡ b.at)

-- the blocks that stand in v at the offsets of the blocks bs have their links
pub record KeepsLinks (bs : List BlockView) (v : List ℕ) : Type 0 where
  pub links : (i : ℕ) (b c : BlockView) → slice_get bs i ≡ Some b → BlockAt v b.at c
      → c.link ≡ b.link
