-- Blocks that differ in their family alone.
-- Source: the UF2 specification (github.com/microsoft/uf2), section File format: the family is the
-- word at 28 of a block.
use Rattle.std.specs.Prelude.{◌≡◌, ℕ, List, take, slice_range}
use Rattle.uf2_place.specs.declared.block.Uf2.{Uf2}

-- the block with another family
abbrev pub with_family : Uf2 → ℕ → Uf2
with_family b family = record {
  flags = b.flags;
  address = b.address;
  number = b.number;
  count = b.count;
  family = family;
  page = b.page;
}

-- the bytes of which blocks are read are the same but for the word at 28
pub record SameButFamily (one other : List ℕ) : Type 0 where
  pub front : take 28 one ≡ take 28 other
  pub page : slice_range one 32 288 ≡ slice_range other 32 288
  pub end : slice_range one 508 512 ≡ slice_range other 508 512
