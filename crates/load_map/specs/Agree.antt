-- What the loads of an image, the bytes that they give and the covered bytes depend on.
use Rattle.std.specs.Prelude.{◌≡◌, ℕ, ◌+◌, ◌*◌, ◌<◌, ◌≤◌, List, length, slice_index, Contains, Some}
use Rattle.block_codec.specs.Blocks.{BlockView, block_words}
use Rattle.block_codec.specs.declared.items.Item.{Item}
use Rattle.load_map.specs.Covered.{masked_words}
use Rattle.load_map.specs.Loads.{entry_count}
use Rattle.load_map.specs.declared.load.Load.{Load}

-- a place in the storage of a load, which a clear entry lacks
abbrev pub IsStoredAt : Load → ℕ → Type 0
IsStoredAt load i =
    (start : ℕ) × (load.storage ≡ Some start) × (start ≤ i) × (i < start + load.size)

-- windows w and v are equally long and have the same bytes where these loads are stored
pub record AgreeOn (loads : List Load) (w v : List ℕ) : Type 0 where
  pub long : length v ≡ length w
  pub same : (load : Load) (i : ℕ) → Contains loads load → IsStoredAt load i
      → slice_index v i ≡ slice_index w i

-- blocks b and c stand at the same offset and are equally long; the words for the entries of this
-- LOAD_MAP item are the same in both
pub record HaveSameEntries (item : Item) (b c : BlockView) : Type 0 where
  pub at : c.at ≡ b.at
  pub size : length c.items ≡ length b.items
  pub words : (k : ℕ) → item.first < k → k ≤ item.first + 3 * entry_count item
      → slice_index (block_words c) k ≡ slice_index (block_words b) k

-- blocks b and c stand at the same offset and are equally long; their words are the same, but the
-- trial bit of the word at place k may differ
pub record SameButTrial (k : ℕ) (b c : BlockView) : Type 0 where
  pub at : c.at ≡ b.at
  pub size : length c.items ≡ length b.items
  pub words : masked_words (block_words c) k ≡ masked_words (block_words b) k
