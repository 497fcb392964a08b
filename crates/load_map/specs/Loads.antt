-- The entries of a LOAD_MAP item. Source: RP2350 Datasheet, chapter 5, Bootrom, "Load map".
use Rattle.std.specs.Prelude.{ℕ, zero, suc, ◌+◌, ◌*◌, ◌%◌, ◌==◌, ◌&&◌, nat_le, Bool, IsTrue, List, [], ◌∷◌, slice_index, slice_get, IsSomeAnd}
use Rattle.block_codec.specs.Blocks.{BlockView}
use Rattle.block_codec.specs.Items.{items_of}
use Rattle.block_codec.specs.Kinds.{is_of_kind}
use Rattle.block_codec.specs.declared.items.Item.{Item}
use Rattle.block_codec.specs.declared.kinds.TheConstants.{LOAD_MAP}
use Rattle.load_map.specs.declared.entry.Entry.{Entry}

-- the number of entries of a LOAD_MAP item: bits 0 to 6 of its fourth header byte
abbrev pub entry_count : Item → ℕ
entry_count item = item.high % 128

-- the entries of a LOAD_MAP item have absolute addresses: bit 7 of its fourth header byte
abbrev pub is_absolute : Item → Bool
is_absolute item = nat_le 128 item.high

-- the item is a LOAD_MAP, in either spelling, with three words for each entry
abbrev pub is_load_map : Item → Bool
is_load_map item = is_of_kind LOAD_MAP item && item.words == 1 + 3 * entry_count item

-- the block's item at place k is a LOAD_MAP with three words for each entry
abbrev pub IsMapAt : BlockView → ℕ → Type 0
IsMapAt b k = IsSomeAnd (slice_get (items_of b.items) k) (λ item. IsTrue (is_load_map item))

-- the entry whose three words begin at a place among a block's words: the place of its storage, or
-- 0 for a clear entry; the runtime address; and its size, or the end of its storage
abbrev pub entry_at : List ℕ → ℕ → Entry
entry_at words place = record {
  place = slice_index words place;
  runtime = slice_index words (place + 1);
  extent = slice_index words (place + 2);
}

-- k entries of three words each, of which the first begins at a place among a block's words
abbrev pub entries_from : List ℕ → ℕ → ℕ → List Entry
entries_from words place zero = []
entries_from words place (suc k) = entry_at words place ∷ entries_from words (place + 3) k

-- the entries of a LOAD_MAP item among the words of its block
abbrev pub entries_of : List ℕ → Item → List Entry
entries_of words item = entries_from words (item.first + 1) (entry_count item)
