-- The items of a block, by the headers of the RP2350 Datasheet (chapter 5, Bootrom, "Blocks and
-- block loops"): byte 0 of a header is the type byte; where its top bit is set, bytes 1 and 2 are
-- the size, otherwise byte 1 alone is. The size counts words with the header.
use Rattle.std.specs.Prelude.{◌≡◌, ◌≢◌, ℕ, zero, suc, ◌+◌, ◌-◌, ◌/◌, ◌%◌, ◌≤◌, nat_le, if◌then◌else◌, List, [], ◌∷◌, length, slice_index}
use Rattle.block_codec.specs.declared.items.Item.{Item}

-- the type byte of a header, its first byte
abbrev pub type_byte : ℕ → ℕ
type_byte h = h % 256

-- the third byte of a header
abbrev pub low_byte : ℕ → ℕ
low_byte h = h / 65536 % 256

-- the fourth byte of a header
abbrev pub high_byte : ℕ → ℕ
high_byte h = h / 16777216 % 256

-- the size in words that a header gives
unfoldable pub size_of : ℕ → ℕ
size_of h = if nat_le 128 (type_byte h) then h / 256 % 65536 else h / 256 % 256

-- k words of an item that has begun, and then whole items: each item begins with a header; the
-- header's type byte is not 0xff, its size n is at least 1, and the item has n words
abbrev pub AreItemsAfter : ℕ → List ℕ → Type 0
AreItemsAfter zero [] = Unit {0}
AreItemsAfter (suc k) [] = ⊥
AreItemsAfter zero (h ∷ ws) = (type_byte h ≢ 255) × (1 ≤ size_of h)
    × AreItemsAfter (size_of h - 1) ws
AreItemsAfter (suc k) (w ∷ ws) = AreItemsAfter k ws

-- the words are a list of items; `items_by_headers` says the same with `drop`
abbrev pub AreItems : List ℕ → Type 0
AreItems ws = AreItemsAfter 0 ws

-- the item whose header h stands at a word of its block
abbrev pub item_at : ℕ → ℕ → Item
item_at place h = record {
  first = place;
  words = size_of h;
  kind = type_byte h;
  low = low_byte h;
  high = high_byte h;
}

-- the items among words that stand at a place of their block, after k words of an item that has
-- begun
abbrev pub items_from : ℕ → ℕ → List ℕ → List Item
items_from place k [] = []
items_from place zero (h ∷ ws) = item_at place h ∷ items_from (place + 1) (size_of h - 1) ws
items_from place (suc k) (w ∷ ws) = items_from (place + 1) k ws

-- the items of a block's item words; the first of them stands at word 1 of the block
abbrev pub items_of : List ℕ → List Item
items_of ws = items_from 1 0 ws

-- what callers may assume of an item of these item words: where the item lies, and that the item
-- is what its header says
pub record IsItemOf (ws : List ℕ) (item : Item) : Type 0 where
  pub first : 1 ≤ item.first
  pub some : 1 ≤ item.words
  pub inside : item.first + item.words ≤ 1 + length ws
  pub kind : item.kind ≢ 255
  pub is : item ≡ item_at item.first (slice_index ws (item.first - 1))

-- the headers among words, after k words of an item that has begun
abbrev pub headers_from : ℕ → List ℕ → List ℕ
headers_from k [] = []
headers_from zero (h ∷ ws) = h ∷ headers_from (size_of h - 1) ws
headers_from (suc k) (w ∷ ws) = headers_from k ws

-- the headers of a block's items
abbrev pub headers_of : List ℕ → List ℕ
headers_of ws = headers_from 0 ws
