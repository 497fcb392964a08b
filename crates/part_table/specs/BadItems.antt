-- Which items of a block make no table, as rules; Contents says the same as functions. This
-- project's own where the public source is open.
use Rattle.std.specs.Prelude.{◌≡◌, ◌≢◌, ◌⊎◌, ℕ, zero, suc, ◌+◌, ◌%◌, ◌<◌, true, List, [], ◌∷◌, length, drop, slice_get, slice_index, Some}
use Rattle.block_codec.specs.declared.items.Item.{Item}
use Rattle.block_codec.specs.declared.kinds.TheConstants.{HASH_DEF, HASH_VALUE, PARTITION_TABLE, VERSION}
use Rattle.block_codec.specs.Kinds.{is_of_kind, version_words}
use Rattle.block_codec.specs.Words.{low_half}
use Rattle.part_table.specs.Contents.{body_of}
use Rattle.part_table.specs.Partitions.{partition_words}

-- x is the item at place i, and of this kind
abbrev pub IsOfKindAt : List Item → ℕ → ℕ → Item → Type 0
IsOfKindAt items kind i x = (slice_get items i ≡ Some x) × (is_of_kind kind x ≡ true)

-- x is an item of this kind
abbrev pub HasItem : List Item → ℕ → Item → Type 0
HasItem items kind x = (i : ℕ) × IsOfKindAt items kind i x

-- there is no item of this kind
abbrev pub HasNoItem : List Item → ℕ → Type 0
HasNoItem items kind = (x : Item) → HasItem items kind x → ⊥

-- two items are of this kind
pub record StandsTwice (items : List Item) (kind : ℕ) : Type 0 where
  pub place : ℕ
  pub later : ℕ
  pub one : Item
  pub other : Item
  pub apart : place < later
  pub first : IsOfKindAt items kind place one
  pub second : IsOfKindAt items kind later other

-- an item of this kind is wrong
abbrev pub HasWrong : List Item → ℕ → (Item → Type 0) → Type 0
HasWrong items kind IsWrong = (x : Item) × HasItem items kind x × IsWrong x

-- a VERSION item has another size than its number of rows asks for (RP2350 Datasheet, chapter 5,
-- Bootrom)
abbrev pub IsWrongVersion : Item → Type 0
IsWrongVersion x = x.words ≢ version_words x.high

-- a HASH_DEF item does not have two words, or names another hash than SHA-256 (RP2350 Datasheet,
-- chapter 5, Bootrom)
abbrev pub IsWrongHashDef : Item → Type 0
IsWrongHashDef x = (x.words ≢ 2) ⊎ (x.high ≢ 1)

-- a HASH_VALUE item does not have nine words (RP2350 Datasheet, chapter 5, Bootrom)
abbrev pub IsWrongHashValue : Item → Type 0
IsWrongHashValue x = x.words ≢ 9

-- the number of hashed words in a HASH_DEF item (RP2350 Datasheet, chapter 5, Bootrom)
abbrev pub told_words : List ℕ → Item → ℕ
told_words words x = low_half (slice_index words (x.first + 1))

-- a HASH_VALUE has no HASH_DEF; or the hashed words pass the word at which the HASH_VALUE begins;
-- or there is no HASH_VALUE, and they pass the block
abbrev pub IsMisplacedHash : List ℕ → List Item → Type 0
IsMisplacedHash words items =
    ((value : Item) × HasItem items HASH_VALUE value × HasNoItem items HASH_DEF)
    ⊎ ((value : Item) × (def : Item) × HasItem items HASH_VALUE value × HasItem items HASH_DEF def
    × (value.first < told_words words def))
    ⊎ ((def : Item) × HasNoItem items HASH_VALUE × HasItem items HASH_DEF def
    × (length words < told_words words def))

-- so many partitions, one after the other, fill the words exactly
abbrev pub Fill : ℕ → List ℕ → Type 0
Fill zero ws = ws ≡ []
Fill (suc n) ws = (size : ℕ) × (partition_words ws ≡ Some size) × Fill n (drop size ws)

-- the fields of a table fill the words after a PARTITION_TABLE header exactly: the unpartitioned
-- word, and then the partitions; the low four bits of the header's fourth byte are their number
abbrev pub AreFilled : ℕ → List ℕ → Type 0
AreFilled high [] = ⊥
AreFilled high (word ∷ ws) = Fill (high % 16) ws

-- a table's fields do not fill its PARTITION_TABLE item
abbrev pub IsUnfilled : List ℕ → Item → Type 0
IsUnfilled words x = AreFilled x.high (body_of words x) → ⊥

-- one of the four kinds stands twice
abbrev pub IsRepeatedKind : List Item → Type 0
IsRepeatedKind items =
    StandsTwice items PARTITION_TABLE ⊎ StandsTwice items VERSION ⊎ StandsTwice items HASH_DEF
    ⊎ StandsTwice items HASH_VALUE

-- an item of one of the other three kinds has a wrong size or header
abbrev pub HasWrongItem : List Item → Type 0
HasWrongItem items =
    HasWrong items VERSION IsWrongVersion ⊎ HasWrong items HASH_DEF IsWrongHashDef
    ⊎ HasWrong items HASH_VALUE IsWrongHashValue

-- a block's items say no table: a kind stands twice; an item has a wrong size or header; the hash
-- is misplaced; the fields do not fill their item; or there is no PARTITION_TABLE item
abbrev pub HasBadItem : List ℕ → List Item → Type 0
HasBadItem words items =
    IsRepeatedKind items ⊎ HasWrongItem items ⊎ IsMisplacedHash words items
    ⊎ HasWrong items PARTITION_TABLE (IsUnfilled words) ⊎ HasNoItem items PARTITION_TABLE
