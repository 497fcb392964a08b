-- What image definitions and partition tables read alike in items: kinds under both spellings,
-- VERSION, HASH_DEF and HASH_VALUE (RP2350 Datasheet, chapter 5, Bootrom, "Common block items").
use Rattle.std.specs.Prelude.{ℕ, ◌+◌, ◌/◌, ◌==◌, ◌&&◌, if◌then◌else◌, List, slice_index, slice_range, filter, find, Bool, Option, Some, None}
use Rattle.block_codec.specs.declared.items.Item.{Item}
use Rattle.block_codec.specs.declared.kinds.TheConstants.{LOAD_MAP, HASH_VALUE, PARTITION_TABLE, LONG_LOAD_MAP, LONG_HASH_VALUE, LONG_PARTITION_TABLE}
use Rattle.block_codec.specs.declared.versions.Version.{Version}
use Rattle.block_codec.specs.Words.{bytes_of, low_half, high_half}

-- the first spelling of a type byte: LOAD_MAP, HASH_VALUE and PARTITION_TABLE have a second one,
-- with the top bit set; each other type byte is its own
abbrev pub first_spelling : ℕ → ℕ
first_spelling kind =
    if kind == LONG_LOAD_MAP then LOAD_MAP
    else (if kind == LONG_HASH_VALUE then HASH_VALUE
    else (if kind == LONG_PARTITION_TABLE then PARTITION_TABLE else kind))

-- an item is of this kind, which is named by its first spelling
abbrev pub is_of_kind : ℕ → Item → Bool
is_of_kind kind item = first_spelling item.kind == kind

-- the items of a kind, in order
abbrev pub items_of_kind : ℕ → List Item → List Item
items_of_kind kind items = filter (is_of_kind kind) items

-- the first item of a kind
abbrev pub item_of_kind : ℕ → List Item → Option Item
item_of_kind kind items = find (is_of_kind kind) items

-- the size in words of a VERSION item that lists this many rollback rows
abbrev pub version_words : ℕ → ℕ
version_words rows = if rows == 0 then 2 else 2 + (rows + 2) / 2

-- the version of a VERSION item among a block's words: minor in the low half of the word after the
-- header and major in the high half; the fourth header byte is the number of rows; None exactly
-- where the item's size is wrong
abbrev pub version_of : List ℕ → Item → Option Version
version_of words item =
    if item.words == version_words item.high
    then Some (record {
      major = high_half (slice_index words (item.first + 1));
      minor = low_half (slice_index words (item.first + 1));
    })
    else None

-- the number of hashed words of a HASH_DEF item among a block's words: the low half of the word
-- after the header; None exactly where its size is not 2 or its fourth header byte is not 1,
-- SHA-256
abbrev pub hash_count_of : List ℕ → Item → Option ℕ
hash_count_of words item =
    if item.words == 2 && item.high == 1
    then Some (low_half (slice_index words (item.first + 1)))
    else None

-- the 32 digest bytes of a HASH_VALUE item among a block's words, in order; None exactly where its
-- size is not 9
abbrev pub digest_of : List ℕ → Item → Option (List ℕ)
digest_of words item =
    if item.words == 9
    then Some (bytes_of (slice_range words (item.first + 1) (item.first + 9)))
    else None
