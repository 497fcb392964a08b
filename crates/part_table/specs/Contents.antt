-- What a block with a PARTITION_TABLE item says.
use Rattle.std.specs.Prelude.{ℕ, Bool, true, false, ◌+◌, ◌%◌, ◌||◌, List, [], ◌∷◌, length, take, nat_le, nat_lt, not, if◌then◌else◌, slice_range, is_none, unwrap_or, bytes_eq}
use Rattle.std.specs.Prelude.{Option, None, Some, option_map, option_and_then, Result, Ok, Err}
use Rattle.std.specs.Option.{option_map_or}
use Rattle.sha2.specs.Sha256.{sha256}
use Rattle.block_codec.specs.declared.items.Item.{Item}
use Rattle.block_codec.specs.declared.kinds.TheConstants.{HASH_DEF, HASH_VALUE, PARTITION_TABLE, VERSION}
use Rattle.block_codec.specs.declared.versions.Version.{Version}
use Rattle.block_codec.specs.Words.{bytes_of}
use Rattle.block_codec.specs.Kinds.{item_of_kind, items_of_kind, version_of, hash_count_of, digest_of}
use Rattle.part_table.specs.declared.hashes.StatedHash.{StatedHash}
use Rattle.part_table.specs.declared.table.Table.{Table}
use Rattle.part_table.specs.declared.table.TableFault.{TableFault}
use Rattle.part_table.specs.declared.table.TableFault.TheVariants.{BadItem}
use Rattle.part_table.specs.Fields.{has_bit}
use Rattle.part_table.specs.Partitions.{partitions_in}

-- the body of an item is its words after the header (RP2350 Datasheet, chapter 5, Bootrom)
abbrev pub body_of : List ℕ → Item → List ℕ
body_of words x = slice_range words (x.first + 1) (x.first + x.words)

-- header byte 3 of a PARTITION_TABLE item has the singleton bit and the number of partitions; then
-- come the unpartitioned word and the partitions, which fill the item exactly (RP2350 Datasheet,
-- chapter 5, Bootrom)
abbrev pub table_from : Version → ℕ → List ℕ → Option Table
table_from v high [] = None
table_from v high (word ∷ ws) =
    option_map (λ ps. record {
      version = v;
      singleton = has_bit high 7;
      unpartitioned = word;
      parts = record { items = ps };
    })
    (partitions_in (high % 16) ws)

-- a kind is repeated where the block has two items of it or more
abbrev pub is_repeated : List Item → ℕ → Bool
is_repeated items kind = nat_le 2 (length (items_of_kind kind items))

-- an item is misread where the reader of its kind refuses its size or its header (RP2350
-- Datasheet, chapter 5, Bootrom)
abbrev pub is_misread : {A : Type 0} → (Item → Option A) → Option Item → Bool
is_misread read None = false
is_misread read (Some x) = is_none (read x)

-- a kind is bad where it is repeated or its item is misread
abbrev pub is_bad : {A : Type 0} → (Item → Option A) → ℕ → List Item → Bool
is_bad read kind items = is_repeated items kind || is_misread read (item_of_kind kind items)

-- what the item of a kind says, if there is one
abbrev pub said : {A : Type 0} → (Item → Option A) → ℕ → List Item → Option A
said read kind items = option_and_then read (item_of_kind kind items)

-- the number of hashed words is the HASH_DEF's (RP2350 Datasheet, chapter 5, Bootrom)
abbrev pub hash_count : List ℕ → List Item → Option ℕ
hash_count words items = said (hash_count_of words) HASH_DEF items

-- a digest is misplaced where no HASH_DEF has its number of words, or these words pass the word at
-- which the HASH_VALUE item begins; without a HASH_VALUE item the words may not pass the block
abbrev pub is_misplaced_digest : ℕ → Option Item → Option ℕ → Bool
is_misplaced_digest size None None = false
is_misplaced_digest size None (Some count) = nat_lt size count
is_misplaced_digest size (Some value) None = true
is_misplaced_digest size (Some value) (Some count) = nat_lt value.first count

-- the hash of a block is bad where HASH_DEF or HASH_VALUE is, or the digest is misplaced
abbrev pub has_bad_hash : List ℕ → List Item → Bool
has_bad_hash words items =
    is_bad (hash_count_of words) HASH_DEF items
    || is_bad (digest_of words) HASH_VALUE items
    || is_misplaced_digest (length words) (item_of_kind HASH_VALUE items) (hash_count words items)

-- a table's version is that of the VERSION item in its block, and 0.0 where there is none
abbrev pub version_in : List ℕ → List Item → Version
version_in words items =
    unwrap_or (said (version_of words) VERSION items) (record { major = 0; minor = 0 })

-- the fields of a block's words and items are what its PARTITION_TABLE item says, with the
-- version; there are none where one of these two kinds is bad, where there is no PARTITION_TABLE
-- item, or where its partitions do not fill it exactly
abbrev pub fields_of_items : List ℕ → List Item → Option Table
fields_of_items words items =
    if is_repeated items PARTITION_TABLE || is_bad (version_of words) VERSION items then None
    else
    said (λ x. table_from (version_in words items) x.high (body_of words x)) PARTITION_TABLE items

-- the table of a block's words and items is its fields, where its hash is not bad
abbrev pub table_of_items : List ℕ → List Item → Option Table
table_of_items words items = if has_bad_hash words items then None else fields_of_items words items

-- the hash that a block states is the digest of its HASH_VALUE, with the number of words in its
-- HASH_DEF (RP2350 Datasheet, chapter 5, Bootrom)
abbrev pub stated_hash : List ℕ → List Item → Option StatedHash
stated_hash words items =
    option_map (λ bytes. record { words = unwrap_or (hash_count words items) 0; digest = bytes })
    (said (digest_of words) HASH_VALUE items)

-- a stated hash is wrong where its digest is not the SHA-256 of the block's first words, as many
-- as it states (RP2350 Datasheet, chapter 5, Bootrom)
abbrev pub is_wrong_hash : List ℕ → StatedHash → Bool
is_wrong_hash words hash = not (bytes_eq hash.digest (sha256 (bytes_of (take hash.words words))))

-- a block has a wrong hash where it states one that is wrong (RP2350 Datasheet, chapter 5,
-- Bootrom)
abbrev pub has_wrong_hash : List ℕ → List Item → Bool
has_wrong_hash words items = option_map_or (is_wrong_hash words) (stated_hash words items) false

-- the value, or BadItem where something is bad
abbrev pub ok_unless_bad : {A : Type 0} → Bool → A → Result A TableFault
ok_unless_bad true value = Err BadItem
ok_unless_bad false value = Ok value

-- the value that there is, and BadItem where there is none
abbrev pub ok_or_bad : {A : Type 0} → Option A → Result A TableFault
ok_or_bad None = Err BadItem
ok_or_bad (Some value) = Ok value
