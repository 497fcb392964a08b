-- The block that is written for a table: the items PARTITION_TABLE, VERSION, HASH_DEF and
-- HASH_VALUE with sizes of one byte, and link 0.
use Rattle.std.specs.Prelude.{◌≡◌, ℕ, ◌+◌, ◌-◌, ◌*◌, ◌/◌, ◌%◌, ◌^◌, List, [], ◌∷◌, ◌++◌, length, replicate, flat_map, is_some, if◌then◌else◌, pos}
use Rattle.std.specs.Prelude.{Option, None, Some, Ok, IfSome, true, ◌<◌, ◌≤◌, slice_index}
use Rattle.std.specs.List.{AllByRecursion}
use Rattle.arrayvec.specs.ArrayVec.{ArrayVec}
use Rattle.sha2.specs.Sha256.{sha256}
use Rattle.block_codec.specs.declared.versions.Version.{Version}
use Rattle.block_codec.specs.Blocks.{BlockView, start_word, frame}
use Rattle.block_codec.specs.Reading.{front_block}
use Rattle.block_codec.specs.Words.{bytes_of, words_of, AreWords}
use Rattle.part_table.specs.declared.partition.Partition.{Partition}
use Rattle.part_table.specs.declared.table.Table.{Table}
use Rattle.block_codec.specs.declared.kinds.TheConstants.{HASH_DEF, HASH_VALUE, PARTITION_TABLE, VERSION}
use Rattle.part_table.specs.Fields.{has_id, family_count, has_name}
use Rattle.part_table.specs.TableOf.{has_table, table_of}

-- a partition agrees with its flag word where the word says whether it has an id and a name, and
-- how many extra families
pub record AgreesWithFlags (p : Partition) : Type 0 where
  pub id : has_id p.flags ≡ is_some p.id
  pub families : family_count p.flags ≡ length p.families.items
  pub name : has_name p.flags ≡ is_some p.name

-- what is written for a partition is read again where the partition agrees with its flag word, and
-- its name is of at most 127 bytes
pub record IsReadablePartition (p : Partition) : Type 0 where
  pub agrees : AgreesWithFlags p
  pub short : IfSome p.name (λ name. length name.items < 128)
  pub bytes : IfSome p.name (λ name. (i : ℕ) → slice_index name.items i < 256)

-- a partition can be written where it is readable, and its words and its id are in their ranges
pub record IsWritablePartition (p : Partition) : Type 0 where
  pub readable : IsReadablePartition p
  pub location : p.location < 2 ^ 32
  pub flags : p.flags < 2 ^ 32
  pub id : IfSome p.id (λ id. id < 2 ^ 64)
  pub families : AreWords p.families.items

-- an id is written as two words, the low one first
abbrev pub written_id : Option ℕ → List ℕ
written_id None = []
written_id (Some id) = id % 2 ^ 32 ∷ id / 2 ^ 32 ∷ []

-- a name is written as its length in one byte, its bytes, and bytes 0 up to a whole word
abbrev pub padded_name : List ℕ → List ℕ
padded_name name = length name ∷ name ++ replicate (3 - length name % 4) 0

-- a name is written in whole words
abbrev pub written_name : Option (ArrayVec ℕ) → List ℕ
written_name None = []
written_name (Some name) = words_of (padded_name name.items)

-- a partition is written as its location word, its flag word, its id, its extra families and its
-- name
abbrev pub written_partition : Partition → List ℕ
written_partition p = p.location ∷ p.flags ∷ written_id p.id ++ p.families.items
    ++ written_name p.name

-- the header of an item with a size of one byte: the type byte, the size, a third byte 0 and the
-- fourth byte (RP2350 Datasheet, chapter 5, Bootrom)
abbrev pub header : ℕ → ℕ → ℕ → ℕ
header kind size high = kind + 256 * size + 16777216 * high

-- the body of the PARTITION_TABLE item is the unpartitioned word and then the partitions (RP2350
-- Datasheet, chapter 5, Bootrom)
abbrev pub table_body : Table → List ℕ
table_body t = t.unpartitioned ∷ flat_map written_partition t.parts.items

-- the fourth header byte of the PARTITION_TABLE item has the singleton bit and the number of
-- partitions (RP2350 Datasheet, chapter 5, Bootrom)
abbrev pub table_byte : Table → ℕ
table_byte t = (if t.singleton then 128 else 0) + length t.parts.items

-- the PARTITION_TABLE item is its header, with that byte, and its body (RP2350 Datasheet, chapter
-- 5, Bootrom)
abbrev pub table_item : Table → List ℕ
table_item t = header PARTITION_TABLE (1 + length (table_body t)) (table_byte t) ∷ table_body t

-- the VERSION item is written without rows, minor in the low half of its word and major in the
-- high half
abbrev pub bare_version_item : Version → List ℕ
bare_version_item v = header VERSION 2 0 ∷ (v.minor + 65536 * v.major) ∷ []

-- the HASH_DEF item counts these words of the block, for SHA-256 (RP2350 Datasheet, chapter 5,
-- Bootrom)
abbrev pub hash_def_item : ℕ → List ℕ
hash_def_item count = header HASH_DEF 2 1 ∷ count ∷ []

-- the words before the HASH_VALUE item are the start word, the table, its version and the
-- HASH_DEF; the HASH_DEF counts all of them
abbrev pub hashed_table_items : Table → List ℕ
hashed_table_items t = table_item t ++ bare_version_item t.version
    ++ hash_def_item (length (table_item t) + 5)

-- the item words of a table's block are the hashed ones and the HASH_VALUE item; its digest is the
-- SHA-256 of the start word and the hashed ones
abbrev pub written_items : Table → List ℕ
written_items t =
    hashed_table_items t
    ++ header HASH_VALUE 9 0 ∷ words_of (sha256 (bytes_of (start_word ∷ hashed_table_items t)))

-- the block that is written for a table has link 0
abbrev pub written_table : Table → List ℕ
written_table t = bytes_of (frame (written_items t) (pos 0))

-- the size of that block in bytes: it has the table's item, 13 words of the other items and four
-- of the frame
abbrev pub written_size : Table → ℕ
written_size t = 4 * (length (table_item t) + 17)

-- what is written for a table can be read as that table under these conditions: its partitions can
-- be read and are at most 15; its version has two halves of a word; its block has at most 640
-- bytes
pub record IsReadableTable (t : Table) : Type 0 where
  pub parts : AllByRecursion IsReadablePartition t.parts.items
  pub few : length t.parts.items ≤ 15
  pub major : t.version.major < 2 ^ 16
  pub minor : t.version.minor < 2 ^ 16
  pub fits : written_size t ≤ 640

-- a table can be written where it is readable, its partitions can be written and its unpartitioned
-- word is in its range
pub record IsWritableTable (t : Table) : Type 0 where
  pub readable : IsReadableTable t
  pub parts : AllByRecursion IsWritablePartition t.parts.items
  pub unpartitioned : t.unpartitioned < 2 ^ 32

-- bytes are read as a table in a flash of n sectors with m sectors before the first free one: a
-- block stands at their front, whatever follows them and wherever they stand, and this block has
-- that table
abbrev pub IsReadAs : List ℕ → Table → ℕ → ℕ → Type 0
IsReadAs bytes t n m =
    (at : ℕ) (rest : List ℕ)
    → (b : BlockView) × (front_block at (bytes ++ rest) ≡ Some b) × (has_table b ≡ true)
    × (table_of b n m ≡ Ok t)
