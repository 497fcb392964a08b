-- The bytes that the digest of an image covers. Source: RP2350 Datasheet, chapter 5, Bootrom,
-- "HASH_DEF item": the load map's entries and the first words of the block are hashed. The order
-- and the trial bit are this project's own.
use Rattle.std.specs.Prelude.{ℕ, ◌+◌, ◌%◌, ◌^◌, ◌++◌, List, take, slice_index, slice_range, slice_set, Option, None, Some}
use Rattle.std.specs.List.{flat_map}
use Rattle.block_codec.specs.Blocks.{BlockView, block_words}
use Rattle.block_codec.specs.Words.{bytes_of, word_bytes}
use Rattle.block_codec.specs.declared.definition.Def.{Def}
use Rattle.sha2.specs.Sha256.{sha256}
use Rattle.load_map.specs.declared.load.Load.{Load}

-- the bytes of a storage of this size; the size itself, in four bytes, for a clear entry
abbrev pub covered_piece : List ℕ → Option ℕ → ℕ → List ℕ
covered_piece window None size = word_bytes size
covered_piece window (Some x) size = slice_range window x (x + size)

-- the covered bytes of a load
abbrev pub covered_load : List ℕ → Load → List ℕ
covered_load window load = covered_piece window load.storage load.size

-- an IMAGE_TYPE word with its trial bit, the topmost, read as 0
abbrev pub without_trial : ℕ → ℕ
without_trial word = word % 2 ^ 31

-- the words of a block with the trial bit of the IMAGE_TYPE word at place k read as 0
abbrev pub masked_words : List ℕ → ℕ → List ℕ
masked_words words k = slice_set words k (without_trial (slice_index words k))

-- the covered bytes: first of each load in order its storage bytes or its size; then the first
-- words of the definition's block, as many as are hashed, with the trial bit read as 0. An image
-- without a load map has no loads.
abbrev pub covered : List ℕ → List Load → BlockView → ℕ → ℕ → List ℕ
covered window loads b hash_words image_word =
    flat_map (covered_load window) loads
    ++ bytes_of (take hash_words (masked_words (block_words b) image_word))

-- the SHA-256 of the covered bytes of an image whose definition is `def`, of block b
unfoldable pub covered_digest : List ℕ → BlockView → Def → List Load → List ℕ
covered_digest window b def loads = sha256 (covered window loads b def.hash_words def.image_word)
