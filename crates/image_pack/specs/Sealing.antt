-- The text of a sealed image: the binary, filled to whole words, and after it a new block that the
-- binary's loop is linked to. The items are of the RP2350 Datasheet, chapter 5 (Bootrom, "Image
-- definition items"). Which of them are written, and their order, is this project's own.
use Rattle.std.specs.Prelude.{ℕ, pos, ℤ, ◌+◌, ◌-◌, ◌*◌, ◌==◌, ◌-ℤ◌, Bool, false, if◌then◌else◌, List, [], ◌∷◌, ◌++◌, length, take, drop, replicate, slice_get, slice_range, filter, map, Option, Some, None, Result, Ok, unwrap_or}
use Rattle.std.specs.List.{flat_map}
use Rattle.std.specs.Option.{option_or, option_map_or}
use Rattle.std.specs.Int.{cast_unsigned, w32}
use Rattle.std.specs.Result.{result_ok}
use Rattle.sha2.specs.Sha256.{sha256}
use Rattle.pico_board.specs.declared.boot.Cpu.{Cpu}
use Rattle.pico_board.specs.declared.boot.Cpu.TheVariants.{Arm, Riscv}
use Rattle.pico_board.specs.Content.{flash_base}
use Rattle.block_codec.specs.declared.items.Item.{Item}
use Rattle.block_codec.specs.declared.kinds.TheConstants.{ENTRY_POINT, HASH_VALUE, IMAGE_TYPE, LOAD_MAP, VECTOR_TABLE, VERSION}
use Rattle.block_codec.specs.declared.versions.Version.{Version}
use Rattle.block_codec.specs.Blocks.{BlockView, block_size, block_words, frame, start_word}
use Rattle.block_codec.specs.Items.{items_of}
use Rattle.block_codec.specs.Kinds.{item_of_kind, version_words}
use Rattle.block_codec.specs.Words.{bytes_of, word_bytes, words_of}
use Rattle.block_loop.specs.Loop.{loop_of}
use Rattle.load_map.specs.declared.load.Load.{Load}
use Rattle.load_map.specs.Addresses.{in_sram}
use Rattle.part_table.specs.Written.{hash_def_item, header}
use Rattle.image_check.specs.declared.why.Why.{Why}
use Rattle.image_check.specs.Addressing.{in_flash}
use Rattle.image_check.specs.Answers.{and_then}
use Rattle.image_check.specs.Image.{defined_in}
use Rattle.image_check.specs.Rules.{loop_answer, map_answer}
use Rattle.image_pack.specs.declared.parts.Parts.{Parts}
use Rattle.image_pack.specs.declared.spec.SealSpec.{SealSpec}
use Rattle.image_pack.specs.Filling.{whole_sectors, whole_words}

-- the words of an item of block b; none where there is no item
abbrev pub item_words_of : BlockView → Option Item → List ℕ
item_words_of b None = []
item_words_of b (Some item) = slice_range (block_words b) item.first (item.first + item.words)

-- the item that is copied: the ENTRY_POINT, or otherwise the VECTOR_TABLE
abbrev pub entry_item : List Item → Option Item
entry_item items = option_or (item_of_kind ENTRY_POINT items) (item_of_kind VECTOR_TABLE items)

-- the words of the copied item
abbrev pub copied_words : BlockView → List ℕ
copied_words b = item_words_of b (entry_item (items_of b.items))

-- the offset of a block, and of its link word; those of no block are 0
abbrev pub offset_of_block : Option BlockView → ℕ
offset_of_block block = option_map_or (λ (b : BlockView). b.at) block 0

abbrev pub link_offset_of : Option BlockView → ℕ
link_offset_of block = option_map_or (λ (b : BlockView). b.at + (block_size b - 8)) block 0

-- what a sealed image takes over from its binary, by the blocks of the binary's loop, its
-- definition's block and the loads of its map
abbrev pub parts_taken_over : List BlockView → BlockView → List Load → Parts
parts_taken_over loop b loads = record {
  first = offset_of_block (slice_get loop 0);
  last = offset_of_block (slice_get loop (length loop - 1));
  link_at = link_offset_of (slice_get loop (length loop - 1));
  entry = record { items = copied_words b };
  loads = record { items = loads };
}

-- what a sealed image takes over from a binary's bytes, in whole sectors, or the first rule that
-- they fail; the rules are those of a valid image from the first block to the items, and then the
-- rule on the load map
abbrev pub parts_in : Cpu → List ℕ → Result Parts Why
parts_in cpu bytes =
    and_then (loop_answer (loop_of bytes)) (λ loop.
    and_then (defined_in cpu bytes) (λ image.
    and_then (map_answer in_flash (length bytes) image.block image.def) (λ loads.
    Ok (parts_taken_over loop image.block loads))))

-- the flags of the IMAGE_TYPE item: an executable for the RP2350, for Arm a secure one, and the
-- trial bit
abbrev pub type_flags : Cpu → ℕ
type_flags Arm = 0x1021
type_flags Riscv = 0x1101

abbrev pub image_type_word : Cpu → Bool → ℕ
image_type_word cpu trial =
    IMAGE_TYPE + 256 * 1 + 65536 * type_flags cpu + (if trial then 0x80000000 else 0)

-- half words in words, two in each, the first one low; where the last word has one half alone, 0
-- fills it
abbrev pub packed : List ℕ → List ℕ
packed [] = []
packed (low ∷ []) = low ∷ []
packed (low ∷ high ∷ halves) = (low + 65536 * high) ∷ packed halves

-- the rollback version and the rows in half words; without rows none of them
abbrev pub row_halves : Option ℕ → List ℕ → List ℕ
row_halves rollback [] = []
row_halves rollback (row ∷ rows) = unwrap_or rollback 0 ∷ row ∷ rows

-- the VERSION item, with the number of its rows in the fourth byte of its header
abbrev pub version_item : Version → Option ℕ → List ℕ → List ℕ
version_item v rollback rows =
    header VERSION (version_words (length rows)) (length rows) ∷ (v.minor + 65536 * v.major)
    ∷ packed (row_halves rollback rows)

-- a load as the new map has it; the map's item stands at this offset: a storage that begins there
-- would get the relative offset 0, which says a clear entry
abbrev pub own_storage : ℕ → Option ℕ → Option ℕ
own_storage at None = None
own_storage at (Some x) = if x == at then None else Some x

abbrev pub own_load : ℕ → Load → Load
own_load at load =
    record { storage = own_storage at load.storage; runtime = load.runtime; size = load.size }

-- the load of the first `size` bytes where they are stored
abbrev pub load_in_place : ℕ → Load
load_in_place size = record { storage = Some 0; runtime = flash_base; size = size }

-- the loads that go into SRAM, in order
abbrev pub sram_loads : List Load → List Load
sram_loads loads = filter (λ (load : Load). in_sram load.runtime load.size) loads

-- the loads that go into SRAM, as the new map has them; the map's item stands at this offset
abbrev pub copied_loads : ℕ → List Load → List Load
copied_loads at loads = map (own_load at) (sram_loads loads)

-- the loads of the new block: the first `size` bytes, and then the loads of the binary that go
-- into SRAM; its LOAD_MAP item stands at this offset
abbrev pub own_loads : ℕ → ℕ → List Load → List Load
own_loads size at loads = load_in_place size ∷ copied_loads at loads

-- the first word of a relative entry: the signed offset of its storage from the LOAD_MAP item at
-- this offset; 0 for a clear entry
abbrev pub place_word : ℕ → Option ℕ → ℕ
place_word at None = 0
place_word at (Some x) = cast_unsigned w32 (pos x -ℤ pos at)

abbrev pub entry_words : ℕ → Load → List ℕ
entry_words at load = place_word at load.storage ∷ load.runtime ∷ load.size ∷ []

-- the relative LOAD_MAP item at this offset, with the number of its entries in the fourth byte of
-- its header
abbrev pub load_map_item : ℕ → List Load → List ℕ
load_map_item at loads =
    header LOAD_MAP (1 + 3 * length loads) (length loads) ∷ flat_map (entry_words at) loads

-- the items before the LOAD_MAP item: IMAGE_TYPE, VERSION and the copied one
abbrev pub front_items : SealSpec → Bool → List ℕ → List ℕ
front_items spec trial entry =
    image_type_word spec.cpu trial
    ∷ (version_item spec.version spec.rollback spec.rows.items ++ entry)

-- the offset of the LOAD_MAP item of a new block at this offset, after these items
abbrev pub map_offset : ℕ → List ℕ → ℕ
map_offset at front = at + 4 * (1 + length front)

-- the items before the HASH_VALUE item of a new block at this offset: those before the LOAD_MAP
-- item, that item with these loads, and HASH_DEF; HASH_DEF counts all words before the HASH_VALUE
-- item
abbrev pub with_map : ℕ → List ℕ → List Load → List ℕ
with_map at front own =
    let before = front ++ load_map_item (map_offset at front) own in
    before ++ hash_def_item (length before + 3)

-- the item words before the HASH_VALUE item, with this trial bit
unfoldable pub hashed_items : SealSpec → Bool → ℕ → List ℕ → List Load → List ℕ
hashed_items spec trial at entry own = with_map at (front_items spec trial entry) own

-- what a window has from x on; it begins with these bytes and is erased after them
abbrev pub erased_behind : List ℕ → ℕ → ℕ → List ℕ
erased_behind bytes x size = take size (drop x bytes ++ replicate size 255)

-- what the digest covers of a load of a new block after these bytes: its storage bytes, or the
-- size of a clear entry
abbrev pub covered_storage : List ℕ → Option ℕ → ℕ → List ℕ
covered_storage bytes None size = word_bytes size
covered_storage bytes (Some x) size = erased_behind bytes x size

abbrev pub covered_part : List ℕ → Load → List ℕ
covered_part bytes load = covered_storage bytes load.storage load.size

-- the bytes that the digest of a new block after these bytes covers: those of its loads, and then
-- its words before the HASH_VALUE item, with the trial bit read as 0
abbrev pub digest_text : SealSpec → List ℕ → List ℕ → List Load → List ℕ
digest_text spec bytes entry own =
    flat_map (covered_part bytes) own
    ++ bytes_of (start_word ∷ hashed_items spec false (length bytes) entry own)

-- the item words of a new block after these bytes with these own loads
abbrev pub items_with : SealSpec → List ℕ → List ℕ → List Load → List ℕ
items_with spec bytes entry own =
    hashed_items spec spec.trial (length bytes) entry own
    ++ header HASH_VALUE 9 0 ∷ words_of (sha256 (digest_text spec bytes entry own))

-- the item words of a new block after these bytes, with the copied item and the binary's loads
unfoldable pub sealed_items : SealSpec → List ℕ → List ℕ → List Load → List ℕ
sealed_items spec bytes entry loads =
    items_with spec bytes entry
    (own_loads (length bytes) (map_offset (length bytes) (front_items spec spec.trial entry)) loads)

-- the item words of the new block after these bytes, of a binary with these parts; a binary
-- without parts has nothing to copy and no loads
abbrev pub block_items : SealSpec → List ℕ → Option Parts → List ℕ
block_items spec bytes None = sealed_items spec bytes [] []
block_items spec bytes (Some parts) =
    sealed_items spec bytes parts.entry.items parts.loads.items

-- the new block's link to the first block of the binary's loop, from this offset; a binary without
-- parts has no loop, and the new block links to itself
abbrev pub block_link : ℕ → Option Parts → ℤ
block_link at None = pos 0
block_link at (Some parts) = pos parts.first -ℤ pos at

-- the new block after these bytes
abbrev pub new_block : SealSpec → List ℕ → Option Parts → List ℕ
new_block spec bytes parts =
    bytes_of (frame (block_items spec bytes parts) (block_link (length bytes) parts))

-- the bytes before the new block: the binary in whole words, with the link of the last block of
-- its loop to their end
unfoldable pub relinked : List ℕ → Option Parts → List ℕ
relinked bytes None = bytes
relinked bytes (Some parts) =
    take parts.link_at bytes
    ++ (word_bytes (length bytes - parts.last) ++ drop (parts.link_at + 4) bytes)

-- the sealed image of a binary in whole words with these parts
abbrev pub sealed_from : SealSpec → List ℕ → Option Parts → List ℕ
sealed_from spec bytes parts = relinked bytes parts ++ new_block spec (relinked bytes parts) parts

-- the sealed image of a binary by a spec, whatever the binary is: it judges nothing
unfoldable pub sealed_text : List ℕ → SealSpec → List ℕ
sealed_text binary spec =
    sealed_from spec (whole_words binary) (result_ok (parts_in spec.cpu (whole_sectors binary)))
