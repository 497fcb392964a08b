-- The binary of an ELF file, which can be sealed. For segments in flash the binary is what the
-- addresses of flash read as: an address map. For segments in SRAM it is an image whose load map
-- loads them (RP2350 Datasheet, chapter 5, Bootrom, "Load map" and "Entry point"). Its layout is
-- this project's own.
use Rattle.std.specs.Prelude.{ℕ, pos, ◌+◌, ◌-◌, ◌≤◌, max, Bool, false, if◌then◌else◌, List, [], ◌∷◌, ◌++◌, find, map, reverse, Option, Some, unwrap_or}
use Rattle.std.specs.List.{flat_map, range_with_len}
use Rattle.std.specs.Option.{option_map}
use Rattle.pico_board.specs.declared.boot.Cpu.{Cpu}
use Rattle.pico_board.specs.Content.{flash_base}
use Rattle.block_codec.specs.declared.kinds.TheConstants.{ENTRY_POINT}
use Rattle.block_codec.specs.Blocks.{frame}
use Rattle.block_codec.specs.Words.{bytes_of}
use Rattle.load_map.specs.declared.load.Load.{Load}
use Rattle.part_table.specs.Written.{header}
use Rattle.image_pack.specs.Filling.{padded, round_up, whole_words}
use Rattle.image_pack.specs.Sealing.{image_type_word, load_map_item}
use Rattle.elf_pack.specs.declared.segment.Segment.{Segment}
use Rattle.elf_pack.specs.Fields.{entry_address}
use Rattle.elf_pack.specs.Segments.{byte_of, segment_has_address, is_segment_in_flash, segment_bytes, segments}

-- the byte of the segments at an address: that of the last segment that holds the address, or
-- none; no two segments share an address
abbrev pub byte_in : List ℕ → List Segment → ℕ → Option ℕ
byte_in elf xs address = option_map (byte_of elf address)
    (find (segment_has_address address) (reverse xs))

-- the greatest end of the segments; that of none is the first address of flash
abbrev pub greatest_end : List Segment → ℕ
greatest_end [] = flash_base
greatest_end (s ∷ xs) = max (s.address + s.size) (greatest_end xs)

-- what the first n bytes of flash read as, where each address that no segment holds is erased
unfoldable pub flash_bytes : List ℕ → List Segment → ℕ → List ℕ
flash_bytes elf xs n =
    map (λ k. unwrap_or (byte_in elf xs (flash_base + k)) 255) (range_with_len 0 n)

-- a segment's bytes lie in a file of n bytes, and its addresses in the first m bytes of flash
abbrev pub FitsIn : ℕ → ℕ → Segment → Type 0
FitsIn n m s =
    (s.offset + s.size ≤ n) × (flash_base ≤ s.address) × (s.address + s.size ≤ flash_base + m)

-- the binary of segments in flash: all bytes from the first one of flash to their greatest end
abbrev pub flash_binary : List ℕ → List Segment → List ℕ
flash_binary elf xs = flash_bytes elf xs (greatest_end xs - flash_base)

-- the offset from which on segments in SRAM are stored; the block before them has at most 384
-- bytes
abbrev pub first_storage : ℕ
first_storage = 0x280

-- the loads of segments that are stored one after the other from an offset on, each in whole words
abbrev pub loads_from : ℕ → List Segment → List Load
loads_from at [] = []
loads_from at (s ∷ xs) =
    record { storage = Some at; runtime = s.address; size = s.size }
    ∷ loads_from (at + round_up 4 s.size) xs

-- the stack pointer at the start: the address after the last one of SRAM
abbrev pub first_stack : ℕ
first_stack = 0x20082000

-- the items before the load map: IMAGE_TYPE, and ENTRY_POINT with the file's entry
abbrev pub front_words : Cpu → ℕ → List ℕ
front_words cpu entry =
    image_type_word cpu false ∷ header ENTRY_POINT 3 0 ∷ entry ∷ first_stack ∷ []

-- the items of the block of segments in SRAM; the LOAD_MAP item stands after the start word and
-- four item words
unfoldable pub sram_items : Cpu → ℕ → List Segment → List ℕ
sram_items cpu entry xs = front_words cpu entry ++ load_map_item 20 (loads_from first_storage xs)

-- the binary of segments in SRAM: a block that links to itself, erased bytes up to the first
-- storage, and the segments' bytes in order, each in whole words
abbrev pub sram_binary : Cpu → List ℕ → List Segment → List ℕ
sram_binary cpu elf xs =
    padded first_storage (bytes_of (frame (sram_items cpu (entry_address elf) xs) (pos 0)))
    ++ flat_map (λ s. whole_words (segment_bytes elf s)) xs

-- whether the first segment lies in flash; in a file with a binary all segments then lie there
abbrev pub are_in_flash : List Segment → Bool
are_in_flash [] = false
are_in_flash (s ∷ xs) = is_segment_in_flash s

-- the binary of an ELF file without a fault
unfoldable pub elf_binary : Cpu → List ℕ → List ℕ
elf_binary cpu elf =
    let xs = segments elf in
    if are_in_flash xs then flash_binary elf xs else sram_binary cpu elf xs
