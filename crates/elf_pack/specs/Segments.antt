-- The segments of an ELF file: the program headers that ask for bytes of the file to be loaded.
-- Source: Tool Interface Standard, Executable and Linking Format, version 1.2, "Program Header".
-- This project's own: a header with no byte in the file is no segment.
use Rattle.std.specs.Prelude.{ℕ, ◌+◌, ◌-◌, ◌*◌, ◌==◌, ◌&&◌, nat_le, nat_lt, Bool, if◌then◌else◌, List, slice_index, slice_range, filter_map, Option, Some, None}
use Rattle.std.specs.List.{range_with_len}
use Rattle.pico_board.specs.declared.window.TheConstants.{MOST_FLASH_BYTES}
use Rattle.pico_board.specs.Content.{flash_base}
use Rattle.load_map.specs.Addresses.{in_sram}
use Rattle.elf_pack.specs.declared.segment.Segment.{Segment}
use Rattle.elf_pack.specs.Fields.{header_count, headers_at, word_at}

-- the offset of program header i; each has 32 bytes
abbrev pub header_at : List ℕ → ℕ → ℕ
header_at elf i = headers_at elf + 32 * i

-- the header asks for bytes to be loaded, and has some bytes in the file: its type is 1 (PT_LOAD)
abbrev pub is_segment : List ℕ → ℕ → Bool
is_segment elf i =
    word_at elf (header_at elf i) == 1 && nat_lt 0 (word_at elf (header_at elf i + 16))

-- what the header says: the offset of its bytes in the file, their physical address and their
-- number in the file
abbrev pub segment_of : List ℕ → ℕ → Segment
segment_of elf i = record {
  number = i;
  offset = word_at elf (header_at elf i + 4);
  address = word_at elf (header_at elf i + 12);
  size = word_at elf (header_at elf i + 16);
}

-- the segment of program header i, where it is one
unfoldable pub segment_at : List ℕ → ℕ → Option Segment
segment_at elf i = if is_segment elf i then Some (segment_of elf i) else None

-- the segments of the file, in the order of their headers
abbrev pub segments : List ℕ → List Segment
segments elf = filter_map (segment_at elf) (range_with_len 0 (header_count elf))

-- the bytes of a segment
abbrev pub segment_bytes : List ℕ → Segment → List ℕ
segment_bytes elf s = slice_range elf s.offset (s.offset + s.size)

-- the segment has a byte at this address
abbrev pub segment_has_address : ℕ → Segment → Bool
segment_has_address address s = nat_le s.address address && nat_lt address (s.address + s.size)

-- the segment's byte at an address that it holds
abbrev pub byte_of : List ℕ → ℕ → Segment → ℕ
byte_of elf address s = slice_index elf (s.offset + (address - s.address))

-- the address after the last one of the greatest flash
abbrev pub flash_end : ℕ
flash_end = flash_base + MOST_FLASH_BYTES

-- the segment lies wholly in the addresses of flash
abbrev pub is_segment_in_flash : Segment → Bool
is_segment_in_flash s = nat_le flash_base s.address && nat_le (s.address + s.size) flash_end

-- the segment lies wholly in SRAM
abbrev pub is_in_sram : Segment → Bool
is_in_sram s = in_sram s.address s.size
