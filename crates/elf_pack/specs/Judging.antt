-- The first fault of an ELF file as a function, which judges in the order of the fault's variants.
use Rattle.std.specs.Prelude.{ℕ, ◌+◌, ◌*◌, ◌==◌, ◌&&◌, ◌||◌, not, nat_le, nat_lt, Bool, if◌then◌else◌, List, [], ◌∷◌, length, take, find, bytes_eq, Option, Some, None}
use Rattle.std.specs.Option.{option_map, option_or}
use Rattle.pico_board.specs.declared.boot.Cpu.{Cpu}
use Rattle.elf_pack.specs.declared.fault.ElfFault.{ElfFault}
use Rattle.elf_pack.specs.declared.fault.ElfFault.TheVariants.{NotElf, FileType, Processor, Headers, Segment, Empty, TooMany, Mixed, Overlap}
use Rattle.elf_pack.specs.declared.segment.Segment.{Segment as OneSegment}
use Rattle.elf_pack.specs.Fields.{file_type, header_count, header_size, headers_at, identification, machine, machine_of}
use Rattle.elf_pack.specs.Segments.{is_segment_in_flash, is_in_sram, segments}

-- the file has an ELF header of 52 bytes, and begins with the identification
abbrev pub is_elf : List ℕ → Bool
is_elf elf = nat_le 52 (length elf) && bytes_eq (take 7 elf) identification

-- there are no program headers, or each has 32 bytes and all lie in the file
abbrev pub are_headers_inside : List ℕ → Bool
are_headers_inside elf =
    header_count elf == 0
    || (header_size elf == 32 && nat_le (headers_at elf + 32 * header_count elf) (length elf))

-- the fault of the header of the file
unfoldable pub head_fault : Cpu → List ℕ → Option ElfFault
head_fault cpu elf =
    if not (is_elf elf) then Some NotElf
    else (if not (file_type elf == 2) then Some FileType
    else (if not (machine elf == machine_of cpu) then Some Processor
    else (if not (are_headers_inside elf) then Some Headers else None)))

-- the bytes of a segment leave a file of n bytes, or the segment lies neither wholly in flash nor
-- wholly in SRAM
abbrev pub is_misplaced_segment : ℕ → OneSegment → Bool
is_misplaced_segment n s = not (nat_le (s.offset + s.size) n
    && (is_segment_in_flash s || is_in_sram s))

-- the first misplaced segment of a file of n bytes
unfoldable pub misplaced_fault : ℕ → List OneSegment → Option ElfFault
misplaced_fault n xs = option_map (λ (s : OneSegment). Segment s.number)
    (find (is_misplaced_segment n) xs)

-- there is no segment, or there are more than 29
unfoldable pub count_fault : List OneSegment → Option ElfFault
count_fault xs =
    if length xs == 0 then Some Empty
    else (if nat_lt 29 (length xs) then Some (TooMany (length xs)) else None)

-- one of two segments lies in flash, and the other does not
abbrev pub are_mixed : OneSegment → OneSegment → Bool
are_mixed first s = if is_segment_in_flash first then not
    (is_segment_in_flash s) else is_segment_in_flash s

-- the first segment that does not lie where the first one of all does
unfoldable pub mixed_fault : List OneSegment → Option ElfFault
mixed_fault [] = None
mixed_fault (first ∷ rest) =
    option_map (λ (s : OneSegment). Mixed s.number) (find (are_mixed first) rest)

-- two segments share an address, where each has a byte
abbrev pub do_overlap : OneSegment → OneSegment → Bool
do_overlap s t = nat_lt s.address (t.address + t.size) && nat_lt t.address (s.address + s.size)

-- the first segment that shares an address with a later one, and the first such later one
unfoldable pub segment_overlap_fault : List OneSegment → Option ElfFault
segment_overlap_fault [] = None
segment_overlap_fault (s ∷ rest) =
    option_or
    (option_map (λ (t : OneSegment). Overlap s.number t.number) (find (do_overlap s) rest))
    (segment_overlap_fault rest)

-- the first fault of the segments of a file of n bytes
unfoldable pub segments_fault : ℕ → List OneSegment → Option ElfFault
segments_fault n xs =
    option_or (misplaced_fault n xs)
    (option_or (count_fault xs) (option_or (mixed_fault xs) (segment_overlap_fault xs)))

-- the first fault of an ELF file for a processor
abbrev pub elf_fault : Cpu → List ℕ → Option ElfFault
elf_fault cpu elf = option_or (head_fault cpu elf) (segments_fault (length elf) (segments elf))
