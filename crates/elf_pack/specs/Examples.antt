-- ELF files and segments that stand as worked examples.
use Rattle.std.specs.Prelude.{ℕ, ◌+◌, ◌*◌, List, [], ◌∷◌, ◌++◌, replicate}
use Rattle.block_codec.specs.Words.{bytes_of}
use Rattle.elf_pack.specs.declared.segment.Segment.{Segment}

-- the head of a file of this type for this machine, with the entry 0x20000001; after it come so
-- many program headers of this size; section headers of 40 bytes are not read
abbrev pub head : ℕ → ℕ → ℕ → ℕ → List ℕ
head kind machine size count =
    (0x7f ∷ 0x45 ∷ 0x4c ∷ 0x46 ∷ 1 ∷ 1 ∷ 1 ∷ [])
    ++ (replicate 9 0 ++ bytes_of ((kind + 65536 * machine) ∷ 1 ∷ 0x20000001 ∷ 52
    ∷ 0 ∷ 0 ∷ (52 + 65536 * size) ∷ (count + 65536 * 40) ∷ 0 ∷ []))

-- a program header of this type, with this offset, physical address and size; its virtual address
-- 7 and its size 9 in memory are not read
abbrev pub header_of : ℕ → ℕ → ℕ → ℕ → List ℕ
header_of kind offset address size =
    bytes_of (kind ∷ offset ∷ 7 ∷ address ∷ size ∷ 9 ∷ 0 ∷ 0 ∷ [])

-- a file for Arm with program headers, and bytes after them
abbrev pub arm_elf_file : ℕ → List ℕ → List ℕ → List ℕ
arm_elf_file count headers bytes = head 2 40 32 count ++ (headers ++ bytes)

-- a segment of this offset, address and size, of program header 7
abbrev pub one_at : ℕ → ℕ → ℕ → Segment
one_at offset address size =
    record { number = 7; offset = offset; address = address; size = size }
