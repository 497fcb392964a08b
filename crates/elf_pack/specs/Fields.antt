-- The fields of an ELF file that are read, in its 32-bit form with the lowest byte first. Source:
-- Tool Interface Standard, Executable and Linking Format, version 1.2, "ELF Header".
use Rattle.std.specs.Prelude.{ℕ, ◌+◌, List, [], ◌∷◌, slice_range}
use Rattle.byteorder.specs.Endian.{little_number}
use Rattle.pico_board.specs.declared.boot.Cpu.{Cpu}
use Rattle.pico_board.specs.declared.boot.Cpu.TheVariants.{Arm, Riscv}

-- the number in the two bytes from an offset on
unfoldable pub half_at : List ℕ → ℕ → ℕ
half_at elf at = little_number 2 (slice_range elf at (at + 2))

-- the number in the four bytes from an offset on
unfoldable pub word_at : List ℕ → ℕ → ℕ
word_at elf at = little_number 4 (slice_range elf at (at + 4))

-- the first seven bytes: 0x7f and `ELF`, then class 1 for 32 bits, data 1 for the lowest byte
-- first, and version 1
abbrev pub identification : List ℕ
identification = 0x7f ∷ 0x45 ∷ 0x4c ∷ 0x46 ∷ 1 ∷ 1 ∷ 1 ∷ []

-- the type; 2 is an executable file
abbrev pub file_type : List ℕ → ℕ
file_type elf = half_at elf 16

-- the machine
abbrev pub machine : List ℕ → ℕ
machine elf = half_at elf 18

-- the machine of a processor: EM_ARM is 40 and EM_RISCV is 243 (System V Application Binary
-- Interface, "ELF Header")
abbrev pub machine_of : Cpu → ℕ
machine_of Arm = 40
machine_of Riscv = 243

-- the address at which the program is entered
abbrev pub entry_address : List ℕ → ℕ
entry_address elf = word_at elf 24

-- the offset of the program headers, the size of each, and their number
abbrev pub headers_at : List ℕ → ℕ
headers_at elf = word_at elf 28

abbrev pub header_size : List ℕ → ℕ
header_size elf = half_at elf 42

abbrev pub header_count : List ℕ → ℕ
header_count elf = half_at elf 44
