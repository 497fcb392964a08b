-- The fields of a partition's location word and flag word.
use Rattle.std.specs.Prelude.{ℕ, Bool, ◌/◌, ◌%◌, ◌^◌, ◌==◌}
use Rattle.std.specs.Int.{bit_at}
use Rattle.part_table.specs.declared.partition.Partition.{Partition}
use Rattle.pico_board.specs.declared.boot.Cpu.{Cpu}
use Rattle.pico_board.specs.declared.boot.Cpu.TheVariants.{Arm, Riscv}

-- a word has a bit where that bit is 1, counted from the lowest as 0
abbrev pub has_bit : ℕ → ℕ → Bool
has_bit word k = bit_at word k == 1

-- the first sector of a partition is bits 0 to 12 of its location word (RP2350 Datasheet, chapter
-- 5, Bootrom)
abbrev pub first_sector : Partition → ℕ
first_sector p = p.location % 2 ^ 13

-- the last sector of a partition is bits 13 to 25 of its location word (RP2350 Datasheet, chapter
-- 5, Bootrom)
abbrev pub last_sector : Partition → ℕ
last_sector p = p.location / 2 ^ 13 % 2 ^ 13

-- the permissions in a location word, a flag word or an unpartitioned word are bits 26 to 31
-- (RP2350 Datasheet, chapter 5, Bootrom)
abbrev pub permissions_of : ℕ → ℕ
permissions_of word = word / 2 ^ 26 % 2 ^ 6

-- a partition has an id where bit 0 of its flag word is set (RP2350 Datasheet, chapter 5, Bootrom)
abbrev pub has_id : ℕ → Bool
has_id flags = has_bit flags 0

-- the link type of a partition is bits 1 to 2 of its flag word (RP2350 Datasheet, chapter 5,
-- Bootrom)
abbrev pub link_type : Partition → ℕ
link_type p = p.flags / 2 ^ 1 % 2 ^ 2

-- the link value of a partition is bits 3 to 6 of its flag word (RP2350 Datasheet, chapter 5,
-- Bootrom)
abbrev pub link_value : Partition → ℕ
link_value p = p.flags / 2 ^ 3 % 2 ^ 4

-- the number of extra families of a partition is bits 7 to 8 of its flag word (RP2350 Datasheet,
-- chapter 5, Bootrom)
abbrev pub family_count : ℕ → ℕ
family_count flags = flags / 2 ^ 7 % 2 ^ 2

-- a partition is ignored in an Arm boot where bit 9 of its flag word is set, and in a RISC-V boot
-- where bit 10 is (RP2350 Datasheet, chapter 5, Bootrom)
abbrev pub is_ignored : Cpu → Partition → Bool
is_ignored Arm p = has_bit p.flags 9
is_ignored Riscv p = has_bit p.flags 10

-- a partition has a name where bit 12 of its flag word is set (RP2350 Datasheet, chapter 5,
-- Bootrom)
abbrev pub has_name : ℕ → Bool
has_name flags = has_bit flags 12

-- no boot follows a download into a partition where bit 13 of its flag word is set (RP2350
-- Datasheet, chapter 5, Bootrom)
abbrev pub is_staying : Partition → Bool
is_staying p = has_bit p.flags 13
