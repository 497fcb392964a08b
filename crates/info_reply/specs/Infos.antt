-- The words of a reply.
use Rattle.std.specs.Prelude.{ℕ, ◌+◌, ◌*◌, Bool, Option, Some, None, List, [], ◌∷◌, flat_map, if◌then◌else◌, length}
use Rattle.pico_board.specs.declared.boot.Cpu.{Cpu}
use Rattle.pico_board.specs.declared.boot.Cpu.TheVariants.{Arm, Riscv}
use Rattle.part_table.specs.declared.partition.Partition.{Partition}
use Rattle.part_table.specs.declared.table.Table.{Table}
use Rattle.part_table.specs.declared.target.Target.{Target}
use Rattle.part_table.specs.Partitions.{part_at}
use Rattle.part_table.specs.Written.{written_partition}
use Rattle.info_reply.specs.declared.ask.Ask.{Ask}
use Rattle.info_reply.specs.declared.ask.Ask.TheVariants as rust
use Rattle.info_reply.specs.declared.ask.Device.{Device}

-- 1 for what holds, and 0 for what does not
abbrev pub bit : Bool → ℕ
bit holds = if holds then 1 else 0

-- the location word and the flag word of a partition
abbrev pub location_and_flags : Partition → List ℕ
location_and_flags p = p.location ∷ p.flags ∷ []

-- a table that stands in this slot: a word with bit 31, bit 8 for a singleton, and the number of
-- the partitions; the version; the slot; the unpartitioned word; and two words of each partition.
-- Without a table the word 0
abbrev pub table_words : ℕ → Option Table → List ℕ
table_words slot None = 0 ∷ []
table_words slot (Some t) =
    (0x80000000 + 0x100 * bit t.singleton + length t.parts.items)
    ∷ (65536 * t.version.major + t.version.minor) ∷ slot ∷ t.unpartitioned
    ∷ flat_map location_and_flags t.parts.items

-- a target: the word 1; the start and the length of its window; and a word with bit 0 where the
-- target is gated and bit 1 where the machine stays. Without a target the word 0
abbrev pub target_words : Option Target → List ℕ
target_words None = 0 ∷ []
target_words (Some t) =
    1 ∷ t.window.start ∷ t.window.len ∷ (bit t.gated + 2 * bit t.stay) ∷ []

-- the number of a processor, as an image's type has it (RP2350 Datasheet, chapter 5, Bootrom)
abbrev pub cpu_number : Cpu → ℕ
cpu_number Arm = 0
cpu_number Riscv = 1

-- the board: the length of its flash, the processor, the row of boot flags, and the slot size
abbrev pub device_words : Device → List ℕ
device_words d = d.flash_len ∷ cpu_number d.cpu ∷ d.flags ∷ d.slot ∷ []

-- a partition as it is written in a table; without it no word
abbrev pub part_words : Option Table → ℕ → List ℕ
part_words None i = []
part_words (Some t) i = written_partition (part_at t.parts.items i)

-- the words that answer what is asked for
abbrev pub info_of : Device → ℕ → Option Table → Option Target → Ask → List ℕ
info_of device slot t target rust.Table = table_words slot t
info_of device slot t target (rust.Target family) = target_words target
info_of device slot t target rust.Device = device_words device
info_of device slot t target (rust.Partition i) = part_words t i
