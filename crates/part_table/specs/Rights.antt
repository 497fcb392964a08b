-- The rights to the sectors of a flash.
use Rattle.std.specs.Prelude.{ℕ, Bool, true, find}
use Rattle.std.specs.Prelude.{Option, None, Some}
use Rattle.std.specs.Option.{option_map_or}
use Rattle.part_table.specs.declared.table.Table.{Table}
use Rattle.part_table.specs.declared.table.Right.{Right}
use Rattle.part_table.specs.declared.table.Right.TheVariants.{BootRead, BootWrite}
use Rattle.part_table.specs.Fields.{has_bit}
use Rattle.part_table.specs.Windows.{has_sector}

-- in a word with permissions bit 30 is the bootloader's right to read, and bit 31 its right to
-- write (RP2350 Datasheet, chapter 5, Bootrom)
abbrev pub right_bit : Right → ℕ
right_bit BootRead = 30
right_bit BootWrite = 31

-- the permissions of a sector are those of its partition's location word; of a sector in no
-- partition, those of the unpartitioned word (RP2350 Datasheet, chapter 5, Bootrom)
abbrev pub right_word : Table → ℕ → ℕ
right_word t sector =
    option_map_or (λ p. p.location) (find (has_sector sector) t.parts.items) t.unpartitioned

-- a sector has a right where its permissions have the right's bit (RP2350 Datasheet, chapter 5,
-- Bootrom)
abbrev pub allowed : Table → ℕ → Right → Bool
allowed t sector right = has_bit (right_word t sector) (right_bit right)

-- without a table all is allowed (RP2350 Datasheet, chapter 5, Bootrom)
abbrev pub allowed_by : Option Table → ℕ → Right → Bool
allowed_by None sector right = true
allowed_by (Some t) sector right = allowed t sector right
