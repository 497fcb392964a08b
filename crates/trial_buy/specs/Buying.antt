-- What a buy writes: `buy_steps` (RP2350 Datasheet, chapter 5, "Try before you buy"; the details
-- are this project's own).
use Rattle.std.specs.Prelude.{ℕ, ◌+◌, ◌*◌, ◌/◌, ◌%◌, List, ◌∷◌, ◌++◌, map, slice_index, slice_range, slice_set}
use Rattle.std.specs.List.{range_with_len}
use Rattle.pico_board.specs.declared.Step.{Step}
use Rattle.pico_board.specs.declared.Step.TheVariants.{Erase, Program}
use Rattle.pico_board.specs.declared.boot.Cpu.{Cpu}
use Rattle.pico_board.specs.Content.{Content}
use Rattle.image_def.specs.declared.started.Started.{Started}
use Rattle.slot_choice.specs.declared.choice.Choice.{Choice}
use Rattle.trial_buy.specs.Starting.{settling}

-- the flash offset of the byte whose high bit is the trial bit: the fourth byte of the IMAGE_TYPE
-- item
abbrev pub trial_place : Started → ℕ
trial_place s = s.window.start + s.image_at + 3

-- the list with the high bit of the byte at a place cleared
abbrev pub cleared : List ℕ → ℕ → List ℕ
cleared bytes place = slice_set bytes place (slice_index bytes place % 128)

-- the bytes of the sector of a place of the flash, with the high bit of the byte there cleared
abbrev pub cleared_sector : List ℕ → ℕ → List ℕ
cleared_sector flash place =
    cleared (slice_range flash (4096 * (place / 4096)) (4096 * (place / 4096) + 4096))
    (place % 4096)

-- the program of page i of sector s with its part of these bytes
abbrev pub page_program : ℕ → List ℕ → ℕ → Step
page_program s bytes i = Program (16 * s + i) (slice_range bytes (256 * i) (256 * i + 256))

-- the programs of its 16 pages, ascending
unfoldable pub page_programs : ℕ → List ℕ → List Step
page_programs s bytes = map (page_program s bytes) (range_with_len 0 16)

-- a sector is erased, and then all its pages are programmed
abbrev pub rewrite_steps : ℕ → List ℕ → List Step
rewrite_steps s bytes = Erase s ∷ page_programs s bytes

-- the sector of the trial bit is rewritten with that bit cleared
abbrev pub clearing : List ℕ → ℕ → List Step
clearing flash place = rewrite_steps (place / 4096) (cleared_sector flash place)

-- the steps of a buy: the trial bit is cleared, and then the other member's better image is
-- erased, and the rows rise
abbrev pub buy_steps : Content → Cpu → Choice → List Step
buy_steps c cpu choice = clearing c.flash (trial_place choice.image) ++ settling c cpu choice
