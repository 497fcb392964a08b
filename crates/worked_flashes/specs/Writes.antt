-- Worked sessions on the second slot of a pair, as lists of steps. The examples of several crates
-- take them.
use Rattle.std.specs.Prelude.{ℕ, ◌-◌, List, [], ◌∷◌}
use Rattle.pico_board.specs.declared.Step.{Step}
use Rattle.pico_board.specs.declared.Step.TheVariants.{Erase, Program}
use Rattle.pico_board.specs.declared.window.Window.{Window}
use Rattle.slot_choice.specs.declared.unit.Member.TheVariants.{B}
use Rattle.slot_choice.specs.Examples.{window_at}
use Rattle.worked_flashes.specs.Flashes.{vector_page, block_page, mapped_page, data_page}

-- the slot that is written: the window of B
abbrev pub slot : Window
slot = window_at 0x20000 0x1e000

-- the erase of the slot's first sector, and these pages from its start on
abbrev pub writes : List Step → List Step
writes programs = Erase 32 ∷ Program 512 vector_page ∷ programs

-- the session that writes version 1.10 into that slot
abbrev pub plain_steps : List Step
plain_steps = writes (Program 513 (block_page 0x0001000a) ∷ [])

-- the session that writes version 1.10 into the second slot of a small pair, and a page of other
-- bytes after it; without a load map and with one
abbrev pub small_steps : List ℕ → List Step
small_steps block =
    Erase 4 ∷ Program 64 vector_page ∷ Program 65 block ∷ Program 66 data_page ∷ []

abbrev pub longer_steps : List Step
longer_steps = small_steps (block_page 0x0001000a)

abbrev pub mapped_steps : List Step
mapped_steps = small_steps (mapped_page 0x0001000a)
