-- Worked examples of the lists of steps that a session does: two sectors are written, the first of
-- them last, and power is lost within the last step; and of the files of a store.
use Rattle.std.specs.Prelude.{⊤, ℕ, Bool, List, [], ◌∷◌, Result, Ok, Err, Some, false, true}
use Rattle.pico_board.specs.declared.window.Window.{Window}
use Rattle.pico_board.specs.Content.{Content}
use Rattle.pico_board.specs.Steps.{Step, Erase, Program, after_all}
use Rattle.pico_board.specs.Cuts.{cut_by, cut_with}
use Rattle.pico_board.specs.declared.sink.SinkFail.{SinkFail}
use Rattle.pico_board.specs.declared.store.StoreFail.{StoreFail}
use Rattle.pico_board.specs.Files.{Access, File, Reads, StoreState, Writes}
use Rattle.pico_board.specs.Puts.{SinkState, Takes}

-- the window of this start and length
abbrev pub window_at : ℕ → ℕ → Window
window_at start len = record { start = start; len = len }

-- the window of sectors 2 and 3
abbrev pub two_sectors : Window
two_sectors = window_at 8192 8192

-- the steps between the first one and the programs of the first sector: they write page 48, which
-- is the first of sector 3
abbrev pub second_sector : List ℕ → List Step
second_sector other = Erase 3 ∷ Program 48 other ∷ []

-- the programs of the first sector, sector 2: that of its first page, 32
abbrev pub first_sector_steps : List ℕ → List Step
first_sector_steps page = Program 32 page ∷ []

-- the steps that write a page of sector 3 and then the first page of sector 2
abbrev pub two_pages : List ℕ → List ℕ → List Step
two_pages page other = Erase 2 ∷ Erase 3 ∷ Program 48 other ∷ Program 32 page ∷ []

-- what is left of a content when power is lost in the last of these steps; the pattern 0x0f tears
-- this step: it clears no bit among the low four of a byte
abbrev pub half_done : Content → List ℕ → List ℕ → Content
half_done c page other = cut_by (cut_with 0 true (0x0f ∷ []))
    (after_all c (Erase 2 ∷ Erase 3 ∷ Program 48 other ∷ [])) (Program 32 page)

-- what holds these bytes and rows
abbrev pub holding : List ℕ → List ℕ → Content
holding flash otp = record { flash = flash; otp = otp }

-- the names a and b
abbrev pub name_a : List ℕ
name_a = 97 ∷ []

abbrev pub name_b : List ℕ
name_b = 98 ∷ []

-- the files of these names that have one byte
abbrev pub of_a : ℕ → File
of_a byte = record { name = name_a; bytes = byte ∷ [] }

abbrev pub of_b : ℕ → File
of_b byte = record { name = name_b; bytes = byte ∷ [] }

-- a store that tells one file, had so many faults of reads and of writes, and is steady or not
abbrev pub counting_store : ℕ → ℕ → Bool → StoreState
counting_store reads writes steady = record {
  files = Some (of_a 1 ∷ []);
  read_faults = reads;
  write_faults = writes;
  steady = steady;
}

-- a sink that tells one byte, had so many faults, and is steady or not
abbrev pub putting : ℕ → Bool → SinkState
putting faults steady = record { bytes = Some (1 ∷ []); faults = faults; steady = steady }

-- the first takes a put of no byte with this answer, and is then the second; of what was put
-- before nothing is known
abbrev pub TakesNothing : SinkState → Result (Unit {0}) SinkFail → SinkState → Type 0
TakesNothing old answer new =
    Takes (λ s. s) (λ s puts. ⊤) old (record { bytes = []; answer = answer }) new

-- a store that tells these files, had no faults, and is not steady
abbrev pub telling : List File → StoreState
telling files = record { files = Some files; read_faults = 0; write_faults = 0; steady = false }

-- a read of file a, a write of it that fails, and a read of file b that fails
abbrev pub two_reads_and_a_write : List Access
two_reads_and_a_write = Reads name_a 0 (Ok []) ∷ Writes name_a [] (Err StoreFail.Fault)
    ∷ Reads name_b 0 (Err StoreFail.Fault) ∷ []
