-- The caveats of a script: a download whose first sector is held back, and a block that is skipped
-- since its page lies outside the flash. Of each the number of the first event is told.
use Rattle.std.specs.Prelude.{ℕ, ◌+◌, ◌==◌, ◌&&◌, nat_lt, Bool, true, false, not, if◌then◌else◌, count_by, List, [], ◌∷◌, drop, length, take, Option, Some, None}
use Rattle.std.specs.Int.{bit_at}
use Rattle.std.specs.Result.{result_ok}
use Rattle.pico_board.specs.declared.Step.{Step}
use Rattle.pico_board.specs.declared.step.Step.TheVariants.{Erase, Program, Raise}
use Rattle.pico_board.specs.declared.boot.Cpu.{Cpu}
use Rattle.pico_board.specs.Content.{Content}
use Rattle.part_table.specs.Families.{absolute_family}
use Rattle.uf2_place.specs.declared.block.Uf2.{Uf2}
use Rattle.uf2_place.specs.declared.answer.Accepted.{Accepted}
use Rattle.uf2_place.specs.declared.answer.Accepted.TheVariants as accepted
use Rattle.uf2_place.specs.Blocks.{uf2_of}
use Rattle.uf2_place.specs.Rulings.{is_page_within}
use Rattle.text_lines.specs.declared.outcome.BlockOutcome.{BlockOutcome}
use Rattle.text_lines.specs.declared.outcome.BlockOutcome.TheVariants as blocks
use Rattle.text_lines.specs.declared.outcome.EventOutcome.{EventOutcome}
use Rattle.text_lines.specs.declared.outcome.EventOutcome.TheVariants as events
use Rattle.boot_script.specs.Events.{EventView}
use Rattle.boot_machine.specs.Machines.{MachineView}
use Rattle.boot_machine.specs.Plays.{moved_machine, powerless}
use Rattle.boot_sweep.specs.Moving.{MoveView, moved_step}
use Rattle.boot_tape.specs.declared.notes.Note.{Note}
use Rattle.boot_tape.specs.Traces.{note_of, own_moves}
use Rattle.check_records.specs.declared.found.ScriptCaveats.{ScriptCaveats}

abbrev pub is_erase : Step → Bool
is_erase (Erase s) = true
is_erase (Program p bytes) = false
is_erase (Raise r b) = false

abbrev pub is_program : Step → Bool
is_program (Erase s) = false
is_program (Program p bytes) = true
is_program (Raise r b) = false

-- A block holds pages back where it erases more than it programs. In a gated download the first
-- block erases the target's first sector, and either its page lies there and is held back, or it
-- erases its own sector too. In another download a block erases at most the sector of the page that
-- it programs.
abbrev pub holds_back : List MoveView → Bool
holds_back moves =
    nat_lt (count_by (λ m. is_program (moved_step m)) moves)
    (count_by (λ m. is_erase (moved_step m)) moves)

abbrev pub accepted_holds : Accepted → List MoveView → Bool
accepted_holds accepted.Skipped moves = false
accepted_holds accepted.Again moves = false
accepted_holds accepted.Taken moves = holds_back moves
accepted_holds (accepted.Done target) moves = target.gated

abbrev pub block_holds : BlockOutcome → List MoveView → Bool
block_holds (blocks.Accepted number accepted) moves = accepted_holds accepted moves
block_holds (blocks.BadForm fault) moves = false
block_holds (blocks.Refused refusal) moves = false
block_holds (blocks.Downloaded number d) moves = false

-- a block with these moves of its own is taken into a gated download, or with it one is done
abbrev pub outcome_holds : EventOutcome → List MoveView → Bool
outcome_holds (events.Block b) moves = block_holds b moves
outcome_holds _ moves = false

-- no power is lost, in the block's steps or in a boot behind them
abbrev pub note_holds : Note → List MoveView → Bool
note_holds note moves = note.whole && outcome_holds note.outcome moves

-- the event is a taken block of a gated download
abbrev pub is_holding : MachineView → EventView → Bool
is_holding m event = note_holds (note_of m event) (own_moves m event)

-- the block is skipped for its page alone, in a flash of n bytes
abbrev pub is_outside : ℕ → Uf2 → Bool
is_outside n b =
    not (bit_at b.flags 0 == 1)
    && (bit_at b.flags 13 == 1 && (b.family == absolute_family && not (is_page_within n b)))

abbrev pub has_outside : ℕ → Option Uf2 → Bool
has_outside n None = false
has_outside n (Some b) = is_outside n b

-- the block of an event, if it has one
abbrev pub block_in_event : EventView → Option Uf2
block_in_event (EventView.Uf2 bytes) = result_ok (uf2_of bytes)
block_in_event event = None

abbrev pub is_skip : EventOutcome → Bool
is_skip (events.Block (blocks.Accepted number accepted.Skipped)) = true
is_skip _ = false

-- the event is a block that is skipped for its page alone
abbrev pub note_skips : ℕ → EventView → Note → Bool
note_skips n event note = is_skip note.outcome && has_outside n (block_in_event event)

abbrev pub is_skipping : ℕ → MachineView → EventView → Bool
is_skipping n m event = note_skips n event (note_of m event)

-- the first of the events that passes a test, where the first one has the number k
abbrev pub first_event : (MachineView → EventView → Bool) → ℕ → MachineView → List EventView
    → Option ℕ
first_event passes k m [] = None
first_event passes k m (event ∷ events) =
    if passes m event then Some k
    else first_event passes (k + 1) (moved_machine m event).next events

-- the caveats of a script that is played on a content from no power on
abbrev pub script_caveats : Content → Cpu → List EventView → ScriptCaveats
script_caveats c cpu events = record {
  held = first_event is_holding 0 (powerless c cpu) events;
  skipped = first_event (is_skipping (length c.flash)) 0 (powerless c cpu) events;
}

-- the same by what is noted of the events, and their moves
abbrev pub held_from : ℕ → List Note → List MoveView → Option ℕ
held_from k [] moves = None
held_from k (note ∷ notes) moves =
    if note_holds note (take note.own moves) then Some k
    else held_from (k + 1) notes (drop note.moves moves)

abbrev pub skipped_from : ℕ → ℕ → List EventView → List Note → Option ℕ
skipped_from n k [] notes = None
skipped_from n k (event ∷ events) [] = None
skipped_from n k (event ∷ events) (note ∷ notes) =
    if note_skips n event note then Some k else skipped_from n (k + 1) events notes
