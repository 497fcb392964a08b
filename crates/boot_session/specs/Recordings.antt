-- What a recorder knows of the steps that its board has done.
use Rattle.std.specs.Prelude.{◌≡◌, ℕ, ◌-◌, ◌^◌, ◌<◌, ◌==◌, nat_lt, min, if◌then◌else◌, option_map, Option, Some, None, List, [], ◌∷◌, ◌++◌, length, take}
use Rattle.std.specs.List.{AllByRecursion}
use Rattle.pico_board.specs.Board.{State}
use Rattle.pico_board.specs.declared.Step.{Step}
use Rattle.pico_board.specs.declared.step.Step.TheVariants.{Program}
use Rattle.pico_board.specs.declared.window.Window.{Window}
use Rattle.slot_choice.specs.declared.unit.SlotUnit.{SlotUnit}
use Rattle.pico_board.specs.declared.boot.Cpu.{Cpu}
use Rattle.pico_board.specs.declared.mem_board.MemBoard.{MemBoard}
use Rattle.pico_board.specs.MemBoard.{state_of}
use Rattle.pico_board.specs.Content.{Content}
use Rattle.pico_board.specs.Steps.{IsStepIn, after_all}
use Rattle.boot_session.specs.Standing.{IsUnarmed}
use Rattle.boot_session.specs.declared.recorder.Recorder.{Recorder}
use Rattle.boot_session.specs.Slots.{is_in_slot, outside_from, session_slot, slot_among, slot_of}

-- the most steps of a session that is swept
unfoldable pub step_limit : ℕ
step_limit = 262144

-- the first steps of a session, as many as are swept at most
unfoldable pub kept_steps : List Step → List Step
kept_steps steps = take step_limit steps

-- the first steps that a board does, one more than are swept at most
unfoldable pub first_steps : List Step → List Step
first_steps steps = take 262145 steps

-- the slot behind a step of this number: that of the first step stays
abbrev pub next_slot : Option Window → ℕ → List SlotUnit → Step → Option Window
next_slot slot count units step = if count == 0 then slot_among units step else slot

-- the first step that does not lie in the slot, behind a step of this number
abbrev pub next_outside : Option ℕ → ℕ → Option Window → Step → Option ℕ
next_outside (Some first) count slot step = Some first
next_outside None count slot step = if is_in_slot slot step then None else Some count

-- the first steps with one more behind them, where there are fewer than are kept
abbrev pub next_steps : List Step → Step → List Step
next_steps steps step = if nat_lt (length steps) 262145 then steps ++ step ∷ [] else steps

-- the recorder knows the first of the steps that its board has done, and how many there are. It
-- knows the slot that the first of them names, and the first that does not lie in it.
pub record HasRecorded {B : Type 0} (r : Recorder B) (h : List Step) : Type 0 where
  pub kept : r.steps.items ≡ first_steps h
  pub counted : r.count ≡ min (length h) (2 ^ 32 - 1)
  pub slot : r.slot ≡ slot_of r.units.items h
  pub outside : r.outside ≡ option_map (λ k. min k (2 ^ 32 - 1)) (outside_from 0 r.slot h)

-- the windows of units as numbers
abbrev pub other_numbers : Option Window → List ℕ
other_numbers None = 0 ∷ []
other_numbers (Some w) = 1 ∷ w.start ∷ w.len ∷ []

abbrev pub unit_numbers : List SlotUnit → List ℕ
unit_numbers [] = []
unit_numbers (unit ∷ units) =
    unit.a.start ∷ unit.a.len ∷ (other_numbers unit.b ++ unit_numbers units)

-- a mark that stands for units, at the front of a history; no board does it
abbrev pub mark : List SlotUnit → Step
mark units = Program 0 (unit_numbers units)

module _ {B : Type 0} (state : B → State) where
  -- the recorder knows the steps that its board has done. Each of them lies in the flash, or raises
  -- a row.
  pub record IsRecordOf (r : Recorder B) (h : List Step) : Type 0 where
    pub known : HasRecorded r h
    pub inside : AllByRecursion (IsStepIn (length (state r.bench).content.flash)) h

  -- The history of a recorder: the mark of its units, and then the steps that it knows. A board's
  -- history is all that a call says of the board beside its state, so the mark says that the
  -- recorder keeps its units.
  abbrev pub IsHistoryOf : Recorder B → List Step → Type 0
  IsHistoryOf r [] = ⊥
  IsHistoryOf r (first ∷ h) = (first ≡ mark r.units.items) × IsRecordOf r h

-- the recorder stands round a powered board, of which no cut is armed, after these steps from the
-- content c on. It knows them with the slot that they write. They are fewer than its count tells.
pub record IsRecorderOf (r : Recorder MemBoard) (c : Content) (cpu : Cpu) (steps : List Step)
    : Type 0 where
  pub ready : IsUnarmed (state_of r.bench)
  pub content : (state_of r.bench).content ≡ after_all c steps
  pub slot : r.slot ≡ session_slot c cpu steps
  pub recorded : HasRecorded r steps
  pub few : length steps < 2 ^ 32 - 1
