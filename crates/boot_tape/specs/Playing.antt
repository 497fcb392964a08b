-- What the steps of an event come to where a cut of the script is armed, and a play on its way.
use Rattle.std.specs.Prelude.{◌≡◌, ⊤, ℕ, ◌+◌, ◌-◌, ◌<◌, ◌≤◌, Bool, true, false, List, [], ◌∷◌, ◌++◌, length, replicate, Option, Some, None, option_map}
use Rattle.pico_board.specs.declared.mem_board.MemBoard.{MemBoard}
use Rattle.pico_board.specs.MemBoard.{state_of}
use Rattle.pico_board.specs.Histories.{Extends}
use Rattle.pico_board.specs.Content.{Content}
use Rattle.pico_board.specs.declared.boot.Cpu.{Cpu}
use Rattle.pico_board.specs.Steps.{after_all}
use Rattle.boot_script.specs.Events.{EventView}
use Rattle.boot_session.specs.Standing.{IsUnarmed}
use Rattle.boot_machine.specs.declared.parts.Parts.{Parts}
use Rattle.boot_machine.specs.Machines.{MachineView, Off}
use Rattle.boot_machine.specs.Boots.{Effect}
use Rattle.boot_machine.specs.Moves.{effect, stays_with}
use Rattle.text_lines.specs.declared.outcome.EventOutcome.TheVariants as event_outcomes
use Rattle.pico_board.specs.declared.boot.BootKind.{BootKind}
use Rattle.pico_board.specs.declared.boot.BootKind.TheVariants.{Normal}
use Rattle.boot_machine.specs.declared.state.State.{State}
use Rattle.boot_machine.specs.declared.state.State.TheVariants as states
use Rattle.boot_tape.specs.declared.notes.Behind.{Behind}
use Rattle.boot_tape.specs.declared.notes.Behind.TheVariants as behinds
use Rattle.boot_machine.specs.Standing.{Stands}
use Rattle.boot_machine.specs.Plays.{played}
use Rattle.boot_tape.specs.declared.trace.Tape.{Tape}
use Rattle.boot_tape.specs.declared.trace.Trace.{Trace}
use Rattle.boot_session.specs.declared.recorder.Recorder.{Recorder}
use Rattle.boot_session.specs.Recordings.{IsRecordOf, first_steps}
use Rattle.boot_tape.specs.Traces.{behind, came_of, moves_in, noted, own_steps, step_numbers, trace, traced}
pub use Rattle.boot_tape.specs.CutMoves.{CutMoves, cut_moves, move_first}
use Rattle.pico_board.specs.Board.{State as BoardState}
use Rattle.pico_board.specs.declared.Step.{Step}
use Rattle.pico_board.specs.Cuts.{Cut, IsPattern, cut_with}
use Rattle.boot_tape.specs.declared.notes.Came.{Came}
use Rattle.boot_tape.specs.declared.trace.ArmedCut.{ArmedCut}
use Rattle.boot_tape.specs.Moving.{AreMovesIn, Done, Torn, after_moves, done_count, moves_from, traced_by}

-- the armed cut as plain data
abbrev pub cut_from : ArmedCut → Cut
cut_from cut = record { left = cut.left; within = cut.within; pattern = cut.pattern.now }

-- the cut that the script has armed
abbrev pub told_of : Tape → Option Cut
told_of tape = option_map cut_from tape.armed

-- its pattern is as a bench asks
abbrev pub HasPattern : Option Cut → Type 0
HasPattern None = ⊤
HasPattern (Some cut) = IsPattern cut.within cut.pattern

-- the tape with another armed cut
abbrev pub with_cut : Tape → ArmedCut → Tape
with_cut tape cut = record {
  moves = tape.moves;
  numbers = tape.numbers;
  done = tape.done;
  armed = Some cut;
  notes = tape.notes;
}

-- the tape with the notes of another one
abbrev pub with_notes : Tape → Tape → Tape
with_notes tape other = record {
  moves = tape.moves;
  numbers = tape.numbers;
  done = tape.done;
  armed = tape.armed;
  notes = other.notes;
}

-- what was done lies in a flash of n bytes, and the pattern of the script's cut is as a bench asks
pub record IsTapeIn (n : ℕ) (tape : Tape) : Type 0 where
  pub pattern : HasPattern (told_of tape)
  pub inside : AreMovesIn n tape.moves.items

abbrev pub flash_long : Trace → ℕ
flash_long trace = length (state_of trace.board).content.flash

-- the board has power and no armed cut, and what was done lies in its flash
pub record IsReady (trace : Trace) : Type 0 where
  pub unarmed : IsUnarmed (state_of trace.board)
  pub inside : AreMovesIn (flash_long trace) trace.moves.items

-- a step of the event of this number completed; the cut that is armed stays
pub record HasCompleted (old : Tape) (step : Step) (number : ℕ) (new : Tape) : Type 0 where
  pub numbers : new.numbers.items ≡ old.numbers.items ++ number ∷ []
  pub moves : moves_from new.moves.items ≡ moves_from old.moves.items ++ Done step ∷ []
  pub armed : new.armed ≡ old.armed
  pub done : new.done ≡ old.done + 1
  pub notes : new.notes ≡ old.notes

-- the armed cut cut the step
pub record HasLost (old : Tape) (step : Step) (cut : Cut) (new : Tape) : Type 0 where
  pub numbers : new.numbers.items ≡ old.numbers.items
  pub moves : moves_from new.moves.items
      ≡ moves_from old.moves.items ++ Torn step cut.within cut.pattern ∷ []
  pub armed : new.armed ≡ None
  pub done : new.done ≡ old.done
  pub notes : new.notes ≡ old.notes

-- the tape has these moves of the event of this number more
pub record IsLeftBy (old : Tape) (w : CutMoves) (number : ℕ) (whole : Bool) (new : Tape)
    : Type 0 where
  pub numbers : new.numbers.items ≡ old.numbers.items ++ replicate (done_count w.moves) number
  pub moves : moves_from new.moves.items ≡ moves_from old.moves.items ++ w.moves
  pub whole_ : whole ≡ w.whole
  pub armed : told_of new ≡ w.armed
  pub done : new.done ≡ old.done + done_count w.moves
  pub notes : new.notes ≡ old.notes

-- the steps were done up to the one that the armed cut cut
abbrev pub HasTaken : Tape → List Step → ℕ → Bool → Tape → Type 0
HasTaken old steps number whole new = IsLeftBy old (cut_moves (told_of old) steps) number whole new

-- the machine with no cut armed
abbrev pub bare : MachineView → MachineView
bare m = record { content = m.content; armed = Some None; cpu = m.cpu; place = m.place }

-- the tape is that of the events before those that are left, which lead m to mid. The first of
-- these has the number k.
pub record IsPlayedTo (tape : Tape) (m : MachineView) (all left : List EventView) (k : ℕ)
    (mid : MachineView) : Type 0 where
  pub told : mid.armed ≡ Some (told_of tape)
  pub cpu : mid.cpu ≡ m.cpu
  pub content : mid.content ≡ after_moves m.content (moves_from tape.moves.items)
  pub steps : traced_by m.content (moves_from tape.moves.items) ++ traced mid left
      ≡ traced m all
  pub numbers : tape.numbers.items ++ step_numbers k mid left ≡ step_numbers 0 m all
  pub moves : moves_from tape.moves.items ++ moves_in mid left ≡ moves_in m all
  pub notes : tape.notes.items ++ noted mid left ≡ noted m all
  pub last : (played mid left).last.content ≡ (played m all).last.content
  pub counted : tape.done ≡ done_count (moves_from tape.moves.items)

-- the board that a recorder stands round
abbrev pub recorded_state : Recorder MemBoard → BoardState
recorded_state recorder = state_of recorder.bench

-- the machine stands for mid but for the cut, and its recorder has kept all steps that its board did,
-- no more than completed
pub record IsFollowed (machine : Parts (Recorder MemBoard)) (tape : Tape) (mid : MachineView)
    : Type 0 where
  pub stands : Stands recorded_state machine (bare mid)
  pub few : length machine.board.steps.items ≤ tape.done
  pub recorded : IsRecordOf state_of machine.board machine.board.steps.items

-- a play on its way
pub record IsPlay (machine : Parts (Recorder MemBoard)) (tape : Tape) (m : MachineView)
    (all left : List EventView) (k : ℕ) : Type 0 where
  pub mid : MachineView
  pub to : IsPlayedTo tape m all left k mid
  pub followed : IsFollowed machine tape mid

-- an event was played, so the tape is that of one event more. The machine stands where all its
-- steps completed, and otherwise is off; or too many steps completed.
pub record HasFollowed (whole : Bool) (machine : Parts (Recorder MemBoard)) (tape : Tape)
    (m : MachineView) (all left : List EventView) (k : ℕ) : Type 0 where
  pub mid : MachineView
  pub to : IsPlayedTo tape m all left k mid
  pub goes : whole ≡ true → IsFollowed machine tape mid
  pub stops : whole ≡ false → mid.place ≡ Off

-- so many steps completed that the whole trace is too long
abbrev pub IsLong : Tape → MachineView → List EventView → Type 0
IsLong tape m all = 262144 < tape.done → 262144 < length (traced m all)

-- the cut that an event arms
abbrev pub cut_in : EventView → Option Cut
cut_in (EventView.Cut left within pattern) = Some (cut_with left within pattern)
cut_in event = None

-- an event did its steps whole, from m on, and the recorder has recorded them
pub record IsStepped (old : Parts (Recorder MemBoard)) (m : MachineView) (e : Effect)
    (new : Parts (Recorder MemBoard)) : Type 0 where
  pub stands : Stands recorded_state new (record {
    content = after_all m.content e.steps;
    armed = Some None;
    cpu = m.cpu;
    place = e.place;
  })
  pub recorded : Extends (IsRecordOf state_of) old.board e.steps new.board

-- An event did its steps whole, from m on. What came of it is told, with how many of the steps that
-- it did itself the recorder has kept.
pub record HasCome (old : Parts (Recorder MemBoard)) (m : MachineView) (event : EventView)
    (came : Came) (new : Parts (Recorder MemBoard)) : Type 0 where
  pub did : IsStepped old m (effect m event) new
  pub outcome : came.outcome ≡ came_of m event
  pub behind_ : came.behind ≡ behind m event
  pub own : (h : List Step) → IsRecordOf state_of old.board h
      → came.own ≡ length (first_steps (h ++ own_steps m event)) - length (first_steps h)

-- what makes the moves of an event that is not served, by what the machine is doing
abbrev pub behind_in : State → EventView → Behind
behind_in states.Off EventView.PowerOn = behinds.Boot Normal
behind_in states.Off event = behinds.Nothing
behind_in states.Bootsel (EventView.Reset kind) = behinds.Boot kind
behind_in states.Bootsel event = behinds.Nothing
behind_in (states.Running image) (EventView.Reset kind) = behinds.Boot kind
behind_in (states.Running image) EventView.Buy = behinds.Buy image
behind_in (states.Running image) event = behinds.Nothing

-- what a boot does that a host's event asks for, if it asks for one
abbrev pub asked_effect : MachineView → Option BootKind → Effect
asked_effect m None = stays_with m.place event_outcomes.Ignored
asked_effect m (Some kind) = effect m (EventView.Reset kind)

-- the trace of a script is this one
pub record IsTraceOf (c : Content) (cpu : Cpu) (events : List EventView) (found : Trace)
    : Type 0 where
  pub ready : IsReady found
  pub steps : traced_by c (moves_from found.moves.items) ≡ (trace c cpu events).done
  pub numbers : found.numbers.items ≡ (trace c cpu events).numbers
  pub moves : moves_from found.moves.items ≡ (trace c cpu events).moves
  pub notes : found.notes.items ≡ (trace c cpu events).notes
  pub content : (state_of found.board).content ≡ (trace c cpu events).last
  pub moved : (state_of found.board).content ≡ after_moves c (moves_from found.moves.items)
  pub short : length (trace c cpu events).done ≤ 262144
  pub size : flash_long found ≡ length c.flash

abbrev pub IsTracedTooLong : Content → Cpu → List EventView → Type 0
IsTracedTooLong c cpu events = 262144 < length (trace c cpu events).done
