-- What a sweep says, in the rules' words.
use Rattle.std.specs.Prelude.{◌≡◌, ℕ, ◌+◌, ◌*◌, ◌≤◌, Bool, true, false, Contains, List, ◌++◌, length, slice_get, count_by, Some}
use Rattle.std.specs.List.{flat_map}
use Rattle.pico_board.specs.declared.Step.{Step}
use Rattle.pico_board.specs.declared.boot.Cpu.{Cpu}
use Rattle.pico_board.specs.declared.window.Window.{Window}
use Rattle.pico_board.specs.Content.{Content}
use Rattle.pico_board.specs.Sessions.{Unfinished}
use Rattle.pico_board.specs.Steps.{after_all}
use Rattle.boot_rules.specs.AccidentalImages.{HasNoAccidentalImage}
use Rattle.boot_sweep.specs.declared.results.CutResult.{CutResult}
use Rattle.boot_sweep.specs.declared.results.CutResult.TheVariants.{Chance}
use Rattle.boot_sweep.specs.Results.{IsCutResult}
use Rattle.boot_session.specs.Slots.{IsSlot}
use Rattle.boot_sweep.specs.Sweeps.{Line, content_at_line, end_text, is_chance, line_text}

module _ (c : Content) (cpu : Cpu) (pattern : List ℕ) (steps : List Step) where
  -- the line is that of the loss of power in step j, before it or within it, and has the result of
  -- its cut
  pub record IsLineOf (j : ℕ) (step : Step) (within : Bool) (line : Line) : Type 0 where
    pub number : line.number ≡ j
    pub step_is : line.step ≡ step
    pub part : line.within ≡ within
    pub result : IsCutResult c (after_all c steps)
        (content_at_line c pattern steps line) cpu line.result

  -- a line of the loss of power in step j, before it or within it, stands at this place of the
  -- lines
  abbrev pub HasLineAt : List Line → ℕ → ℕ → Step → Bool → Type 0
  HasLineAt lines place j step within =
      (line : Line) × (slice_get lines place ≡ Some line) × IsLineOf j step within line

  -- The text is that of two lines for each step, in their order, each with the result of its cut.
  -- Then comes the end line, with the result of the whole session. A line says `chance` only where
  -- its cut leaves an unfinished content with another table or with an accidental image in the
  -- slot. At most 32 lines say it.
  pub record IsSweep (text : List ℕ) : Type 0 where
    pub lines : List Line
    pub end_ : CutResult
    pub spelled : text ≡ flat_map line_text lines ++ end_text (length steps) end_
    pub count : length lines ≡ 2 * length steps
    pub each : (j : ℕ) (step : Step) → slice_get steps j ≡ Some step
        → HasLineAt lines (2 * j) j step false × HasLineAt lines (2 * j + 1) j step true
    pub whole : IsCutResult c (after_all c steps) (after_all c steps) cpu end_
    pub no_accident : (line : Line) (w : Window) → Contains lines line → line.result ≡ Chance
        → IsSlot c cpu steps w → Unfinished c steps w (content_at_line c pattern steps line)
        × (HasNoAccidentalImage c (after_all c steps) (content_at_line c pattern steps line) w cpu
        → ⊥)
    pub few : count_by is_chance lines ≤ 32
