-- The state of a board, and what a step and a list of steps do to it.
use Rattle.std.specs.Prelude.{◌≡◌, ℕ, ◌+◌, ◌-◌, ◌^◌, ◌≤◌, min, Bool, true, Option, None, Some, List, [], ◌∷◌, length}
use Rattle.std.specs.Bool.{OnTrue, OnFalse}
use Rattle.std.specs.Option.{option_map}
use Rattle.pico_board.specs.Content.{Content}
use Rattle.pico_board.specs.Steps.{Step, after, after_all, Torn, CutOf}
use Rattle.pico_board.specs.Cuts.{Cut, CutOutcome, cut_step, cut_steps}
use Rattle.pico_board.specs.Histories.{Extends}

-- what is known of a board: its content, whether it is powered, how often power was lost, and its
-- armed cut; the outer option is None for a board that does not tell its armed cut; the inner
-- option is None where no cut is armed
pub record State : Type 0 where
  pub content : Content
  pub powered : Bool
  pub cuts : ℕ
  pub armed : Option (Option Cut)

-- a count is greater than before, or stands at 2^64 - 1: a count of 64 bits saturates there
abbrev pub Rose : ℕ → ℕ → Type 0
Rose before now = min (before + 1) (2 ^ 64 - 1) ≤ now

-- the answer and the state are what the board told
pub record HasCutOutcome (o : CutOutcome) (ok : Bool) (t : State) : Type 0 where
  pub answer : o.answer ≡ ok
  pub content : t.content ≡ o.content
  pub armed : t.armed ≡ Some o.armed

-- a board that tells its armed cut does with the step what the cut says, and tells the next armed
-- cut; a board that does not tell its cut does not tell it afterwards either
abbrev pub IsCutAsArmed : Option (Option Cut) → Content → Step → Bool → State → Type 0
IsCutAsArmed None c step ok t = t.armed ≡ None
IsCutAsArmed (Some cut) c step ok t = HasCutOutcome (cut_step cut c step) ok t

-- a board that tells its armed cut does with a list of steps what the cut says, and tells the next
-- armed cut; a board that does not tell its cut does not tell it afterwards either
abbrev pub AreCutAsArmed : Option (Option Cut) → Content → List Step → Bool → State → Type 0
AreCutAsArmed None c steps ok t = t.armed ≡ None
AreCutAsArmed (Some cut) c steps ok t = HasCutOutcome (cut_steps steps cut c) ok t

-- The old board does the step and is then the new one. Where the answer is Ok, the step completed,
-- the board is powered, and the step is appended to the history. Otherwise power was lost in the
-- step, the board is not powered, and the count of cuts rose (it saturates). The flash keeps its
-- length, and the count of cuts never falls. Where the board tells its armed cut, that cut
-- decides.
pub record Does {B : Type 0} (state : B → State) (history : B → List Step → Type 0) (old : B)
    (step : Step) (ok : Bool) (new : B) : Type 0 where
  pub done : OnTrue ok ((state new).content ≡ after (state old).content step)
  pub torn : OnFalse ok (Torn (state old).content step (state new).content)
  pub size : length (state new).content.flash ≡ length (state old).content.flash
  pub power : (state new).powered ≡ ok
  pub later : (state old).cuts ≤ (state new).cuts
  pub rose : OnFalse ok (Rose (state old).cuts (state new).cuts)
  pub told : IsCutAsArmed (state old).armed (state old).content step ok (state new)
  pub recorded : OnTrue ok (Extends history old (step ∷ []) new)

-- The old board does the steps, in their order, and is then the new one: where the answer is Ok,
-- all of them completed and are appended to the history; otherwise power was lost in one of them.
-- The rest is as for one step.
pub record DoesAll {B : Type 0} (state : B → State) (history : B → List Step → Type 0) (old : B)
    (steps : List Step) (ok : Bool) (new : B) : Type 0 where
  pub done : OnTrue ok ((state new).content ≡ after_all (state old).content steps)
  pub torn : OnFalse ok (CutOf (state old).content steps (state new).content)
  pub size : length (state new).content.flash ≡ length (state old).content.flash
  pub power : (state new).powered ≡ ok
  pub later : (state old).cuts ≤ (state new).cuts
  pub rose : OnFalse ok (Rose (state old).cuts (state new).cuts)
  pub told : AreCutAsArmed (state old).armed (state old).content steps ok (state new)
  pub recorded : OnTrue ok (Extends history old steps new)

-- the state with another cut armed, where the board tells it
abbrev pub with_cut : State → Cut → State
with_cut s cut = record {
  content = s.content;
  powered = s.powered;
  cuts = s.cuts;
  armed = option_map (λ former. Some cut) s.armed;
}

-- the state with power
abbrev pub with_power : State → State
with_power s = record { content = s.content; powered = true; cuts = s.cuts; armed = s.armed }

-- the new board has this state, and has done each list that the old one had done
pub record Becomes {B : Type 0} (state : B → State) (history : B → List Step → Type 0) (old : B)
    (s : State) (new : B) : Type 0 where
  pub same : state new ≡ s
  pub recorded : (h : List Step) → history old h → history new h
