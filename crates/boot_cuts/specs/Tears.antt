-- The windows that a script leaves torn: its own cuts cut a step in them, and nothing makes that
-- good.
use Rattle.std.specs.Prelude.{◌≡◌, ℕ, ◌/◌, ◌==◌, Bool, false, if◌then◌else◌, List, [], ◌∷◌, ◌++◌, Option, Some, None}
use Rattle.std.specs.List.{AllByRecursion, list_any}
use Rattle.pico_board.specs.declared.Step.{Step}
use Rattle.pico_board.specs.declared.step.Step.TheVariants.{Erase, Program, Raise}
use Rattle.pico_board.specs.declared.window.Window.{Window}
use Rattle.pico_board.specs.Sessions.{IsConfined}
use Rattle.boot_session.specs.Slots.{is_confined}
pub use Rattle.boot_tape.specs.Moving.{done_steps}
use Rattle.boot_sweep.specs.Moving.{MoveView, Done, Torn}

-- the sector in which an erase or a program lies
abbrev pub sector_of : Step → Option ℕ
sector_of (Erase s) = Some s
sector_of (Program p d) = Some (p / 16)
sector_of (Raise r b) = None

-- the later step erases the sector in which the torn one lies
abbrev pub Mends : Step → Step → Type 0
Mends torn later = (s : ℕ) × (sector_of torn ≡ Some s) × (later ≡ Erase s)

-- A window is left torn where a cut of the script falls due in it and is not made good: at an erase
-- or a program that lies in the window, before it or within it, and no later step that completes
-- erases that step's sector.
pub record IsLeftTorn (moves : List MoveView) (w : Window) : Type 0 where
  pub before : List MoveView
  pub behind : List MoveView
  pub step : Step
  pub within : Bool
  pub pattern : List ℕ
  pub whole : moves ≡ before ++ Torn step within pattern ∷ behind
  pub lies : IsConfined w step
  pub stays : AllByRecursion (λ (later : Step). Mends step later → ⊥) (done_steps behind)

abbrev pub is_sector : Option ℕ → ℕ → Bool
is_sector None s = false
is_sector (Some t) s = t == s

abbrev pub mends : Step → Step → Bool
mends torn (Erase s) = is_sector (sector_of torn) s
mends torn (Program p d) = false
mends torn (Raise r b) = false

-- the step that a cut of the script cuts here, where no later step erases its sector
abbrev pub torn_here : MoveView → List MoveView → List Step
torn_here (Done step) later = []
torn_here (Torn step within pattern) later =
    if list_any (mends step) (done_steps later) then [] else step ∷ []

-- the steps that cuts of the script cut, and whose sector no later step erases
abbrev pub left_torn : List MoveView → List Step
left_torn [] = []
left_torn (moved ∷ moves) = torn_here moved moves ++ left_torn moves

-- one of these steps lies in the window
abbrev pub is_left_torn : List Step → Window → Bool
is_left_torn torn w = list_any (is_confined w) torn
