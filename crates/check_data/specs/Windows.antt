-- The windows with data of the images that start before a script and after it: whose data they
-- have, and whether the script writes them. A script leads from the content c to the content z.
use Rattle.std.specs.Prelude.{◌≡◌, Bool, not, if◌then◌else◌, List, [], ◌++◌, map, filter, Contains, Option, Some, None}
use Rattle.std.specs.List.{list_any}
use Rattle.pico_board.specs.declared.Step.{Step}
use Rattle.pico_board.specs.declared.boot.Cpu.{Cpu}
use Rattle.pico_board.specs.declared.boot.BootKind.TheVariants.{Normal}
use Rattle.pico_board.specs.declared.window.Window.{Window}
use Rattle.pico_board.specs.Windows.{is_same_window}
use Rattle.pico_board.specs.Content.{Content}
use Rattle.boot_rules.specs.declared.decision.Decision.{Decision}
use Rattle.boot_rules.specs.declared.decision.Decision.TheVariants.{Start, Bootsel}
use Rattle.boot_rules.specs.Chosen.{Chosen}
use Rattle.boot_rules.specs.Choosing.{decision_in}
use Rattle.boot_rules.specs.Data.{data_of}
use Rattle.boot_rules.specs.Tables.{table_of_content}
use Rattle.boot_sweep.specs.Moving.{MoveView}
use Rattle.boot_cuts.specs.Tears.{IsLeftTorn, done_steps, is_left_torn, left_torn}
use Rattle.check_require.specs.declared.report.DataOwner.{DataOwner}
use Rattle.check_require.specs.declared.report.DataOwner.TheVariants.{Both, Former, End}
use Rattle.check_require.specs.declared.report.DataWritten.{DataWritten}
use Rattle.check_require.specs.declared.report.DataWritten.TheVariants.{Yes, No, Torn}
use Rattle.check_images.specs.Lines.{AreLinesOf}
use Rattle.check_images.specs.Touching.{Touches, touches}
use Rattle.check_data.specs.declared.found.DataWindow.{DataWindow}

-- the windows of the data of a decision on a content; a fall has none
abbrev pub data_in : Content → Decision → List Window
data_in c (Start choice) = data_of (table_of_content c) choice
data_in c (Bootsel fall) = []

-- a step of the trace touches the window
pub record IsTouched (moves : List MoveView) (w : Window) : Type 0 where
  pub step : Step
  pub done : Contains (done_steps moves) step
  pub touched : Touches w step

-- A window is written torn where the script leaves it torn. Otherwise it is written where it shares
-- a byte with the range of an erase or a program that completes.
abbrev pub IsDataWritten : List MoveView → Window → DataWritten → Type 0
IsDataWritten moves w Torn = IsLeftTorn moves w
IsDataWritten moves w Yes = (IsLeftTorn moves w → ⊥) × IsTouched moves w
IsDataWritten moves w No = (IsLeftTorn moves w → ⊥) × (IsTouched moves w → ⊥)

-- the owner of a window of the former decision, where these are those of the one at the end
abbrev pub IsFormerOwner : List Window → Window → DataOwner → Type 0
IsFormerOwner zs w Both = Contains zs w
IsFormerOwner zs w Former = Contains zs w → ⊥
IsFormerOwner zs w End = ⊥

-- what is told of a window of the former decision
abbrev pub IsFormerLine : List MoveView → List Window → Window → Option DataWindow → Type 0
IsFormerLine moves zs w None = ⊥
IsFormerLine moves zs w (Some told) =
    (told.window ≡ w) × IsFormerOwner zs w told.of × IsDataWritten moves w told.written

-- what is told of a window of the decision at the end: nothing more where it is one of the former
-- decision too
abbrev pub IsFurtherLine : List MoveView → List Window → Window → Option DataWindow → Type 0
IsFurtherLine moves cs w None = Contains cs w
IsFurtherLine moves cs w (Some told) =
    (Contains cs w → ⊥) × (told.window ≡ w) × (told.of ≡ End) × IsDataWritten moves w told.written

-- the windows of the decision of a normal boot on c in their order, and behind them each further
-- one of the decision on z
pub record AreDataWindows (c z : Content) (cpu : Cpu) (moves : List MoveView)
    (windows : List DataWindow) : Type 0 where
  pub former : Decision
  pub finished : Decision
  pub before : Chosen c cpu Normal former
  pub after : Chosen z cpu Normal finished
  pub first : List DataWindow
  pub further : List DataWindow
  pub whole : windows ≡ first ++ further
  pub first_are : AreLinesOf (IsFormerLine moves (data_in z finished)) (data_in c former) first
  pub further_are : AreLinesOf (IsFurtherLine moves (data_in c former)) (data_in z finished) further

-- the window is one of these
abbrev pub is_listed : List Window → Window → Bool
is_listed windows w = list_any (is_same_window w) windows

-- whether a window is written, by the steps that complete and those that are left torn
abbrev pub written_by : List Step → List Step → Window → DataWritten
written_by done torn w =
    if is_left_torn torn w then Torn
    else if list_any (touches w) done then Yes
    else No

abbrev pub data_written : List MoveView → Window → DataWritten
data_written moves w = written_by (done_steps moves) (left_torn moves) w

-- what is told of a window of this owner
abbrev pub told_window : List MoveView → DataOwner → Window → DataWindow
told_window moves owner w =
    record { window = w; of = owner; written = data_written moves w }

-- what is told of a window of the former decision, where these are those of the one at the end
abbrev pub former_window : List MoveView → List Window → Window → DataWindow
former_window moves zs w = told_window moves (if is_listed zs w then Both else Former) w

-- the windows of the former decision and then each further one, as a function
abbrev pub windows_by : List MoveView → List Window → List Window → List DataWindow
windows_by moves cs zs =
    map (former_window moves zs) cs
    ++ map (told_window moves End) (filter (λ w. not (is_listed cs w)) zs)

-- those of two decisions, on c and on z
abbrev pub data_windows_by : List MoveView → Content → Content → Decision → Decision
    → List DataWindow
data_windows_by moves c z former finished = windows_by moves (data_in c former) (data_in z finished)

-- those of the decisions of normal boots
abbrev pub data_windows : Content → Content → Cpu → List MoveView → List DataWindow
data_windows c z cpu moves =
    data_windows_by moves c z (decision_in c cpu Normal) (decision_in z cpu Normal)
