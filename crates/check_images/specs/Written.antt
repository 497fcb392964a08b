-- Which windows are written, and by whom. Who does each of a script's moves is given.
use Rattle.std.specs.Prelude.{◌≡◌, ℕ, ◌&&◌, ◌||◌, Bool, true, false, if◌then◌else◌, List, [], ◌∷◌, slice_get, Option, Some, None}
use Rattle.pico_board.specs.declared.boot.Cpu.{Cpu}
use Rattle.pico_board.specs.declared.window.Window.{Window}
use Rattle.pico_board.specs.Content.{Content}
use Rattle.boot_sweep.specs.Moving.{MoveView, moved_step}
use Rattle.boot_tape.specs.Moving.{does_step}
use Rattle.boot_tape.specs.declared.notes.Doer.{Doer}
use Rattle.boot_tape.specs.declared.notes.Doer.TheVariants as doers
use Rattle.check_require.specs.declared.report.Writer.{Writer}
use Rattle.check_require.specs.declared.report.Writer.TheVariants.{Script, Boot, Buy}
use Rattle.check_images.specs.declared.found.WrittenWindow.{WrittenWindow}
use Rattle.check_images.specs.Images.{IsJudged}
use Rattle.check_images.specs.Lines.{AreLinesOf}
use Rattle.check_images.specs.Members.{members_in}
use Rattle.check_images.specs.Touching.{Touches, touches}

-- this doer completes or tears a step whose range shares a byte with the window
pub record HasWritten (moves : List MoveView) (doers : List Doer) (w : Window) (by : Doer)
    : Type 0 where
  pub place : ℕ
  pub moved : MoveView
  pub done : slice_get moves place ≡ Some moved
  pub doer : slice_get doers place ≡ Some by
  pub does : does_step moved ≡ true
  pub touched : Touches w (moved_step moved)

-- the writer of a window: the script where a host has written it, otherwise a boot, otherwise a buy;
-- or none of them has
abbrev pub IsWriter : List MoveView → List Doer → Window → Option Writer → Type 0
IsWriter moves by w (Some Script) = HasWritten moves by w doers.Host
IsWriter moves by w (Some Boot) =
    (HasWritten moves by w doers.Host → ⊥) × HasWritten moves by w doers.Boot
IsWriter moves by w (Some Buy) =
    (HasWritten moves by w doers.Host → ⊥) × (HasWritten moves by w doers.Boot → ⊥)
    × HasWritten moves by w doers.Buy
IsWriter moves by w None = (doer : Doer) → HasWritten moves by w doer → ⊥

-- what is told of a window on the content z: its writer, and its image with a trial image allowed;
-- nothing where nobody has written it
abbrev pub IsWritten : Content → Cpu → List MoveView → List Doer → Window
    → Option WrittenWindow → Type 0
IsWritten z cpu moves by w None = IsWriter moves by w None
IsWritten z cpu moves by w (Some line) =
    (line.window ≡ w) × IsWriter moves by w (Some line.by) × IsJudged z w cpu true line.image

-- the lines of the members of boot units of z
abbrev pub AreWritten : Content → Cpu → List MoveView → List Doer → List WrittenWindow → Type 0
AreWritten z cpu moves by lines =
    AreLinesOf (IsWritten z cpu moves by) (members_in z cpu) lines

abbrev pub is_doer : Doer → Doer → Bool
is_doer doers.Host doers.Host = true
is_doer doers.Boot doers.Boot = true
is_doer doers.Buy doers.Buy = true
is_doer _ _ = false

-- this doer does the step of the move, and that touches the window; nobody does nothing
abbrev pub writes_here : Window → Doer → MoveView → Option Doer → Bool
writes_here w by moved None = false
writes_here w by moved (Some doer) =
    is_doer by doer && (does_step moved && touches w (moved_step moved))

-- this doer has written the window
abbrev pub has_written : Window → Doer → List MoveView → List Doer → Bool
has_written w by [] others = false
has_written w by (moved ∷ moves) [] = false
has_written w by (moved ∷ moves) (doer ∷ others) =
    writes_here w by moved (Some doer) || has_written w by moves others

-- the writer of a window, as a function
abbrev pub writer_of : List MoveView → List Doer → Window → Option Writer
writer_of moves by w =
    if has_written w doers.Host moves by then Some Script
    else if has_written w doers.Boot moves by then Some Boot
    else if has_written w doers.Buy moves by then Some Buy
    else None
