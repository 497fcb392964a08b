-- Which images are lost, as a function.
use Rattle.std.specs.Prelude.{ℕ, ◌==◌, ◌||◌, Bool, false, if◌then◌else◌, List, [], ◌∷◌, Option, Some, None, Result, Ok, Err}
use Rattle.pico_board.specs.declared.boot.Cpu.{Cpu}
use Rattle.pico_board.specs.declared.window.Window.{Window}
use Rattle.pico_board.specs.Windows.{is_same_window}
use Rattle.pico_board.specs.Content.{Content}
use Rattle.image_def.specs.declared.started.Started.{Started}
use Rattle.image_check.specs.declared.why.Why.{Why}
use Rattle.image_check.specs.Image.{image_at}
use Rattle.boot_rules.specs.declared.decision.Decision.{Decision}
use Rattle.boot_rules.specs.declared.decision.Decision.TheVariants.{Start, Bootsel}
use Rattle.check_images.specs.declared.found.Loss.{Loss}
use Rattle.check_images.specs.declared.found.Loss.TheVariants.{NoUnit, Fault}
use Rattle.check_images.specs.declared.found.LostWindow.{LostWindow}

-- the first of these windows that begins at this offset
abbrev pub member_at : List Window → ℕ → Option Window
member_at [] start = None
member_at (w ∷ ws) start = if w.start == start then Some w else member_at ws start

abbrev pub is_window : Option Window → Window → Bool
is_window None w = false
is_window (Some v) w = is_same_window v w

-- the decision starts an image of the unit that the window is a member of
abbrev pub is_of_start : Decision → Window → Bool
is_of_start (Start choice) w = is_same_window choice.image.window w || is_window choice.other w
is_of_start (Bootsel fall) w = false

abbrev pub fault_of : Result Started Why → Option Loss
fault_of (Ok s) = None
fault_of (Err why) = Some (Fault why)

-- what becomes of the image of a member of a boot unit, by the content y after the boot that decides
-- so
abbrev pub loss_in : Content → Cpu → Decision → Window → Option Loss
loss_in y cpu d v = if is_of_start d v then None else fault_of (image_at y v cpu false)

-- what becomes of an image, by the member that begins where its window does
abbrev pub loss_by : Content → Cpu → Decision → Option Window → Option Loss
loss_by y cpu d None = Some NoUnit
loss_by y cpu d (Some v) = loss_in y cpu d v

abbrev pub line_of : Window → Option Loss → Option LostWindow
line_of w None = None
line_of w (Some loss) = Some (record { window = w; loss = loss })

-- the line of a window with this image, or none
abbrev pub line_by : Window → Result Started Why → Option Loss → Option LostWindow
line_by w (Ok s) loss = line_of w loss
line_by w (Err why) loss = None

-- the line of a member of a boot unit of c
abbrev pub lost_line : Content → List Window → Content → Cpu → Decision → Window
    → Option LostWindow
lost_line c members y cpu d w =
    line_by w (image_at c w cpu false) (loss_by y cpu d (member_at members w.start))
