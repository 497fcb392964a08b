-- Which windows a step changes.
use Rattle.std.specs.Prelude.{ℕ, ◌+◌, ◌*◌, ◌<◌, ◌≤◌, Bool, false, nat_lt, max, min}
use Rattle.pico_board.specs.declared.Step.{Step}
use Rattle.pico_board.specs.declared.step.Step.TheVariants.{Erase, Program, Raise}
use Rattle.pico_board.specs.declared.window.Window.{Window}

-- the window shares a byte with the n bytes from the offset `at` on
pub record SharesByte (w : Window) (at n : ℕ) : Type 0 where
  pub byte : ℕ
  pub above : w.start ≤ byte
  pub below : byte < w.start + w.len
  pub from : at ≤ byte
  pub to : byte < at + n

-- the window shares a byte with the range of an erase or a program
abbrev pub Touches : Window → Step → Type 0
Touches w (Erase s) = SharesByte w (4096 * s) 4096
Touches w (Program p d) = SharesByte w (256 * p) 256
Touches w (Raise r b) = ⊥

abbrev pub shares_byte : Window → ℕ → ℕ → Bool
shares_byte w at n = nat_lt (max w.start at) (min (w.start + w.len) (at + n))

abbrev pub touches : Window → Step → Bool
touches w (Erase s) = shares_byte w (4096 * s) 4096
touches w (Program p d) = shares_byte w (256 * p) 256
touches w (Raise r b) = false
