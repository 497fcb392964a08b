-- The boards before a script and after it.
use Rattle.std.specs.Prelude.{◌≡◌, ℕ, ◌+◌, ◌<◌, ◌≤◌, IsTrue, All, List, length}
use Rattle.pico_board.specs.MemBoard.{state_of}
use Rattle.check_data.specs.declared.found.DataWindow.{DataWindow}
use Rattle.check_data.specs.declared.found.Ends.{Ends}

-- both boards have power and a flash of n bytes
pub record AreReady (ends : Ends) (n : ℕ) : Type 0 where
  pub start_power : IsTrue (state_of ends.start.now).powered
  pub end_power : IsTrue (state_of ends.finish.now).powered
  pub start_long : length (state_of ends.start.now).content.flash ≡ n
  pub end_long : length (state_of ends.finish.now).content.flash ≡ n

-- the window lies inside a flash of n bytes
abbrev pub IsWithin : ℕ → DataWindow → Type 0
IsWithin n w = w.window.start + w.window.len ≤ n

-- the windows do
abbrev pub AreWithin : ℕ → List DataWindow → Type 0
AreWithin n windows = All (IsWithin n) windows

-- the offsets do
abbrev pub AreInside : ℕ → List ℕ → Type 0
AreInside n offsets = All (λ x. x < n) offsets
