-- A board that is ready for the cuts of a sweep.
use Rattle.std.specs.Prelude.{◌≡◌, IsTrue, Some, None}
use Rattle.pico_board.specs.Board.{State}

-- the board is powered, and tells that no cut is armed
pub record IsUnarmed (s : State) : Type 0 where
  pub power : IsTrue s.powered
  pub unarmed : s.armed ≡ Some None
