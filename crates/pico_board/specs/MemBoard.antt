-- What a board in memory shows.
use Rattle.std.specs.Prelude.{ℕ, ◌+◌, ◌-◌, ◌^◌, min, Bool, true, if◌then◌else◌, None, Some, List}
use Rattle.pico_board.specs.declared.mem_board.MemBoard.{MemBoard}
use Rattle.pico_board.specs.Steps.{Step}
use Rattle.pico_board.specs.Board.{State}
use Rattle.pico_board.specs.Supply.{armed_of}

-- the state: a board in memory tells its armed cut
abbrev pub state_of : MemBoard → State
state_of board = record {
  content = record { flash = board.flash.items; otp = board.otp.items };
  powered = board.supply.powered;
  cuts = board.supply.cuts;
  armed = Some (armed_of board.supply);
}

-- a board in memory keeps no list of its steps, so nothing is claimed of its history
abbrev pub history_of : MemBoard → List Step → Type 0
history_of board h = Unit {0}

-- the number of completed steps, which saturates at 2^64 - 1
abbrev pub steps_of : MemBoard → ℕ
steps_of board = board.supply.steps

-- the number after a step, where `ok` says whether the step completed
abbrev pub counted : ℕ → Bool → ℕ
counted n ok = if ok then min (n + 1) (2 ^ 64 - 1) else n

-- the state of a new board: powered, with no cut armed
abbrev pub new_state : List ℕ → List ℕ → State
new_state flash otp = record {
  content = record { flash = flash; otp = otp };
  powered = true;
  cuts = 0;
  armed = Some None;
}
