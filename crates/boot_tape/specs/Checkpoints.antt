-- A checkpoint of a play: a board on which the first moves of a script are done.
use Rattle.std.specs.Prelude.{◌≡◌, ◌≤◌, IfSome, List, length, take, Option}
use Rattle.pico_board.specs.Content.{Content}
use Rattle.pico_board.specs.MemBoard.{state_of}
use Rattle.boot_session.specs.Standing.{IsUnarmed}
use Rattle.boot_tape.specs.declared.checkpoints.Checkpoint.{Checkpoint}
use Rattle.boot_tape.specs.Moving.{MoveView, after_moves}

-- its board has power and no armed cut, and what the first of these moves leave from c on
pub record HasFirstMoves (c : Content) (moves : List MoveView) (point : Checkpoint) : Type 0 where
  pub ready : IsUnarmed (state_of point.board)
  pub few : point.done ≤ length moves
  pub content : (state_of point.board).content ≡ after_moves c (take point.done moves)

-- what is kept, where there is one, is a checkpoint of these moves
abbrev pub IsCheckpoint : Content → List MoveView → Option Checkpoint → Type 0
IsCheckpoint c moves kept = IfSome kept (HasFirstMoves c moves)
