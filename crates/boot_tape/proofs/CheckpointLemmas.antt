-- The moves that are done on a checkpoint, and those behind them.
use Rattle.std.proofs.Common.{◌≡◌, ◌∙◌, ℕ, zero, suc, List, [], ◌∷◌, ◌++◌, drop, take, Option, None, Some, sym, ap, arith}
use Rattle.std.proofs.lemmas.List.{length-append, take-append-le}
use Rattle.pico_board.specs.Content.{Content}
use Rattle.boot_sweep.specs.declared.moves.Move.{Move}
use Rattle.boot_tape.specs.declared.checkpoints.Checkpoint.{Checkpoint}
use Rattle.boot_tape.specs.Checkpoints.{IsCheckpoint}
use Rattle.boot_tape.specs.Moving.{MoveView, after_move, after_moves, move_from, moves_from}

-- the moves behind the first ones go on from what these leave
pub moves-rest : (c d : Content) (k : ℕ) (ms : List Move) → d ≡ after_moves c (take k (moves_from ms))
    → after_moves d (moves_from (drop k ms)) ≡ after_moves c (moves_from ms)
moves-rest c d zero ms is = ap (λ x. after_moves x (moves_from ms)) is
moves-rest c d (suc k) [] is = is
moves-rest c d (suc k) (m ∷ ms) is = moves-rest (after_move c (move_from m)) d k ms is

-- a checkpoint stays one of more moves
pub kept-grows : (c : Content) (xs ys : List MoveView) (kept : Option Checkpoint) → IsCheckpoint c xs kept
    → IsCheckpoint c (xs ++ ys) kept
kept-grows c xs ys None is = is
kept-grows c xs ys (Some point) is = record {
  ready = is.ready;
  few = omega (arith, is.few, length-append xs ys);
  content = is.content ∙ ap (after_moves c) (sym (take-append-le point.done xs ys is.few));
}
