-- What the steps of an event come to where a cut of the script is armed.
use Rattle.std.specs.Prelude.{◌==◌, Bool, true, false, if◌then◌else◌, List, [], ◌∷◌, Option, Some, None}
use Rattle.pico_board.specs.declared.Step.{Step}
use Rattle.pico_board.specs.Cuts.{Cut, nearer}
use Rattle.boot_sweep.specs.Moving.{MoveView, Done, Torn}

-- what is done, whether all steps complete, and the cut that is armed then
pub record CutMoves : Type 0 where
  pub moves : List MoveView
  pub whole : Bool
  pub armed : Option Cut

abbrev pub move_first : MoveView → CutMoves → CutMoves
move_first moved w = record { moves = moved ∷ w.moves; whole = w.whole; armed = w.armed }

-- the steps complete up to the one that the armed cut cuts
abbrev pub cut_moves : Option Cut → List Step → CutMoves
cut_moves cut [] = record { moves = []; whole = true; armed = cut }
cut_moves None (step ∷ steps) = move_first (Done step) (cut_moves None steps)
cut_moves (Some cut) (step ∷ steps) =
    if cut.left == 0 then record {
      moves = Torn step cut.within cut.pattern ∷ [];
      whole = false;
      armed = None;
    }
    else move_first (Done step) (cut_moves (Some (nearer cut)) steps)
