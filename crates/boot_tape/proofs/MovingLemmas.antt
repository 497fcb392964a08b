-- The moves of a script, done one after another.
use Rattle.std.proofs.Common.{◌≡◌, ◌∙◌, ℕ, ◌+◌, ◌<◌, zero, suc, List, [], ◌∷◌, length, drop, get_or, refl, sym, ap, subst}
use Rattle.std.proofs.lemmas.List.{drop_more}
use Rattle.pico_board.specs.Content.{Content}
use Rattle.pico_board.specs.Cuts.{cut_with}
use Rattle.pico_board.proofs.ContentLemmas.{length-after, length-cut_by}
use Rattle.boot_sweep.specs.declared.moves.Move.{Move}
use Rattle.boot_tape.specs.Moving.{AreMovesIn, Done, IsMoveIn, MoveView, Torn, after_move, after_moves, move_from, moves_from}

-- the moves behind the first ones lie in the flash
pub rest-in : (n k : ℕ) (ms : List Move) → AreMovesIn n ms → AreMovesIn n (drop k ms)
rest-in n zero ms all = all
rest-in n (suc k) [] all = tt
rest-in n (suc k) (m ∷ ms) all = rest-in n k ms all.1

-- the move at a place
pub move-in : (n i : ℕ) (ms : List Move) (m : Move) → i < length ms → AreMovesIn n ms
    → IsMoveIn n (move_from (get_or ms i m))
move-in n i ms m lt all = (subst (λ xs. AreMovesIn n xs) (drop_more ms i m lt) (rest-in n i ms all)).0

-- one move more was done
pub done-more : (c d e : Content) (i : ℕ) (ms : List Move) (m : Move) → i < length ms
    → d ≡ after_move c (move_from (get_or ms i m)) → after_moves c (moves_from (drop i ms)) ≡ e
    → after_moves d (moves_from (drop (i + 1) ms)) ≡ e
done-more c d e i ms m lt one rest =
    ap (λ x. after_moves x (moves_from (drop (i + 1) ms))) one
    ∙ (ap (λ xs. after_moves c (moves_from xs)) (sym (drop_more ms i m lt)) ∙ rest)

-- the flash stays as long as it is
length-after_move : (c : Content) (moved : MoveView) → length (after_move c moved).flash ≡ length c.flash
length-after_move c (Done step) = length-after c step
length-after_move c (Torn step within pattern) = length-cut_by (cut_with 0 within pattern) c step

pub length-after_moves : (c : Content) (moves : List MoveView) → length (after_moves c moves).flash ≡ length c.flash
length-after_moves c [] = refl
length-after_moves c (moved ∷ moves) = length-after_moves (after_move c moved) moves ∙ length-after_move c moved
