-- Who has written a window.
use Rattle.std.proofs.Common.{◌≡◌, ◌⊎◌, ◌∙◌, ℕ, ◌+◌, ◌<◌, zero, suc, Bool, true, false, cond, List, [], ◌∷◌, Some, None, drop, length, get_or, arith, slice_get, inl, inr, refl, sym, ap, subst}
use Rattle.std.specs.Prelude.{◌&&◌, ◌||◌}
use Rattle.std.proofs.lemmas.Bool.{and_from, and_parts}
use Rattle.pico_board.specs.declared.window.Window.{Window}
use Rattle.boot_sweep.specs.declared.moves.Move.{Move}
use Rattle.boot_sweep.specs.declared.moves.Move.TheVariants as rust_moves
use Rattle.pico_board.specs.declared.step.Step.TheVariants as rust_steps
use Rattle.boot_tape.specs.Moving.{does_step, move_from, moves_from}
use Rattle.boot_sweep.specs.Moving.{MoveView, moved_step}
use Rattle.boot_tape.specs.declared.notes.Doer.{Doer}
use Rattle.boot_tape.specs.declared.notes.Doer.TheVariants as doers
use Rattle.check_require.specs.declared.report.Writer.TheVariants.{Script, Boot, Buy}
use Rattle.check_images.specs.Touching.{Touches, touches}
use Rattle.check_images.specs.Written.{HasWritten, IsWriter, has_written, is_doer, writer_of, writes_here}
use Rattle.check_images.proofs.TouchLemmas.{touches-is}

or-parts : (a b : Bool) → (a || b) ≡ true → (a ≡ true) ⊎ (b ≡ true)
or-parts true b e = inl refl
or-parts false b e = inr e

or-first : (a b : Bool) → a ≡ true → (a || b) ≡ true
or-first true b e = refl
or-first false b e = cc

or-second : (a b : Bool) → b ≡ true → (a || b) ≡ true
or-second true b e = refl
or-second false b e = e

same-doer : (by doer : Doer) → is_doer by doer ≡ true → doer ≡ by
same-doer doers.Host doers.Host e = refl
same-doer doers.Host doers.Boot e = cc
same-doer doers.Host doers.Buy e = cc
same-doer doers.Boot doers.Host e = cc
same-doer doers.Boot doers.Boot e = refl
same-doer doers.Boot doers.Buy e = cc
same-doer doers.Buy doers.Host e = cc
same-doer doers.Buy doers.Boot e = cc
same-doer doers.Buy doers.Buy e = refl

doer-self : (by : Doer) → is_doer by by ≡ true
doer-self doers.Host = refl
doer-self doers.Boot = refl
doer-self doers.Buy = refl

same-some : {X : Type 0} (x y : X) → Some x ≡ Some y → x ≡ y
same-some x y e = cc

none-some : {X P : Type 0} (x : X) → None ≡ Some x → P
none-some x e = cc

module _ (w : Window) (by : Doer) where
  here : (moved : MoveView) (moves : List MoveView) (doer : Doer) (others : List Doer)
      → (is_doer by doer && (does_step moved && touches w (moved_step moved))) ≡ true
      → HasWritten (moved ∷ moves) (doer ∷ others) w by
  here moved moves doer others e =
      let both = and_parts (is_doer by doer) (does_step moved && touches w (moved_step moved)) e in
      let does = and_parts (does_step moved) (touches w (moved_step moved)) both.1 in record {
        place = 0;
        moved = moved;
        done = refl;
        doer = ap (λ x. Some x) (same-doer by doer both.0);
        does = does.0;
        touched = (touches-is w (moved_step moved)).0 does.1;
      }

  later : (moved : MoveView) (moves : List MoveView) (doer : Doer) (others : List Doer)
      → HasWritten moves others w by → HasWritten (moved ∷ moves) (doer ∷ others) w by
  later moved moves doer others h = record {
    place = suc h.place;
    moved = h.moved;
    done = h.done;
    doer = h.doer;
    does = h.does;
    touched = h.touched;
  }

  first-or : (moved : MoveView) (moves : List MoveView) (doer : Doer) (others : List Doer)
      → (has_written w by moves others ≡ true → HasWritten moves others w by)
      → ((is_doer by doer && (does_step moved && touches w (moved_step moved))) ≡ true)
      ⊎ (has_written w by moves others ≡ true)
      → HasWritten (moved ∷ moves) (doer ∷ others) w by
  first-or moved moves doer others rest (inl e) = here moved moves doer others e
  first-or moved moves doer others rest (inr e) = later moved moves doer others (rest e)

  pub has-from : (moves : List MoveView) (others : List Doer) → has_written w by moves others ≡ true
      → HasWritten moves others w by
  has-from [] others e = cc
  has-from (moved ∷ moves) [] e = cc
  has-from (moved ∷ moves) (doer ∷ others) e =
      first-or moved moves doer others (has-from moves others)
      (or-parts (is_doer by doer && (does_step moved && touches w (moved_step moved))) (has_written w by moves others) e)

  has-at : (moves : List MoveView) (others : List Doer) (k : ℕ) (m : MoveView) → slice_get moves k ≡ Some m
      → slice_get others k ≡ Some by → does_step m ≡ true → Touches w (moved_step m)
      → has_written w by moves others ≡ true
  has-at [] others k m done doer does touched = none-some m done
  has-at (moved ∷ moves) [] k m done doer does touched = none-some by doer
  has-at (moved ∷ moves) (x ∷ others) zero m done doer does touched =
      or-first (is_doer by x && (does_step moved && touches w (moved_step moved))) (has_written w by moves others)
      (and_from (is_doer by x) (does_step moved && touches w (moved_step moved))
      (subst (λ y. is_doer by y ≡ true) (sym (same-some x by doer)) (doer-self by))
      (and_from (does_step moved) (touches w (moved_step moved))
      (subst (λ (y : MoveView). does_step y ≡ true) (sym (same-some moved m done)) does)
      ((touches-is w (moved_step moved)).1
      (subst (λ (y : MoveView). Touches w (moved_step y)) (sym (same-some moved m done)) touched))))
  has-at (moved ∷ moves) (x ∷ others) (suc k) m done doer does touched =
      or-second (is_doer by x && (does_step moved && touches w (moved_step moved))) (has_written w by moves others)
      (has-at moves others k m done doer does touched)

  pub has-to : (moves : List MoveView) (others : List Doer) → HasWritten moves others w by
      → has_written w by moves others ≡ true
  has-to moves others h = has-at moves others h.place h.moved h.done h.doer h.does h.touched

  has-not : (moves : List MoveView) (others : List Doer) → has_written w by moves others ≡ false
      → HasWritten moves others w by → ⊥
  has-not moves others none h = not-both (has_written w by moves others) none (has-to moves others h)
    where
      not-both : (b : Bool) → b ≡ false → b ≡ true → ⊥
      not-both b e f = cc

-- a move, where one is asked for
abbrev pub no_move : Move
no_move = rust_moves.Done (rust_steps.Erase 0)

-- one move after another
none-left : (w : Window) (by : Doer) (moves : List MoveView) → has_written w by moves [] ≡ false
none-left w by [] = refl
none-left w by (moved ∷ moves) = refl

pub has-next : (w : Window) (by : Doer) (moves : List Move) (others : List Doer) (i : ℕ) (d : Move)
    → i < length moves
    → has_written w by (moves_from (drop i moves)) (drop i others)
    ≡ (writes_here w by (move_from (get_or moves i d)) (slice_get others i)
    || has_written w by (moves_from (drop (i + 1) moves)) (drop (i + 1) others))
has-next w by [] others i d lt = absurd (omega (arith, lt))
has-next w by (m ∷ moves) [] zero d lt = sym (none-left w by (moves_from moves))
has-next w by (m ∷ moves) (x ∷ others) zero d lt = refl
has-next w by (m ∷ moves) [] (suc i) d lt =
    let one : suc i + 1 ≡ suc (i + 1) = omega arith in
    none-left w by (moves_from (drop i moves)) ∙ (sym (none-left w by (moves_from (drop (i + 1) moves)))
    ∙ ap (λ n. has_written w by (moves_from (drop n (m ∷ moves))) (drop n [])) (sym one))
has-next w by (m ∷ moves) (x ∷ others) (suc i) d lt =
    let one : suc i + 1 ≡ suc (i + 1) = omega arith in
    has-next w by moves others i d (omega (arith, lt))
    ∙ ap (λ n. writes_here w by (move_from (get_or moves i d)) (slice_get others i)
    || has_written w by (moves_from (drop n (m ∷ moves))) (drop n (x ∷ others))) (sym one)

module _ (moves : List MoveView) (others : List Doer) (w : Window) where
  by-tests : (script boot buy : Bool) → has_written w doers.Host moves others ≡ script
      → has_written w doers.Boot moves others ≡ boot → has_written w doers.Buy moves others ≡ buy
      → IsWriter moves others w (cond script (Some Script) (cond boot (Some Boot) (cond buy (Some Buy) None)))
  by-tests true boot buy a b d = has-from w doers.Host moves others a
  by-tests false true buy a b d = (has-not w doers.Host moves others a, has-from w doers.Boot moves others b)
  by-tests false false true a b d =
      (has-not w doers.Host moves others a, has-not w doers.Boot moves others b, has-from w doers.Buy moves others d)
  by-tests false false false a b d = none
    where
      none : (by : Doer) → HasWritten moves others w by → ⊥
      none doers.Host = has-not w doers.Host moves others a
      none doers.Boot = has-not w doers.Boot moves others b
      none doers.Buy = has-not w doers.Buy moves others d

  pub writer-is : IsWriter moves others w (writer_of moves others w)
  writer-is = by-tests _ _ _ refl refl refl
