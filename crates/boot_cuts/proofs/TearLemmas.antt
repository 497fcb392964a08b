-- The windows that a script leaves torn are those in which the function finds a step.
use Rattle.std.proofs.Common.{◌≡◌, ℕ, Bool, true, false, List, [], ◌∷◌, ◌++◌, Option, Some, None, refl, sym, ap, ◌∙◌, subst, arith, eqb-true}
use Rattle.std.specs.Prelude.{◌↔◌, ◌==◌, ◌||◌, if◌then◌else◌}
use Rattle.std.specs.List.{AllByRecursion, list_any}
use Rattle.pico_board.specs.declared.Step.{Step}
use Rattle.pico_board.specs.declared.step.Step.TheVariants.{Erase, Program, Raise}
use Rattle.pico_board.specs.declared.window.Window.{Window}
use Rattle.pico_board.specs.Sessions.{IsConfined}
use Rattle.boot_session.specs.Slots.{is_confined}
use Rattle.boot_session.proofs.SlotLemmas.{confined-is, is-confined}
use Rattle.boot_sweep.specs.Moving.{MoveView, Done, Torn}
use Rattle.boot_cuts.specs.Tears.{IsLeftTorn, Mends, done_steps, is_left_torn, is_sector, left_torn, mends, sector_of, torn_here}

mends-is : (torn later : Step) → mends torn later ≡ true → Mends torn later
mends-is torn (Erase s) e = go (sector_of torn) refl e
  where
    go : (o : Option ℕ) → sector_of torn ≡ o → is_sector o s ≡ true → Mends torn (Erase s)
    go None at e = cc
    go (Some t) at e = (s, at ∙ ap (λ n. Some n) (eqb-true t s e), refl)
mends-is torn (Program p d) e = cc
mends-is torn (Raise r b) e = cc

is-mends : (torn later : Step) → Mends torn later → mends torn later ≡ true
is-mends torn later (s, at, is) =
    let e : (s == s) ≡ true = grind (arith) in
    ap (mends torn) is ∙ (ap (λ o. is_sector o s) at ∙ e)

-- no step makes it good
none-mends : (torn : Step) (steps : List Step) → list_any (mends torn) steps ≡ false
    → AllByRecursion (λ (later : Step). Mends torn later → ⊥) steps
none-mends torn [] e = tt
none-mends torn (step ∷ steps) e = go (λ f. none-mends torn steps f) (mends torn step) refl e
  where
    go : (list_any (mends torn) steps ≡ false → AllByRecursion (λ (later : Step). Mends torn later → ⊥) steps)
        → (b : Bool) → mends torn step ≡ b → (b || list_any (mends torn) steps) ≡ false
        → AllByRecursion (λ (later : Step). Mends torn later → ⊥) (step ∷ steps)
    go rest true here e = cc
    go rest false here e = (λ m. let never : false ≡ true = sym here ∙ is-mends torn step m in cc, rest e)

mends-none : (torn : Step) (steps : List Step) → AllByRecursion (λ (later : Step). Mends torn later → ⊥) steps
    → list_any (mends torn) steps ≡ false
mends-none torn [] all = refl
mends-none torn (step ∷ steps) all = go (mends torn step) refl (mends-none torn steps all.1)
  where
    go : (b : Bool) → mends torn step ≡ b → list_any (mends torn) steps ≡ false
        → (b || list_any (mends torn) steps) ≡ false
    go true here rest = absurd (all.0 (mends-is torn step here))
    go false here rest = rest

or-right : (a b : Bool) → b ≡ true → (a || b) ≡ true
or-right true b e = refl
or-right false b e = e

-- what is found behind a torn step is found, whether that is made good or not
either : (s : Step) (rest : List MoveView) (w : Window) (b : Bool) → is_left_torn (left_torn rest) w ≡ true
    → is_left_torn ((if b then [] else s ∷ []) ++ left_torn rest) w ≡ true
either s rest w true e = e
either s rest w false e = or-right (is_confined w s) (is_left_torn (left_torn rest) w) e

-- a torn step that nothing makes good is found
found-torn : (w : Window) (before behind : List MoveView) (step : Step) (within : Bool) (pattern : List ℕ)
    → IsConfined w step → AllByRecursion (λ (later : Step). Mends step later → ⊥) (done_steps behind)
    → is_left_torn (left_torn (before ++ Torn step within pattern ∷ behind)) w ≡ true
found-torn w [] behind step within pattern lies stays =
    ap (λ b. is_left_torn ((if b then [] else step ∷ []) ++ left_torn behind) w)
    (mends-none step (done_steps behind) stays)
    ∙ ap (λ b. b || is_left_torn (left_torn behind) w) (is-confined w step lies)
found-torn w (Done s ∷ before) behind step within pattern lies stays =
    found-torn w before behind step within pattern lies stays
found-torn w (Torn s i p ∷ before) behind step within pattern lies stays =
    either s (before ++ Torn step within pattern ∷ behind) w
    (list_any (mends s) (done_steps (before ++ Torn step within pattern ∷ behind)))
    (found-torn w before behind step within pattern lies stays)

-- what is left torn of the moves behind one is left torn
later-torn : (moved : MoveView) (moves : List MoveView) (w : Window) → IsLeftTorn moves w → IsLeftTorn (moved ∷ moves) w
later-torn moved moves w is = record {
  before = moved ∷ is.before;
  behind = is.behind;
  step = is.step;
  within = is.within;
  pattern = is.pattern;
  whole = ap (λ ms. moved ∷ ms) is.whole;
  lies = is.lies;
  stays = is.stays;
}

torn-found : (moves : List MoveView) (w : Window) → is_left_torn (left_torn moves) w ≡ true → IsLeftTorn moves w
torn-found [] w e = cc
torn-found (Done step ∷ moves) w e = later-torn (Done step) moves w (torn-found moves w e)
torn-found (Torn step within pattern ∷ moves) w e =
    go (λ f. later-torn (Torn step within pattern) moves w (torn-found moves w f))
    (list_any (mends step) (done_steps moves)) refl e
  where
    here : (is_left_torn (left_torn moves) w ≡ true → IsLeftTorn (Torn step within pattern ∷ moves) w) → (b : Bool)
        → is_confined w step ≡ b → list_any (mends step) (done_steps moves) ≡ false
        → (b || is_left_torn (left_torn moves) w) ≡ true → IsLeftTorn (Torn step within pattern ∷ moves) w
    here rest true lies stays e = record {
      before = [];
      behind = moves;
      step = step;
      within = within;
      pattern = pattern;
      whole = refl;
      lies = confined-is w step lies;
      stays = none-mends step (done_steps moves) stays;
    }
    here rest false lies stays e = rest e

    go : (is_left_torn (left_torn moves) w ≡ true → IsLeftTorn (Torn step within pattern ∷ moves) w) → (b : Bool)
        → list_any (mends step) (done_steps moves) ≡ b
        → is_left_torn ((if b then [] else step ∷ []) ++ left_torn moves) w ≡ true
        → IsLeftTorn (Torn step within pattern ∷ moves) w
    go rest true any e = rest e
    go rest false any e = here rest (is_confined w step) refl any e

pub torn-exactly : (moves : List MoveView) (w : Window)
    → IsLeftTorn moves w ↔ (is_left_torn (left_torn moves) w ≡ true)
torn-exactly moves w = (
  λ is. subst (λ ms. is_left_torn (left_torn ms) w ≡ true) (sym is.whole)
      (found-torn w is.before is.behind is.step is.within is.pattern is.lies is.stays),
  torn-found moves w,
)

-- what is left torn of one move
pub torn-here : (moved : MoveView) (step : Step) (within : Bool) (pattern : List ℕ) (later : List MoveView) (b : Bool)
    → moved ≡ Torn step within pattern → list_any (mends step) (done_steps later) ≡ b
    → torn_here moved later ≡ (if b then [] else step ∷ [])
torn-here moved step within pattern later b is any =
    ap (λ m. torn_here m later) is ∙ ap (λ (t : Bool). if t then [] else step ∷ []) any
