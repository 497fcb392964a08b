-- What a told cut makes of a list of steps: it falls in the step that has its number, or after them all.
use Rattle.std.proofs.Common.{◌≡◌, ℕ, zero, suc, ◌-◌, ◌<◌, ◌≤◌, ◌==◌, Bool, true, false, cond, Option, Some, None, List, [], ◌∷◌, length, take, slice_get, refl, sym, ◌∙◌, ap, subst, arith}
use Rattle.std.proofs.lemmas.Bool.Decides.{nat_tests}
use Rattle.pico_board.specs.Content.{Content}
use Rattle.pico_board.specs.Steps.{Step, after, after_all}
use Rattle.pico_board.specs.Cuts.{Cut, CutOutcome, cut_by, cut_step, cut_steps, unless_cut}
use Rattle.pico_board.specs.Board.{State, HasCutOutcome, AreCutAsArmed, DoesAll}

-- with no cut armed every step completes
pub told_all-none : (steps : List Step) (c : Content)
    → cut_steps steps None c ≡ record { answer = true; content = after_all c steps; armed = None }
told_all-none [] c = refl
told_all-none (step ∷ steps) c = told_all-none steps (after c step)

-- a cut with steps left
told-later : (left : ℕ) (within : Bool) (pattern : List ℕ) (c : Content) (step : Step) → 0 < left
    → cut_step (Some (record { left = left; within = within; pattern = pattern })) c step
    ≡ record {
      answer = true;
      content = after c step;
      armed = Some (record { left = left - 1; within = within; pattern = pattern });
    }
told-later left within pattern c step lt =
    let test : (left == 0) ≡ false = grind (arith, nat_tests) in
    ap (λ (b : Bool). cond b (told_lost) (told_done)) test
  where
    told_lost : CutOutcome
    told_lost = record {
      answer = false;
      content = cut_by (record { left = left; within = within; pattern = pattern }) c step;
      armed = None;
    }

    told_done : CutOutcome
    told_done = record {
      answer = true;
      content = after c step;
      armed = Some (record { left = left - 1; within = within; pattern = pattern });
    }

-- a cut with more steps left than there are comes no nearer than by their number
pub told_all-whole : (steps : List Step) (left : ℕ) (within : Bool) (pattern : List ℕ) (c : Content)
    → length steps ≤ left
    → cut_steps steps (Some (record { left = left; within = within; pattern = pattern })) c
    ≡ record {
      answer = true;
      content = after_all c steps;
      armed = Some (record { left = left - length steps; within = within; pattern = pattern });
    }
told_all-whole [] left within pattern c le =
    ap (λ (n : ℕ). told_from n) (omega arith)
  where
    told_from : ℕ → CutOutcome
    told_from n = record {
      answer = true;
      content = c;
      armed = Some (record { left = n; within = within; pattern = pattern });
    }
told_all-whole (step ∷ steps) left within pattern c le =
    ap (λ (o : CutOutcome). unless_cut o (cut_steps steps)) (told-later left within pattern c step (omega arith))
    ∙ (told_all-whole steps (left - 1) within pattern (after c step) (omega arith)
    ∙ ap (λ (n : ℕ). told_from n) (omega arith))
  where
    told_from : ℕ → CutOutcome
    told_from n = record {
      answer = true;
      content = after_all c (step ∷ steps);
      armed = Some (record { left = n; within = within; pattern = pattern });
    }

-- a cut whose number of steps left is that of a step falls in that step
pub told_all-cut : (steps : List Step) (left : ℕ) (within : Bool) (pattern : List ℕ) (c : Content) (step : Step)
    → slice_get steps left ≡ Some step
    → cut_steps steps (Some (record { left = left; within = within; pattern = pattern })) c
    ≡ record {
      answer = false;
      content =
          cut_by (record { left = left; within = within; pattern = pattern })
          (after_all c (take left steps)) step;
      armed = None;
    }
told_all-cut [] left within pattern c step stands = cc
told_all-cut (x ∷ steps) zero within pattern c step stands =
    let same : x ≡ step = cc in
    ap (λ (y : Step). told_at y) same
  where
    told_at : Step → CutOutcome
    told_at y = record {
      answer = false;
      content = cut_by (record { left = 0; within = within; pattern = pattern }) c y;
      armed = None;
    }
told_all-cut (x ∷ steps) (suc left) within pattern c step stands =
    let e : suc left - 1 ≡ left = omega arith in
    ap (λ (o : CutOutcome). unless_cut o (cut_steps steps)) (told-later (suc left) within pattern c x (omega arith))
    ∙ (ap (λ (n : ℕ). cut_steps steps (Some (record { left = n; within = within; pattern = pattern })) (after c x)) e
    ∙ told_all-cut steps left within pattern (after c x) step stands)

module _ {B : Type 0} {state : B → State} {history : B → List Step → Type 0} where
  -- a board that tells that no cut is armed completes every step, and none is armed afterwards
  pub DoesAll-unarmed : {old new : B} {steps : List Step} {ok : Bool} → (state old).armed ≡ Some None
      → DoesAll state history old steps ok new
      → (ok ≡ true) × ((state new).armed ≡ Some None)
  DoesAll-unarmed {old} {new} {steps} {ok} unarmed does =
      let told : HasCutOutcome (cut_steps steps None (state old).content) ok (state new) =
      subst (λ (a : Option (Option Cut)). AreCutAsArmed a (state old).content steps ok (state new)) unarmed does.told in
      let whole = told_all-none steps (state old).content in (
        sym told.answer ∙ ap (λ (o : CutOutcome). o.answer) whole,
        told.armed ∙ ap (λ (o : CutOutcome). Some o.armed) whole,
      )
