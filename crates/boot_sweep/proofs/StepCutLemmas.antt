-- The cuts of a list of steps, each of which completes.
use Rattle.std.proofs.Common.{◌≡◌, ℕ, ◌++◌, List, [], ◌∷◌, Option, refl, sym, ap, ◌∙◌}
use Rattle.std.specs.Prelude.{All, map}
use Rattle.std.specs.List.{AllByRecursion}
use Rattle.std.proofs.lemmas.List.{append_assoc, append-nil}
use Rattle.std.proofs.lemmas.List.Elements.{recursion_from_All}
use Rattle.pico_board.specs.declared.Step.{Step}
use Rattle.pico_board.specs.Content.{Content}
use Rattle.pico_board.specs.Steps.{IsStepIn, after, after_all}
use Rattle.boot_sweep.specs.declared.results.CutResult.{CutResult}
use Rattle.boot_sweep.specs.declared.results.StepResults.{StepResults}
use Rattle.boot_sweep.specs.declared.slots.Slot.{Slot}
use Rattle.boot_sweep.specs.EachCut.{AreAllIn, AreTaken, LieIn}
use Rattle.boot_sweep.specs.Moving.{Done, after_moves}
use Rattle.boot_sweep.specs.StepResults.{both_results, results_from, step_results}
use Rattle.boot_sweep.specs.Verdicts.{LiesIn}

pub steps-in : (n : ℕ) (steps : List Step) → All (IsStepIn n) steps → AreAllIn n (map Done steps)
steps-in n steps all = go steps (recursion_from_All (IsStepIn n) steps all)
  where
    go : (steps : List Step) → AllByRecursion (IsStepIn n) steps → AreAllIn n (map Done steps)
    go [] all = tt
    go (step ∷ steps) all = (all.0, go steps all.1)

pub steps-lie : (slot : Option Slot) (steps : List Step) → AllByRecursion (LiesIn slot) steps
    → LieIn slot (map Done steps)
steps-lie slot [] all = tt
steps-lie slot (step ∷ steps) all = (all.0, steps-lie slot steps all.1)

pub steps-after : (c : Content) (steps : List Step) → after_moves c (map Done steps) ≡ after_all c steps
steps-after c [] = refl
steps-after c (step ∷ steps) = steps-after (after c step) steps

-- the results that were taken, one step after another
pub results-taken : {F : Type 0} (items : F → List StepResults) (answer : Content → CutResult) (pattern : List ℕ)
    (old : F) (c : Content) (steps : List Step) (new : F)
    → AreTaken (λ f before within g. items g ≡ items f ++ both_results before within ∷ []) answer pattern old c
    (map Done steps) new → items new ≡ items old ++ results_from answer pattern c steps
results-taken items answer pattern old c [] new taken = ap items taken ∙ sym (append-nil (items old))
results-taken items answer pattern old c (step ∷ steps) new taken =
    let first = step_results answer c pattern step in
    let rest = results_from answer pattern (after c step) steps in
    results-taken items answer pattern taken.0 (after c step) steps new taken.2
    ∙ (ap (λ xs. xs ++ rest) taken.1 ∙ append_assoc (items old) (first ∷ []) rest)
