-- What a sweep finds. Of each step it has the results of a loss of power before it and within it.
-- It has the result of the whole session too.
use Rattle.std.specs.Prelude.{◌≡◌, ℕ, ◌+◌, Bool, true, false, List, [], ◌∷◌, take}
use Rattle.pico_board.specs.declared.Step.{Step}
use Rattle.pico_board.specs.declared.boot.Cpu.{Cpu}
use Rattle.pico_board.specs.Content.{Content}
use Rattle.pico_board.specs.Steps.{after, after_all}
use Rattle.boot_sweep.specs.declared.results.CutResult.{CutResult}
use Rattle.boot_sweep.specs.declared.results.StepResults.{StepResults}
use Rattle.boot_sweep.specs.declared.results.SweepResults.{SweepResults}
use Rattle.boot_sweep.specs.Comparing.{result_of}
use Rattle.boot_sweep.specs.Results.{IsCutResult}
use Rattle.boot_sweep.specs.Sweeps.{Line, content_after_cut}

abbrev pub both_results : CutResult → CutResult → StepResults
both_results before within = record { before = before; within = within }

-- the results of a step on the content b
abbrev pub step_results : (Content → CutResult) → Content → List ℕ → Step → StepResults
step_results judge b pattern step = record {
  before = judge (content_after_cut b pattern step false);
  within = judge (content_after_cut b pattern step true);
}

-- the results of steps, of which the first is done on the content b
abbrev pub results_from : (Content → CutResult) → List ℕ → Content → List Step → List StepResults
results_from judge pattern b [] = []
results_from judge pattern b (step ∷ steps) =
    step_results judge b pattern step ∷ results_from judge pattern (after b step) steps

-- the results of the steps of a session on the content c
abbrev pub sweep_results : Content → Cpu → List ℕ → List Step → List StepResults
sweep_results c cpu pattern steps =
    results_from (λ d. result_of c (after_all c steps) d cpu) pattern c steps

-- these are the results of the steps of a session on the content c, and of the whole session
pub record HasResults (c : Content) (cpu : Cpu) (pattern : List ℕ) (steps : List Step)
    (cuts : List StepResults) (end : CutResult) : Type 0 where
  pub cuts_are : cuts ≡ sweep_results c cpu pattern steps
  pub whole : end ≡ result_of c (after_all c steps) (after_all c steps) cpu

-- this is what a sweep of these steps on the content c finds
pub record IsResultsOf (c : Content) (cpu : Cpu) (pattern : List ℕ) (steps : List Step)
    (found : SweepResults) : Type 0 where
  pub steps_are : found.steps.items ≡ steps
  pub results : HasResults c cpu pattern steps found.cuts.items found.end

-- these are the results of step j of a session on the content c, in the rules' words
pub record HasCutResults (c : Content) (cpu : Cpu) (pattern : List ℕ) (steps : List Step) (j : ℕ)
    (step : Step) (found : StepResults) : Type 0 where
  pub before : IsCutResult c (after_all c steps)
      (content_after_cut (after_all c (take j steps)) pattern step false) cpu found.before
  pub within : IsCutResult c (after_all c steps)
      (content_after_cut (after_all c (take j steps)) pattern step true) cpu found.within

-- the line that says this result
abbrev pub told_line : ℕ → Step → Bool → CutResult → Line
told_line k step within result = record {
  number = k;
  step = step;
  within = within;
  result = result;
}

-- the lines of steps with these results, of which the first is number k
abbrev pub told_lines : ℕ → List Step → List StepResults → List Line
told_lines k [] cuts = []
told_lines k (step ∷ steps) [] = []
told_lines k (step ∷ steps) (cut ∷ cuts) =
    told_line k step false cut.before ∷ told_line k step true cut.within
    ∷ told_lines (k + 1) steps cuts
