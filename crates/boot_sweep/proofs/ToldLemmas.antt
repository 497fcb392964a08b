-- The lines that the results of a sweep are told in are its lines.
use Rattle.std.proofs.Common.{◌≡◌, ℕ, zero, suc, ◌+◌, ◌<◌, take, Some, None, true, false, List, [], ◌∷◌, ◌++◌, drop, get_or, length, refl, sym, ap, ◌∙◌}
use Rattle.std.specs.List.{flat_map}
use Rattle.std.specs.Prelude.{slice_get}
use Rattle.std.proofs.lemmas.Option.{same_Some}
use Rattle.std.proofs.lemmas.List.{append_assoc, drop_more}
use Rattle.pico_board.specs.declared.Step.{Step}
use Rattle.pico_board.specs.declared.boot.Cpu.{Cpu}
use Rattle.pico_board.specs.Content.{Content}
use Rattle.pico_board.specs.Steps.{after, after_all}
use Rattle.boot_sweep.specs.declared.results.CutResult.{CutResult}
use Rattle.boot_sweep.specs.declared.results.StepResults.{StepResults}
use Rattle.boot_sweep.specs.declared.results.SweepResults.{SweepResults}
use Rattle.boot_sweep.specs.Comparing.{result_of}
use Rattle.boot_sweep.specs.StepResults.{HasCutResults, IsResultsOf, results_from, step_results, sweep_results, told_line, told_lines}
use Rattle.boot_sweep.proofs.ResultLemmas.{judged-exactly}
use Rattle.boot_sweep.specs.Sweeps.{content_after_cut, end_text, swept_line, line_text, lines_from, sweep_text}

module _ (judge : Content → CutResult) (pattern : List ℕ) where
  pub told-are-lines : (k : ℕ) (b : Content) (steps : List Step)
      → told_lines k steps (results_from judge pattern b steps) ≡ lines_from judge pattern k b steps
  told-are-lines k b [] = refl
  told-are-lines k b (step ∷ steps) =
      ap (λ lines. swept_line judge b pattern k step false ∷ swept_line judge b pattern k step true ∷ lines)
      (told-are-lines (k + 1) (after b step) steps)

  pub results-length : (b : Content) (steps : List Step)
      → length (results_from judge pattern b steps) ≡ length steps
  results-length b [] = refl
  results-length b (step ∷ steps) = let rest = results-length (after b step) steps in cc

-- one step more
told-more : (k : ℕ) (step : Step) (cut : StepResults) (steps : List Step) (cuts : List StepResults)
    (old new : List ℕ)
    → new ≡ old ++ (line_text (told_line k step false cut.before) ++ line_text (told_line k step true cut.within))
    → new ++ flat_map line_text (told_lines (k + 1) steps cuts)
    ≡ old ++ flat_map line_text (told_lines k (step ∷ steps) (cut ∷ cuts))
told-more k step cut steps cuts old new more =
    let first = line_text (told_line k step false cut.before) in
    let second = line_text (told_line k step true cut.within) in
    let rest = flat_map line_text (told_lines (k + 1) steps cuts) in
    ap (λ xs. xs ++ rest) more
    ∙ (append_assoc old (first ++ second) rest ∙ ap (λ xs. old ++ xs) (append_assoc first second rest))

pub told-next : (k : ℕ) (other : Step) (none : StepResults) (steps : List Step) (cuts : List StepResults)
    (old new total : List ℕ) → k < length steps → k < length cuts
    → new ≡ old ++ (line_text (told_line k (get_or steps k other) false (get_or cuts k none).before)
    ++ line_text (told_line k (get_or steps k other) true (get_or cuts k none).within))
    → old ++ flat_map line_text (told_lines k (drop k steps) (drop k cuts)) ≡ total
    → new ++ flat_map line_text (told_lines (k + 1) (drop (k + 1) steps) (drop (k + 1) cuts)) ≡ total
told-next k other none steps cuts old new total one two more all =
    told-more k (get_or steps k other) (get_or cuts k none) (drop (k + 1) steps) (drop (k + 1) cuts) old new more
    ∙ (ap (λ xs. old ++ flat_map line_text (told_lines k xs (get_or cuts k none ∷ drop (k + 1) cuts)))
    (sym (drop_more steps k other one))
    ∙ (ap (λ xs. old ++ flat_map line_text (told_lines k (drop k steps) xs)) (sym (drop_more cuts k none two)) ∙ all))

-- the text of what a sweep finds is that of the sweep
pub text-of-results : (c : Content) (cpu : Cpu) (pattern : List ℕ) (steps : List Step) (found : SweepResults)
    → IsResultsOf c cpu pattern steps found
    → flat_map line_text (told_lines 0 found.steps.items found.cuts.items)
    ++ end_text (length found.steps.items) found.end ≡ sweep_text c cpu pattern steps
unfolding sweep_text
text-of-results c cpu pattern steps found is =
    let judge : Content → CutResult = λ d. result_of c (after_all c steps) d cpu in
    ap (λ xs. flat_map line_text (told_lines 0 xs found.cuts.items) ++ end_text (length xs) found.end) is.steps_are
    ∙ (ap (λ xs. flat_map line_text (told_lines 0 steps xs) ++ end_text (length steps) found.end) is.results.cuts_are
    ∙ (ap (λ xs. flat_map line_text xs ++ end_text (length steps) found.end) (told-are-lines judge pattern 0 c steps)
    ∙ ap (λ e. flat_map line_text (lines_from judge pattern 0 c steps) ++ end_text (length steps) e) is.results.whole))

-- a sweep finds as many results as there are steps
pub as-many-cuts : (c : Content) (cpu : Cpu) (pattern : List ℕ) (steps : List Step) (found : SweepResults)
    → IsResultsOf c cpu pattern steps found → length found.cuts.items ≡ length found.steps.items
as-many-cuts c cpu pattern steps found is =
    ap (λ (xs : List StepResults). length xs) is.results.cuts_are
    ∙ (results-length (λ d. result_of c (after_all c steps) d cpu) pattern c steps
    ∙ sym (ap (λ (xs : List Step). length xs) is.steps_are))

-- the results of step j
results-at : (judge : Content → CutResult) (pattern : List ℕ) (b : Content) (steps : List Step) (j : ℕ) (step : Step)
    → slice_get steps j ≡ Some step
    → slice_get (results_from judge pattern b steps) j
    ≡ Some (step_results judge (after_all b (take j steps)) pattern step)
results-at judge pattern b [] j step is = let e : None ≡ Some step = is in cc
results-at judge pattern b (x ∷ xs) zero step is =
    ap (λ y. Some (step_results judge b pattern y)) (same_Some x step is)
results-at judge pattern b (x ∷ xs) (suc j) step is = results-at judge pattern (after b x) xs j step is

pub cut-results : (c : Content) (cpu : Cpu) (pattern : List ℕ) (steps : List Step) (j : ℕ) (step : Step)
    → slice_get steps j ≡ Some step
    → (found : StepResults) × (slice_get (sweep_results c cpu pattern steps) j ≡ Some found)
    × HasCutResults c cpu pattern steps j step found
cut-results c cpu pattern steps j step is =
    let z = after_all c steps in
    let judge : Content → CutResult = λ d. result_of c z d cpu in
    let b = after_all c (take j steps) in (
      step_results judge b pattern step,
      results-at judge pattern c steps j step is,
      record {
        before = (judged-exactly c z (content_after_cut b pattern step false) cpu
            (judge (content_after_cut b pattern step false))).1 refl;
        within = (judged-exactly c z (content_after_cut b pattern step true) cpu
            (judge (content_after_cut b pattern step true))).1 refl;
      },
    )
