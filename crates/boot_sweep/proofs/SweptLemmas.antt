-- The text of a sweep is right in the rules' words.
use Rattle.std.proofs.Common.{◌≡◌, ℕ, zero, suc, ◌+◌, ◌*◌, ◌<◌, Bool, true, false, List, [], ◌∷◌, All, take, Some, None, refl, ap, ◌∙◌, arith}
use Rattle.std.specs.Prelude.{slice_get}
use Rattle.std.proofs.lemmas.Option.{same_Some}
use Rattle.pico_board.specs.declared.Step.{Step}
use Rattle.pico_board.specs.declared.boot.Cpu.{Cpu}
use Rattle.pico_board.specs.Content.{Content, IsContent}
use Rattle.pico_board.specs.Steps.{after, after_all}
use Rattle.boot_sweep.specs.declared.results.CutResult.{CutResult}
use Rattle.boot_sweep.specs.Comparing.{result_of}
use Rattle.boot_sweep.specs.Refusals.{sweep_refusal}
use Rattle.boot_sweep.specs.Sweeps.{content_after_cut, swept_line, lines_from, sweep_lines, sweep_text}
use Rattle.boot_sweep.specs.Swept.{HasLineAt, IsLineOf, IsSweep}
use Rattle.boot_sweep.proofs.ChanceLemmas.{line-accident}
use Rattle.boot_sweep.proofs.CountLemmas.{few-chances}
use Rattle.boot_sweep.proofs.LineLemmas.{line-of-sweep, two-each}
use Rattle.boot_sweep.proofs.ResultLemmas.{judged-exactly}

-- the two lines of step j
lines-at : (judge : Content → CutResult) (pattern : List ℕ) (k : ℕ) (b : Content) (steps : List Step)
    (j : ℕ) (step : Step)
    → slice_get steps j ≡ Some step
    → (slice_get (lines_from judge pattern k b steps) (2 * j)
    ≡ Some (swept_line judge (after_all b (take j steps)) pattern (k + j) step false))
    × (slice_get (lines_from judge pattern k b steps) (2 * j + 1)
    ≡ Some (swept_line judge (after_all b (take j steps)) pattern (k + j) step true))
lines-at judge pattern k b [] j step is = let e : None ≡ Some step = is in cc
lines-at judge pattern k b (x ∷ xs) zero step is =
    let same = same_Some x step is in
    let none : k ≡ k + 0 = omega arith in (
      ap (λ y. Some (swept_line judge b pattern k y false)) same
          ∙ ap (λ n. Some (swept_line judge b pattern n step false)) none,
      ap (λ y. Some (swept_line judge b pattern k y true)) same
          ∙ ap (λ n. Some (swept_line judge b pattern n step true)) none,
    )
lines-at judge pattern k b (x ∷ xs) (suc j) step is =
    let rest = lines-at judge pattern (k + 1) (after b x) xs j step is in
    let d = after_all (after b x) (take j xs) in
    let two : 2 * suc j ≡ suc (suc (2 * j)) = omega arith in
    let three : 2 * suc j + 1 ≡ suc (suc (2 * j + 1)) = omega arith in
    let number : k + 1 + j ≡ k + suc j = omega arith in (
      ap (slice_get (lines_from judge pattern k b (x ∷ xs))) two
          ∙ (rest.0 ∙ ap (λ n. Some (swept_line judge d pattern n step false)) number),
      ap (slice_get (lines_from judge pattern k b (x ∷ xs))) three
          ∙ (rest.1 ∙ ap (λ n. Some (swept_line judge d pattern n step true)) number),
    )

module _ (c : Content) (cpu : Cpu) (pattern : List ℕ) (steps : List Step) where
  abbrev judge : Content → CutResult
  judge d = result_of c (after_all c steps) d cpu

  is-line : (j : ℕ) (step : Step) (within : Bool)
      → IsLineOf c cpu pattern steps j step within (swept_line judge (after_all c (take j steps)) pattern j step within)
  is-line j step within = record {
    number = refl;
    step_is = refl;
    part = refl;
    result = (judged-exactly c (after_all c steps)
        (content_after_cut (after_all c (take j steps)) pattern step within) cpu
        (judge (content_after_cut (after_all c (take j steps)) pattern step within))).1 refl;
  }

  each-line : (j : ℕ) (step : Step) → slice_get steps j ≡ Some step
      → HasLineAt c cpu pattern steps (sweep_lines c cpu pattern steps) (2 * j) j step false
      × HasLineAt c cpu pattern steps (sweep_lines c cpu pattern steps) (2 * j + 1) j step true
  each-line j step is =
      let at = lines-at judge pattern 0 c steps j step is in
      let b = after_all c (take j steps) in
      let number : 0 + j ≡ j = omega arith in (
        (
          swept_line judge b pattern j step false,
          at.0 ∙ ap (λ n. Some (swept_line judge b pattern n step false)) number,
          is-line j step false,
        ),
        (
          swept_line judge b pattern j step true,
          at.1 ∙ ap (λ n. Some (swept_line judge b pattern n step true)) number,
          is-line j step true,
        ),
      )

  pub is-sweep : IsContent c → All (λ b. b < 256) pattern → sweep_refusal c cpu steps ≡ None
      → IsSweep c cpu pattern steps (sweep_text c cpu pattern steps)
  unfolding sweep_text
  is-sweep right small none = record {
    lines = sweep_lines c cpu pattern steps;
    end_ = judge (after_all c steps);
    spelled = refl;
    count = two-each judge pattern c 0 steps;
    each = each-line;
    whole = (judged-exactly c (after_all c steps) (after_all c steps) cpu (judge (after_all c steps))).1 refl;
    no_accident = λ line w has chance slot.
        let is = line-of-sweep c cpu pattern steps line has in
        line-accident c cpu pattern steps line w right small none slot is.0 is.1 chance;
    few = few-chances c cpu pattern steps right small none;
  }
