-- Only one text is that of a sweep in the rules' words.
use Rattle.std.proofs.Common.{◌≡◌, ℕ, suc, ◌+◌, ◌*◌, Bool, true, false, List, [], ◌∷◌, ◌++◌, length, take, Some, refl, ap, ◌∙◌, arith}
use Rattle.std.specs.Prelude.{slice_get}
use Rattle.std.specs.List.{flat_map}
use Rattle.std.proofs.lemmas.Option.{same_Some}
use Rattle.pico_board.specs.declared.Step.{Step}
use Rattle.pico_board.specs.declared.boot.Cpu.{Cpu}
use Rattle.pico_board.specs.Content.{Content}
use Rattle.pico_board.specs.Steps.{after, after_all}
use Rattle.boot_sweep.specs.declared.results.CutResult.{CutResult}
use Rattle.boot_sweep.specs.Comparing.{result_of}
use Rattle.boot_sweep.specs.Sweeps.{Line, content_at_line, end_text, swept_line, line_text, lines_from, sweep_lines, sweep_text}
use Rattle.boot_sweep.specs.Swept.{HasLineAt, IsLineOf, IsSweep}
use Rattle.boot_sweep.proofs.ResultLemmas.{judged-exactly}

-- the lines are the two of each of the steps, of which the first is number k and is done on b
abbrev AreLinesOf : (Content → CutResult) → List ℕ → ℕ → Content → List Step → List Line → Type 0
AreLinesOf judge pattern k b steps lines =
    (j : ℕ) (step : Step) → slice_get steps j ≡ Some step
    → (slice_get lines (2 * j) ≡ Some (swept_line judge (after_all b (take j steps)) pattern (k + j) step false))
    × (slice_get lines (2 * j + 1) ≡ Some (swept_line judge (after_all b (take j steps)) pattern (k + j) step true))

same-lines : (judge : Content → CutResult) (pattern : List ℕ) (k : ℕ) (b : Content) (steps : List Step)
    (lines : List Line) → length lines ≡ 2 * length steps → AreLinesOf judge pattern k b steps lines
    → lines ≡ lines_from judge pattern k b steps
same-lines judge pattern k b [] [] long are = refl
same-lines judge pattern k b [] (l ∷ lines) long are = absurd (omega (arith, long))
same-lines judge pattern k b (x ∷ xs) [] long are = absurd (omega (arith, long))
same-lines judge pattern k b (x ∷ xs) (l ∷ []) long are = absurd (omega (arith, long))
same-lines judge pattern k b (x ∷ xs) (l ∷ m ∷ lines) long are =
    let here = are 0 x refl in
    let number : k + 0 ≡ k = omega arith in
    let first : l ≡ swept_line judge b pattern k x false =
    same_Some l _ (here.0 ∙ ap (λ n. Some (swept_line judge b pattern n x false)) number) in
    let second : m ≡ swept_line judge b pattern k x true =
    same_Some m _ (here.1 ∙ ap (λ n. Some (swept_line judge b pattern n x true)) number) in
    let rest : lines ≡ lines_from judge pattern (k + 1) (after b x) xs =
    same-lines judge pattern (k + 1) (after b x) xs lines (omega (arith, long)) others in
    ap (λ y. y ∷ m ∷ lines) first
    ∙ (ap (λ y. swept_line judge b pattern k x false ∷ y ∷ lines) second
    ∙ ap (λ ys. swept_line judge b pattern k x false ∷ swept_line judge b pattern k x true ∷ ys) rest)
  where
    others : AreLinesOf judge pattern (k + 1) (after b x) xs lines
    others j step is =
        let at = are (suc j) step is in
        let d = after_all (after b x) (take j xs) in
        let two : suc (suc (2 * j)) ≡ 2 * suc j = omega arith in
        let three : suc (suc (2 * j + 1)) ≡ 2 * suc j + 1 = omega arith in
        let number : k + suc j ≡ k + 1 + j = omega arith in (
          ap (slice_get (l ∷ m ∷ lines)) two
              ∙ (at.0 ∙ ap (λ n. Some (swept_line judge d pattern n step false)) number),
          ap (slice_get (l ∷ m ∷ lines)) three
              ∙ (at.1 ∙ ap (λ n. Some (swept_line judge d pattern n step true)) number),
        )

module _ (c : Content) (cpu : Cpu) (pattern : List ℕ) (steps : List Step) where
  abbrev judge : Content → CutResult
  judge d = result_of c (after_all c steps) d cpu

  -- a line of a step is the one that the function gives
  is-line-of : (j : ℕ) (step : Step) (within : Bool) (line : Line) → IsLineOf c cpu pattern steps j step within line
      → line ≡ swept_line judge (after_all c (take j steps)) pattern j step within
  is-line-of j step within line is =
      let b = after_all c (take j steps) in
      let judged : line.result ≡ judge (content_at_line c pattern steps line) =
      (judged-exactly c (after_all c steps) (content_at_line c pattern steps line) cpu line.result).0 is.result in
      ap (λ r. record { number = line.number; step = line.step; within = line.within; result = r }) judged
      ∙ (ap (λ n. swept_line judge (after_all c (take n steps)) pattern n line.step line.within) is.number
      ∙ (ap (λ s. swept_line judge b pattern j s line.within) is.step_is
      ∙ ap (λ p. swept_line judge b pattern j step p) is.part))

  has-line : (lines : List Line) (place j : ℕ) (step : Step) (within : Bool)
      → HasLineAt c cpu pattern steps lines place j step within
      → slice_get lines place ≡ Some (swept_line judge (after_all c (take j steps)) pattern (0 + j) step within)
  has-line lines place j step within (line, at, is) =
      let number : j ≡ 0 + j = omega arith in
      at ∙ (ap Some (is-line-of j step within line is)
      ∙ ap (λ n. Some (swept_line judge (after_all c (take j steps)) pattern n step within)) number)

  -- the text of a sweep in the rules' words is that of the function
  pub only-sweep : (text : List ℕ) → IsSweep c cpu pattern steps text → text ≡ sweep_text c cpu pattern steps
  unfolding sweep_text
  only-sweep text s =
      let all : s.lines ≡ sweep_lines c cpu pattern steps =
      same-lines judge pattern 0 c steps s.lines s.count
      (λ j step is. (
        has-line s.lines (2 * j) j step false (s.each j step is).0,
        has-line s.lines (2 * j + 1) j step true (s.each j step is).1,
      )) in
      let last : s.end_ ≡ judge (after_all c steps) =
      (judged-exactly c (after_all c steps) (after_all c steps) cpu s.end_).0 s.whole in
      s.spelled
      ∙ (ap (λ ls. flat_map line_text ls ++ end_text (length steps) s.end_) all
      ∙ ap (λ r. flat_map line_text (sweep_lines c cpu pattern steps) ++ end_text (length steps) r) last)
