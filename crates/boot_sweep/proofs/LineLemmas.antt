-- Each line of a sweep has the result of its cut.
use Rattle.std.proofs.Common.{◌≡◌, ℕ, suc, ◌+◌, ◌*◌, Bool, true, false, List, [], ◌∷◌, length, take, slice_get, Some, refl, sym, ap, ◌∙◌, arith}
use Rattle.std.specs.Prelude.{Contains}
use Rattle.std.specs.List.{AllByRecursion}
use Rattle.std.proofs.lemmas.List.Elements.{All-contains, All-from_recursion}
use Rattle.pico_board.specs.declared.Step.{Step}
use Rattle.pico_board.specs.declared.boot.Cpu.{Cpu}
use Rattle.pico_board.specs.Content.{Content}
use Rattle.pico_board.specs.Steps.{after, after_all}
use Rattle.boot_sweep.specs.declared.results.CutResult.{CutResult}
use Rattle.boot_sweep.specs.Comparing.{result_of}
use Rattle.boot_sweep.specs.Sweeps.{Line, content_after_cut, content_at_line, lines_from, sweep_lines}

-- the line is that of a step at a place of the list
pub record IsLineOf (judge : Content → CutResult) (b : Content) (pattern : List ℕ) (k : ℕ) (steps : List Step)
    (line : Line) : Type 0 where
  pub place : ℕ
  pub number : line.number ≡ k + place
  pub step : slice_get steps place ≡ Some line.step
  pub result : line.result ≡ judge (content_after_cut (after_all b (take place steps)) pattern line.step line.within)

pub all-by : {X : Type 0} (P Q : X → Type 0) (xs : List X) → ((x : X) → P x → Q x) → AllByRecursion P xs
    → AllByRecursion Q xs
all-by P Q [] f all = tt
all-by P Q (x ∷ xs) f all = (f x all.0, all-by P Q xs f all.1)

module _ (judge : Content → CutResult) (pattern : List ℕ) where
  line-here : (b : Content) (k : ℕ) (step : Step) (steps : List Step) (within : Bool)
      → (let line : Line = record {
        number = k;
        step = step;
        within = within;
        result = judge (content_after_cut b pattern step within);
      } in
      IsLineOf judge b pattern k (step ∷ steps) line)
  line-here b k step steps within =
      record { place = 0; number = omega arith; step = refl; result = refl }

  line-later : (b : Content) (k : ℕ) (step : Step) (steps : List Step) (line : Line)
      → IsLineOf judge (after b step) pattern (k + 1) steps line → IsLineOf judge b pattern k (step ∷ steps) line
  line-later b k step steps line is =
      let n = is.number in
      record { place = suc is.place; number = omega (arith, n); step = is.step; result = is.result }

  pub all-lines : (b : Content) (k : ℕ) (steps : List Step)
      → AllByRecursion (IsLineOf judge b pattern k steps) (lines_from judge pattern k b steps)
  all-lines b k [] = tt
  all-lines b k (step ∷ steps) = (
    line-here b k step steps false,
    (
      line-here b k step steps true,
      all-by (IsLineOf judge (after b step) pattern (k + 1) steps) (IsLineOf judge b pattern k (step ∷ steps))
          (lines_from judge pattern (k + 1) (after b step) steps) (λ line is. line-later b k step steps line is)
          (all-lines (after b step) (k + 1) steps),
    ),
  )

  pub two-each : (b : Content) (k : ℕ) (steps : List Step)
      → length (lines_from judge pattern k b steps) ≡ 2 * length steps
  two-each b k [] = refl
  two-each b k (step ∷ steps) = let rest = two-each (after b step) (k + 1) steps in omega (arith, rest)

pub line-of-sweep : (c : Content) (cpu : Cpu) (pattern : List ℕ) (steps : List Step) (line : Line)
    → Contains (sweep_lines c cpu pattern steps) line
    → (slice_get steps line.number ≡ Some line.step)
    × (line.result ≡ result_of c (after_all c steps) (content_at_line c pattern steps line) cpu)
line-of-sweep c cpu pattern steps line has =
    let judge : Content → CutResult = λ d. result_of c (after_all c steps) d cpu in
    let is : IsLineOf judge c pattern 0 steps line =
    All-contains (IsLineOf judge c pattern 0 steps) (sweep_lines c cpu pattern steps) line
    (All-from_recursion (IsLineOf judge c pattern 0 steps) (sweep_lines c cpu pattern steps)
    (all-lines judge pattern c 0 steps)) has in
    let same : is.place ≡ line.number = let n = is.number in omega (arith, n) in (
      ap (slice_get steps) (sym same) ∙ is.step,
      is.result ∙ ap (λ p. judge (content_after_cut (after_all c (take p steps)) pattern line.step line.within)) same,
    )
