-- The lines of a sweep. For each step of a session they say what a normal boot makes of a loss of
-- power before it and within it.
use Rattle.std.specs.Prelude.{ℕ, ◌+◌, ◌*◌, Bool, true, false, if◌then◌else◌, List, [], ◌∷◌, ◌++◌, length, take, codes, decimal}
use Rattle.std.specs.List.{flat_map}
use Rattle.pico_board.specs.declared.Step.{Step}
use Rattle.pico_board.specs.declared.step.Step.TheVariants.{Erase, Program, Raise}
use Rattle.pico_board.specs.declared.boot.Cpu.{Cpu}
use Rattle.pico_board.specs.Content.{Content}
use Rattle.pico_board.specs.Cuts.{cut_by, cut_with}
use Rattle.pico_board.specs.Steps.{after, after_all}
use Rattle.text_words.specs.Writing.{hex_word}
use Rattle.boot_sweep.specs.declared.results.CutResult.{CutResult}
use Rattle.boot_sweep.specs.declared.results.CutResult.TheVariants.{Former, Finished, Chance}
use Rattle.boot_sweep.specs.Comparing.{result_of}

-- a cut of a session. It has the number of its step, the step, and whether it falls within the
-- step or before it. It has what a normal boot makes of it too.
pub record Line : Type 0 where
  pub number : ℕ
  pub step : Step
  pub within : Bool
  pub result : CutResult

-- what the loss of power leaves of a content in the step, on a board in memory. Before the step
-- nothing has changed, and within it the pattern decides.
abbrev pub content_after_cut : Content → List ℕ → Step → Bool → Content
content_after_cut b pattern step within = cut_by (cut_with 0 within pattern) b step

abbrev pub swept_line : (Content → CutResult) → Content → List ℕ → ℕ → Step → Bool → Line
swept_line judge b pattern k step within = record {
  number = k;
  step = step;
  within = within;
  result = judge (content_after_cut b pattern step within);
}

-- the lines of steps from the content b on, of which the first is number k
abbrev pub lines_from : (Content → CutResult) → List ℕ → ℕ → Content → List Step → List Line
lines_from judge pattern k b [] = []
lines_from judge pattern k b (step ∷ steps) =
    swept_line judge b pattern k step false ∷ swept_line judge b pattern k step true
    ∷ lines_from judge pattern (k + 1) (after b step) steps

-- the lines of a session on the content c
abbrev pub sweep_lines : Content → Cpu → List ℕ → List Step → List Line
sweep_lines c cpu pattern steps =
    lines_from (λ d. result_of c (after_all c steps) d cpu) pattern 0 c steps

-- the content that the cut of a line leaves, in a session on the content c
abbrev pub content_at_line : Content → List ℕ → List Step → Line → Content
content_at_line c pattern steps line =
    content_after_cut (after_all c (take line.number steps)) pattern line.step line.within

abbrev pub is_chance_result : CutResult → Bool
is_chance_result Former = false
is_chance_result Finished = false
is_chance_result Chance = true

-- the line says that neither the former nor the finished image starts
abbrev pub is_chance : Line → Bool
is_chance line = is_chance_result line.result

abbrev pub step_text : Step → List ℕ
step_text (Erase s) = codes "erase " ++ hex_word (4096 * s)
step_text (Program p d) = codes "program " ++ hex_word (256 * p)
step_text (Raise r b) = codes "raise " ++ hex_word r

abbrev pub part_text : Bool → List ℕ
part_text within = if within then codes " within " else codes " before "

abbrev pub result_text : CutResult → List ℕ
result_text Former = codes "former"
result_text Finished = codes "finished"
result_text Chance = codes "chance"

-- the text of a line: `K erase H before R`, and the like
abbrev pub line_text : Line → List ℕ
line_text line =
    decimal line.number ++ (codes " " ++ (step_text line.step ++ (part_text line.within
    ++ (result_text line.result ++ 10 ∷ []))))

-- the end line, of so many steps
abbrev pub end_text : ℕ → CutResult → List ℕ
end_text n result =
    codes "end " ++ (decimal n ++ (codes " " ++ (result_text result ++ 10 ∷ [])))

-- the text of a sweep of these steps on the content c
unfoldable pub sweep_text : Content → Cpu → List ℕ → List Step → List ℕ
sweep_text c cpu pattern steps =
    flat_map line_text (sweep_lines c cpu pattern steps)
    ++ end_text (length steps) (result_of c (after_all c steps) (after_all c steps) cpu)
