-- A chart is a picture of texts.
use Rattle.std.proofs.Common.{◌≡◌, ℕ, ◌+◌, ◌-◌, true, List, [], ◌∷◌, ◌++◌, length, map, refl, decimal}
use Rattle.std.specs.Prelude.{codes, slice_get}
use Rattle.std.specs.List.{flat_map, list_all}
use Rattle.std.proofs.lemmas.Grind.{flat_map-append}
use Rattle.pico_board.specs.declared.Step.{Step}
use Rattle.svg_marks.specs.declared.class.Class.{Class}
use Rattle.svg_marks.specs.declared.class.Class.TheVariants.{Former, Finished, Chance}
use Rattle.svg_marks.specs.Marks.{Mark, class_word, picture_text}
use Rattle.svg_marks.specs.Texts.{is_printed_text, is_written, texts_of}
use Rattle.svg_marks.proofs.TextLemmas.{decimal-printed, hex-printed, picture-written, text-join, word-printed}
use Rattle.svg_sweep.specs.declared.runs.Run.{Run}
use Rattle.svg_sweep.specs.Runs.{chance_runs, runs}
use Rattle.text_words.specs.Writing.{hex_word}
use Rattle.svg_sweep.specs.Charts.{Chart, bar, chart_words, count_of, end_row, end_rows, end_top, strip_frame, kind_bar, kind_legend, class_of_step, kind_row, kind_title, legend, legend_entry, legend_text, marks_by, offset_by, picture_of, result_row, row_front, run_title, run_span_text, spans_from, step_rows, steps_text, swatch, within_top}

-- the words of marks are a text
abbrev AreTexts : List Mark → Type 0
AreTexts marks = is_printed_text (flat_map texts_of marks) ≡ true

both : (xs ys : List Mark) → AreTexts xs → AreTexts ys → AreTexts (xs ++ ys)
both xs ys first second =
    rw (flat_map-append texts_of xs ys) (text-join (flat_map texts_of xs) (flat_map texts_of ys) first second)

hex-text : (n : ℕ) → is_printed_text (hex_word n) ≡ true
hex-text n = hex-printed n

span-text : (run : Run) → is_printed_text (run_span_text run) ≡ true
unfolding run_span_text
span-text run =
    text-join (decimal run.first) _ (decimal-printed run.first) (decimal-printed run.last)

title-text : (part : List ℕ) (run : Run) → is_printed_text part ≡ true → is_printed_text (run_title part run) ≡ true
unfolding run_title
title-text part run is =
    text-join part _ is (text-join (run_span_text run) _ (span-text run) (word-printed run.class))

kind-text : (steps : List Step) (run : Run) → is_printed_text (kind_title steps run) ≡ true
unfolding kind_title
kind-text steps run =
    text-join (class_word run.class) _ (word-printed run.class)
    (text-join (hex_word (offset_by (slice_get steps run.first))) _ (hex-text _) (hex-text _))

front-text : (name : List ℕ) (top n : ℕ) → is_printed_text name ≡ true → AreTexts (row_front name top n)
unfolding row_front strip_frame
front-text name top n is = text-join name [] is refl

bars-text : (part : List ℕ) (rs : List Run) → is_printed_text part ≡ true → AreTexts (map (bar part) rs)
bars-text part [] is = refl
bars-text part (r ∷ rs) is = text-join (run_title part r) _ (title-text part r is) (bars-text part rs is)

kinds-text : (steps : List Step) (rs : List Run) → AreTexts (map (kind_bar steps) rs)
kinds-text steps [] = refl
kinds-text steps (r ∷ rs) = text-join (kind_title steps r) _ (kind-text steps r) (kinds-text steps rs)

spans-text : (top k : ℕ) (rs : List Run) → AreTexts (spans_from top k rs)
spans-text top k [] = refl
spans-text top k (r ∷ rs) = text-join (run_span_text r) _ (span-text r) (spans-text top (k + 1) rs)

row-text : (part : List ℕ) (top : ℕ) (classes : List Class) → is_printed_text part ≡ true
    → AreTexts (result_row part top classes)
unfolding result_row
row-text part top classes is =
    both (row_front part top (length classes)) _ (front-text part top (length classes) is)
    (both (map (bar part) (runs classes)) _ (bars-text part (runs classes) is)
    (spans-text top 0 (chance_runs (runs classes))))

steps-text : (n : ℕ) → is_printed_text (steps_text n) ≡ true
unfolding steps_text
steps-text n = decimal-printed (n - 1)

kind-row-text : (top : ℕ) (steps : List Step) → AreTexts (kind_row top steps)
unfolding kind_row
kind-row-text top steps =
    both (row_front (codes "steps") top (length steps)) _ (front-text (codes "steps") top (length steps) refl)
    (both (map (kind_bar steps) (runs (map class_of_step steps))) _ (kinds-text steps (runs (map class_of_step steps)))
    (text-join (steps_text (length steps)) [] (steps-text (length steps)) refl))

steps-rows-text : (steps : List Step) (before within : List Class) → AreTexts (step_rows steps before within)
unfolding step_rows
steps-rows-text steps before within =
    both (kind_row 24 steps) _ (kind-row-text 24 steps)
    (both (result_row (codes "before") 84 before) _ (row-text (codes "before") 84 before refl)
    (row-text (codes "within") (within_top before) within refl))

end-text : (top : ℕ) (class : Class) → AreTexts (end_row top class)
unfolding end_row
end-text top class =
    text-join (class_word class) _ (word-printed class) (text-join (class_word class) [] (word-printed class) refl)

legend-words : (class : Class) (n : ℕ) → is_printed_text (legend_text class n) ≡ true
unfolding legend_text
legend-words class n = text-join (class_word class) _ (word-printed class) (decimal-printed n)

entry-text : (x y : ℕ) (class : Class) (n : ℕ) → AreTexts (legend_entry x y class n)
unfolding legend_entry swatch
entry-text x y class n = text-join (legend_text class n) [] (legend-words class n) refl

ends-text : (top : ℕ) (before within : List Class) (end_ : Class) → AreTexts (end_rows top before within end_)
unfolding end_rows legend
ends-text top before within end_ =
    both (end_row top end_) _ (end-text top end_)
    (both (legend_entry 120 (top + 60) Former (count_of Former before within)) _ (entry-text 120 (top + 60) Former _)
    (both (legend_entry 320 (top + 60) Finished (count_of Finished before within)) _
    (entry-text 320 (top + 60) Finished _)
    (entry-text 520 (top + 60) Chance (count_of Chance before within))))

colours-text : (y : ℕ) → AreTexts (kind_legend y)
unfolding kind_legend swatch
colours-text y = refl

marks-text : (steps : List Step) (before within : List Class) (end_ : Class)
    → AreTexts (marks_by steps before within end_)
marks-text [] before within end_ = ends-text 24 before within end_
marks-text (step ∷ steps) before within end_ =
    both (step_rows (step ∷ steps) before within) _ (steps-rows-text (step ∷ steps) before within)
    (both (end_rows (end_top before within) before within end_) _ (ends-text (end_top before within) before within end_)
    (colours-text (end_top before within + 84)))

words-text : (steps : List Step) (before within : List Class) → is_printed_text (chart_words steps before within) ≡ true
unfolding chart_words
words-text steps before within =
    text-join (decimal (length steps)) _ (decimal-printed _)
    (text-join (decimal (count_of Former before within)) _ (decimal-printed _)
    (text-join (decimal (count_of Finished before within)) _ (decimal-printed _)
    (decimal-printed (count_of Chance before within))))

pub chart-written : (chart : Chart) (desc : List ℕ) → is_printed_text desc ≡ true
    → list_all is_written (picture_text (picture_of chart desc)) ≡ true
unfolding picture_of
chart-written chart desc is =
    picture-written (picture_of chart desc) (record {
      title = words-text chart.steps chart.before chart.within;
      desc = is;
      words = marks-text chart.steps chart.before chart.within chart.end_;
    })
