-- What is counted in a chart is what its data say.
use Rattle.std.proofs.Common.{◌≡◌, ℕ, ◌+◌, List, [], ◌∷◌, ◌++◌, length, map, refl, ap, ◌∙◌, append-nil}
use Rattle.std.specs.Prelude.{codes}
use Rattle.std.specs.List.{flat_map}
use Rattle.std.proofs.lemmas.Grind.{flat_map-append}
use Rattle.pico_board.specs.declared.Step.{Step}
use Rattle.svg_marks.specs.declared.class.Class.{Class}
use Rattle.svg_marks.specs.declared.class.Class.TheVariants.{Former, Finished, Chance, Span, Legend}
use Rattle.svg_marks.specs.Marks.{Mark, class_text, class_word, escaped, picture_text}
use Rattle.svg_marks.specs.Reading.{is_class, marks_in, times, words_by, words_of_mark}
use Rattle.svg_marks.proofs.PictureLemmas.{picture-reads, picture-times}
use Rattle.svg_sweep.specs.declared.runs.Run.{Run}
use Rattle.svg_sweep.specs.Runs.{chance_runs, runs}
use Rattle.svg_sweep.specs.Charts.{Chart, bar, count_of, counted_in_chart, counted_end, counted_row, counted_rows, end_row, end_rows, end_top, strip_frame, kind_bar, kind_legend, class_of_step, kind_row, kind_title, legend, legend_entry, legend_text, marks_by, names, picture_of, result_row, row_front, run_title, run_span_text, spans_from, step_rows, swatch, titles, within_top}

module _ (class : Class) where
  -- the words of marks that are counted under the class
  abbrev found : List Mark → List (List ℕ)
  found marks = flat_map (words_of_mark class) marks

  joined : (xs ys : List Mark) → found (xs ++ ys) ≡ found xs ++ found ys
  joined xs ys = flat_map-append (words_of_mark class) xs ys

  bars-found : (part : List ℕ) (rs : List Run) → found (map (bar part) rs) ≡ titles class (run_title part) rs
  bars-found part [] = refl
  bars-found part (r ∷ rs) = ap (λ z. words_by (is_class class r.class) (run_title part r) ++ z) (bars-found part rs)

  kinds-found : (steps : List Step) (rs : List Run)
      → found (map (kind_bar steps) rs) ≡ titles class (kind_title steps) rs
  kinds-found steps [] = refl
  kinds-found steps (r ∷ rs) =
      ap (λ z. words_by (is_class class r.class) (kind_title steps r) ++ z) (kinds-found steps rs)

  spans-found : (top k : ℕ) (rs : List Run) → found (spans_from top k rs) ≡ names class rs
  spans-found top k [] = refl
  spans-found top k (r ∷ rs) =
      ap (λ z. words_by (is_class class Span) (run_span_text r) ++ z) (spans-found top (k + 1) rs)

  front-found : (name : List ℕ) (top n : ℕ) (more : List Mark) → found (row_front name top n ++ more) ≡ found more
  unfolding row_front strip_frame
  front-found name top n more = refl

  row-found : (part : List ℕ) (top : ℕ) (classes : List Class)
      → found (result_row part top classes) ≡ counted_row class part classes
  unfolding result_row
  row-found part top classes =
      front-found part top (length classes) _
      ∙ (joined (map (bar part) (runs classes)) _
      ∙ (ap (λ z. z ++ found (spans_from top 0 (chance_runs (runs classes)))) (bars-found part (runs classes))
      ∙ ap (λ z. titles class (run_title part) (runs classes) ++ z) (spans-found top 0 (chance_runs (runs classes)))))

  kind-found : (top : ℕ) (steps : List Step)
      → found (kind_row top steps) ≡ titles class (kind_title steps) (runs (map class_of_step steps))
  unfolding kind_row
  kind-found top steps =
      front-found (codes "steps") top (length steps) _
      ∙ (joined (map (kind_bar steps) (runs (map class_of_step steps))) _
      ∙ (append-nil _ ∙ kinds-found steps (runs (map class_of_step steps))))

  steps-found : (step : Step) (steps : List Step) (before within : List Class)
      → found (step_rows (step ∷ steps) before within) ≡ counted_rows class (step ∷ steps) before within
  unfolding step_rows
  steps-found step steps before within =
      joined (kind_row 24 (step ∷ steps)) _
      ∙ (ap (λ z. z ++ found (result_row (codes "before") 84 before
      ++ result_row (codes "within") (within_top before) within)) (kind-found 24 (step ∷ steps))
      ∙ ap (λ z. titles class (kind_title (step ∷ steps)) (runs (map class_of_step (step ∷ steps))) ++ z)
      (joined (result_row (codes "before") 84 before) _
      ∙ (ap (λ z. z ++ found (result_row (codes "within") (within_top before) within))
      (row-found (codes "before") 84 before)
      ∙ ap (λ z. counted_row class (codes "before") before ++ z)
      (row-found (codes "within") (within_top before) within))))

  end-found : (top : ℕ) (end_ : Class)
      → found (end_row top end_) ≡ words_by (is_class class end_) (codes "end " ++ class_word end_)
  unfolding end_row
  end-found top end_ = append-nil _

  entry-found : (x y : ℕ) (own : Class) (n : ℕ)
      → found (legend_entry x y own n) ≡ words_by (is_class class Legend) (legend_text own n)
  unfolding legend_entry swatch
  entry-found x y own n = append-nil _

  colours-found : (y : ℕ) → found (kind_legend y) ≡ []
  unfolding kind_legend swatch
  colours-found y = refl

  ends-found : (top : ℕ) (chart : Chart)
      → found (end_rows top chart.before chart.within chart.end_) ≡ counted_end class chart
  unfolding end_rows legend
  ends-found top chart =
      let a = count_of Former chart.before chart.within in
      let b = count_of Finished chart.before chart.within in
      let d = count_of Chance chart.before chart.within in
      joined (end_row top chart.end_) _
      ∙ (ap (λ z. z ++ found (legend_entry 120 (top + 60) Former a ++ (legend_entry 320 (top + 60) Finished b
      ++ legend_entry 520 (top + 60) Chance d))) (end-found top chart.end_)
      ∙ ap (λ z. words_by (is_class class chart.end_) (codes "end " ++ class_word chart.end_) ++ z)
      (joined (legend_entry 120 (top + 60) Former a) _
      ∙ (ap (λ z. z ++ found (legend_entry 320 (top + 60) Finished b ++ legend_entry 520 (top + 60) Chance d))
      (entry-found 120 (top + 60) Former a)
      ∙ ap (λ z. words_by (is_class class Legend) (legend_text Former a) ++ z)
      (joined (legend_entry 320 (top + 60) Finished b) _
      ∙ (ap (λ z. z ++ found (legend_entry 520 (top + 60) Chance d)) (entry-found 320 (top + 60) Finished b)
      ∙ ap (λ z. words_by (is_class class Legend) (legend_text Finished b) ++ z)
      (entry-found 520 (top + 60) Chance d))))))

  marks-found : (steps : List Step) (chart : Chart)
      → found (marks_by steps chart.before chart.within chart.end_)
      ≡ counted_rows class steps chart.before chart.within ++ counted_end class chart
  marks-found [] chart = ends-found 24 chart
  marks-found (step ∷ steps) chart =
      let top = end_top chart.before chart.within in
      joined (step_rows (step ∷ steps) chart.before chart.within) _
      ∙ (ap (λ z. z ++ found (end_rows top chart.before chart.within chart.end_ ++ kind_legend (top + 84)))
      (steps-found step steps chart.before chart.within)
      ∙ ap (λ z. counted_rows class (step ∷ steps) chart.before chart.within ++ z)
      (joined (end_rows top chart.before chart.within chart.end_) (kind_legend (top + 84))
      ∙ (ap (λ z. found (end_rows top chart.before chart.within chart.end_) ++ z) (colours-found (top + 84))
      ∙ (append-nil _ ∙ ends-found top chart))))

  pub chart-marks : (chart : Chart) (desc : List ℕ)
      → marks_in class (picture_text (picture_of chart desc)) ≡ map escaped (counted_in_chart class chart)
  unfolding picture_of
  chart-marks chart desc =
      picture-reads class (picture_of chart desc) ∙ ap (λ z. map escaped z) (marks-found chart.steps chart)

  pub chart-times : (chart : Chart) (desc : List ℕ)
      → times (class_text class) (picture_text (picture_of chart desc)) ≡ length (counted_in_chart class chart)
  unfolding picture_of
  chart-times chart desc =
      picture-times class (picture_of chart desc) ∙ ap length (marks-found chart.steps chart)
