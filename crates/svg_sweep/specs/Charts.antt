-- What the picture of a sweep has. The picture is 960 wide; its words are 14 high, each of at most
-- 9 points a letter. The steps lie from 120 to 920.
use Rattle.std.specs.Prelude.{ℕ, ◌+◌, ◌-◌, ◌*◌, ◌/◌, ◌%◌, List, [], ◌∷◌, ◌++◌, length, map, codes, decimal, slice_get, Option, Some, None}
use Rattle.text_words.specs.Writing.{hex_word}
use Rattle.pico_board.specs.declared.Step.{Step}
use Rattle.pico_board.specs.declared.step.Step.TheVariants as steps
use Rattle.svg_marks.specs.declared.class.Class.{Class}
use Rattle.svg_marks.specs.declared.class.Class.TheVariants.{Former, Finished, Chance, Span, Erase, Program, Raise, Legend, Window, Row, Join, Starts}
use Rattle.svg_marks.specs.declared.mark.Area.{Area}
use Rattle.svg_marks.specs.declared.mark.Colour.{Colour}
use Rattle.svg_marks.specs.declared.mark.Colour.TheVariants.{Ink, Grey, Blue, Orange, Slate, Sky, White}
use Rattle.svg_marks.specs.Marks.{Mark, Plain, Rect, Label, Caption, Strip, StripEnd, Picture, area_at, class_word}
use Rattle.svg_marks.specs.Reading.{is_class, words_by}
use Rattle.svg_sweep.specs.declared.runs.Run.{Run}
use Rattle.svg_sweep.specs.Runs.{chance_runs, class_count, runs}

-- what a picture shows: the steps of a session, the result of a loss of power before and within
-- each, and the result of the whole session
pub record Chart : Type 0 where
  pub steps : List Step
  pub before : List Class
  pub within : List Class
  pub end_ : Class

-- the kind of a step
abbrev pub class_of_step : Step → Class
class_of_step (steps.Erase sector) = Erase
class_of_step (steps.Program page bytes) = Program
class_of_step (steps.Raise row bits) = Raise

-- the flash offset of a step, or the row of a raise
abbrev pub offset_of_step : Step → ℕ
offset_of_step (steps.Erase sector) = 4096 * sector
offset_of_step (steps.Program page bytes) = 256 * page
offset_of_step (steps.Raise row bits) = row

abbrev pub offset_by : Option Step → ℕ
offset_by None = 0
offset_by (Some step) = offset_of_step step

abbrev pub class_colour : Class → Colour
class_colour Former = Grey
class_colour Finished = Blue
class_colour Chance = Orange
class_colour Span = Ink
class_colour Erase = Slate
class_colour Program = Sky
class_colour Raise = Ink
class_colour Legend = Ink
class_colour Window = Ink
class_colour Row = Ink
class_colour Join = Ink
class_colour Starts = Ink

-- a run in a strip, one unit a step
abbrev pub run_area : Run → Area
run_area run = area_at run.first 0 (run.last + 1 - run.first) 1

-- `I to J`, the first and the last step of a run
unfoldable pub run_span_text : Run → List ℕ
run_span_text run = decimal run.first ++ (codes " to " ++ decimal run.last)

-- `before I to J former`, and the like
unfoldable pub run_title : List ℕ → Run → List ℕ
run_title part run = part ++ (codes " "
    ++ (run_span_text run ++ (codes " " ++ class_word run.class)))

-- `erase H to H`, the flash offsets of the first and of the last step of a run
unfoldable pub kind_title : List Step → Run → List ℕ
kind_title steps run =
    class_word run.class ++ (codes " " ++ (hex_word (offset_by (slice_get steps run.first))
    ++ (codes " to " ++ hex_word (offset_by (slice_get steps run.last)))))

-- the rectangle of a run of results, and that of a run of kinds
abbrev pub bar : List ℕ → Run → Mark
bar part run = Rect run.class (run_area run) (class_colour run.class) (run_title part run)

abbrev pub kind_bar : List Step → Run → Mark
kind_bar steps run = Rect run.class (run_area run) (class_colour run.class) (kind_title steps run)

-- The frame of a strip. A white line in it keeps narrow runs at an end apart from the frame. A
-- dark ground shows narrow runs among light ones.
unfoldable pub strip_frame : ℕ → List Mark
strip_frame top =
    Plain (area_at 118 (top - 2) 804 28) Ink ∷ Plain (area_at 119 (top - 1) 802 26) White
    ∷ Plain (area_at 120 top 800 24) Ink ∷ []

-- the words of a row on its left, the frame of its strip, and the beginning of the strip of so
-- many steps
unfoldable pub row_front : List ℕ → ℕ → ℕ → List Mark
row_front name top n =
    Label 24 (top + 17) name ∷ (strip_frame top ++ (Strip (area_at 120 top 800 24) n ∷ []))

-- The chance run of this number in its row is named below the row: five to a line, which are 160
-- apart, and the lines 20.
abbrev pub span : ℕ → ℕ → Run → Mark
span top k run = Caption Span (120 + 160 * (k % 5)) (top + 44 + 20 * (k / 5)) (run_span_text run)

abbrev pub spans_from : ℕ → ℕ → List Run → List Mark
spans_from top k [] = []
spans_from top k (run ∷ runs) = span top k run ∷ spans_from top (k + 1) runs

-- how high the lines are that name so many runs
abbrev pub spans_height : ℕ → ℕ
spans_height n = 20 * ((n + 4) / 5)

-- a row of results: its strip, and the names of its chance runs below
unfoldable pub result_row : List ℕ → ℕ → List Class → List Mark
result_row part top classes =
    row_front part top (length classes) ++ (map (bar part) (runs classes)
    ++ (StripEnd ∷ spans_from top 0 (chance_runs (runs classes))))

-- how high a row of results is
abbrev pub results_height : List Class → ℕ
results_height classes = 44 + spans_height (length (chance_runs (runs classes)))

-- `steps 0 to N`, N the last step of so many
unfoldable pub steps_text : ℕ → List ℕ
steps_text n = codes "steps 0 to " ++ decimal (n - 1)

-- the row of kinds, and below it which steps there are
unfoldable pub kind_row : ℕ → List Step → List Mark
kind_row top steps =
    row_front (codes "steps") top (length steps)
    ++ (map (kind_bar steps) (runs (map class_of_step steps))
    ++ (StripEnd ∷ Label 120 (top + 42) (steps_text (length steps)) ∷ []))

-- the result of the whole session
unfoldable pub end_row : ℕ → Class → List Mark
end_row top class =
    Label 24 (top + 17) (codes "end") ∷ Plain (area_at 119 (top - 1) 26 26) Ink
    ∷ Rect class (area_at 120 top 24 24) (class_colour class) (codes "end " ++ class_word class)
    ∷ Label 156 (top + 17) (class_word class) ∷ []

-- a small rectangle of a colour, left of words that begin 22 right of it
unfoldable pub swatch : ℕ → ℕ → Colour → List Mark
swatch x y colour =
    Plain (area_at (x - 1) (y - 13) 16 16) Ink ∷ Plain (area_at x (y - 12) 14 14) colour ∷ []

-- how many of the lines of the sweep have this result
abbrev pub count_of : Class → List Class → List Class → ℕ
count_of class before within = class_count class before + class_count class within

-- `former A`, and the like
unfoldable pub legend_text : Class → ℕ → List ℕ
legend_text class n = class_word class ++ (codes " " ++ decimal n)

unfoldable pub legend_entry : ℕ → ℕ → Class → ℕ → List Mark
legend_entry x y class n =
    swatch x y (class_colour class) ++ (Caption Legend (x + 22) y (legend_text class n) ∷ [])

unfoldable pub legend : ℕ → List Class → List Class → List Mark
legend y before within =
    legend_entry 120 y Former (count_of Former before within)
    ++ (legend_entry 320 y Finished (count_of Finished before within)
    ++ legend_entry 520 y Chance (count_of Chance before within))

-- the colours of kinds, with their words
unfoldable pub kind_legend : ℕ → List Mark
kind_legend y =
    swatch 120 y (class_colour Erase)
    ++ (Label 142 y (codes "erase") ∷ swatch 320 y (class_colour Program))
    ++ (Label 342 y (codes "program") ∷ [])

-- `chart steps=N former=A finished=B chance=C`
unfoldable pub chart_words : List Step → List Class → List Class → List ℕ
chart_words steps before within =
    codes "chart steps=" ++ (decimal (length steps) ++ (codes " former="
    ++ (decimal (count_of Former before within) ++ (codes " finished="
    ++ (decimal (count_of Finished before within) ++ (codes " chance="
    ++ decimal (count_of Chance before within)))))))

-- where the row of `within` begins, and where the row of the end begins, if there are steps
abbrev pub within_top : List Class → ℕ
within_top before = 84 + results_height before

abbrev pub end_top : List Class → List Class → ℕ
end_top before within = within_top before + results_height within

-- the rows of the steps
unfoldable pub step_rows : List Step → List Class → List Class → List Mark
step_rows steps before within =
    kind_row 24 steps ++ (result_row (codes "before") 84 before
    ++ result_row (codes "within") (within_top before) within)

-- the result of the whole session and the legend, from this place on
unfoldable pub end_rows : ℕ → List Class → List Class → Class → List Mark
end_rows top before within end_ = end_row top end_ ++ legend (top + 60) before within

-- the marks of a picture; a sweep of no step has the end and the legend alone
abbrev pub marks_by : List Step → List Class → List Class → Class → List Mark
marks_by [] before within end_ = end_rows 24 before within end_
marks_by (step ∷ steps) before within end_ =
    step_rows (step ∷ steps) before within ++ (end_rows (end_top before within) before within end_
    ++ kind_legend (end_top before within + 84))

abbrev pub height_by : List Step → List Class → List Class → ℕ
height_by [] before within = 108
height_by (step ∷ steps) before within = end_top before within + 108

-- The picture of a sweep: its title is what the command says of it, and other words say what it
-- shows.
unfoldable pub picture_of : Chart → List ℕ → Picture
picture_of chart desc = record {
  height = height_by chart.steps chart.before chart.within;
  title = chart_words chart.steps chart.before chart.within;
  desc = desc;
  marks = marks_by chart.steps chart.before chart.within chart.end_;
}

-- the titles of the runs of a class
abbrev pub titles : Class → (Run → List ℕ) → List Run → List (List ℕ)
titles class title [] = []
titles class title (run ∷ runs) =
    words_by (is_class class run.class) (title run) ++ titles class title runs

-- the names of runs, where spans are asked for
abbrev pub names : Class → List Run → List (List ℕ)
names class [] = []
names class (run ∷ runs) = words_by (is_class class Span) (run_span_text run) ++ names class runs

-- what is counted under a class in a row of results: its runs, and the names of its chance runs
abbrev pub counted_row : Class → List ℕ → List Class → List (List ℕ)
counted_row class part classes =
    titles class (run_title part) (runs classes) ++ names class (chance_runs (runs classes))

-- what is counted under a class in the rows of the steps: of their kinds, and of results before
-- and within them; nothing where there are no steps
abbrev pub counted_rows : Class → List Step → List Class → List Class → List (List ℕ)
counted_rows class [] before within = []
counted_rows class (step ∷ steps) before within =
    titles class (kind_title (step ∷ steps)) (runs (map class_of_step (step ∷ steps)))
    ++ (counted_row class (codes "before") before ++ counted_row class (codes "within") within)

-- what is counted under a class in the end and the legend
abbrev pub counted_end : Class → Chart → List (List ℕ)
counted_end class chart =
    words_by (is_class class chart.end_) (codes "end " ++ class_word chart.end_)
    ++ (words_by (is_class class Legend)
    (legend_text Former (count_of Former chart.before chart.within))
    ++ (words_by (is_class class Legend)
    (legend_text Finished (count_of Finished chart.before chart.within))
    ++ words_by (is_class class Legend)
    (legend_text Chance (count_of Chance chart.before chart.within))))

-- the words of all marks of a class that a chart has, in their order
abbrev pub counted_in_chart : Class → Chart → List (List ℕ)
counted_in_chart class chart =
    counted_rows class chart.steps chart.before chart.within ++ counted_end class chart
