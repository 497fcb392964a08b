-- What is counted in the picture of a flash is what its windows say.
use Rattle.std.proofs.Common.{◌≡◌, ℕ, ◌+◌, Bool, true, false, List, [], ◌∷◌, ◌++◌, length, map, refl, ap, ◌∙◌, append-nil}
use Rattle.std.specs.Prelude.{if◌then◌else◌, codes}
use Rattle.std.specs.List.{flat_map}
use Rattle.std.proofs.lemmas.Grind.{flat_map-append}
use Rattle.std.proofs.lemmas.List.{length-map}
use Rattle.std.proofs.lemmas.List.Concat.{flat_map_single}
use Rattle.svg_marks.specs.declared.class.Class.{Class}
use Rattle.svg_marks.specs.declared.class.Class.TheVariants.{Former, Finished, Chance, Span, Erase, Program, Raise, Legend, Window, Row, Join, Starts}
use Rattle.svg_marks.specs.Marks.{Mark, StripEnd, class_text, escaped, picture_text}
use Rattle.svg_marks.specs.Reading.{is_class, marks_in, starts_by, times, words_by, words_of_mark}
use Rattle.svg_marks.proofs.PictureLemmas.{picture-reads, picture-times}
use Rattle.svg_map.specs.Maps.{MapBarView, column_height, counted_in_map, map_marks, map_picture, bar_height, row_marks, row_words, rows_from, window_span_text, starts_words, windows_from}

-- what is counted under a class in the row of a window
abbrev row_found : Class → MapBarView → List (List ℕ)
row_found class bar =
    words_by (is_class class Join) (window_span_text bar.window)
    ++ (words_by (is_class class Row) (row_words bar) ++ starts_by class bar.starts)

module _ (class : Class) where
  -- the words of marks that are counted under the class
  abbrev found : List Mark → List (List ℕ)
  found marks = flat_map (words_of_mark class) marks

  windows-found : (k : ℕ) (bars : List MapBarView)
      → found (windows_from k bars) ≡ flat_map
      (λ (bar : MapBarView). words_by (is_class class Window) (row_words bar)) bars
  windows-found k [] = refl
  windows-found k (bar ∷ bars) =
      ap (λ z. words_by (is_class class Window) (row_words bar) ++ z) (windows-found (k + 1) bars)

  row-found : (flash high k top : ℕ) (bar : MapBarView) → found (row_marks flash high k top bar) ≡ row_found class bar
  unfolding row_marks
  row-found flash high k top bar =
      ap (λ z. words_by (is_class class Join) (window_span_text bar.window) ++ z) (append-nil _)

  rows-found : (flash high k top : ℕ) (bars : List MapBarView)
      → found (rows_from flash high k top bars) ≡ flat_map (row_found class) bars
  rows-found flash high k top [] = refl
  rows-found flash high k top (bar ∷ bars) =
      flat_map-append (words_of_mark class) (row_marks flash high k top bar) _
      ∙ (ap (λ z. z ++ found (rows_from flash high (k + 1) (top + bar_height bar) bars))
      (row-found flash high k top bar)
      ∙ ap (λ z. row_found class bar ++ z) (rows-found flash high (k + 1) (top + bar_height bar) bars))

  -- rows in which nothing of the class is found, or one word of each
  rows-none : ((bar : MapBarView) → row_found class bar ≡ []) → (bars : List MapBarView)
      → flat_map (row_found class) bars ≡ []
  rows-none none [] = refl
  rows-none none (bar ∷ bars) =
      ap (λ z. z ++ flat_map (row_found class) bars) (none bar) ∙ rows-none none bars

  rows-one : (word : MapBarView → List ℕ) → ((bar : MapBarView) → row_found class bar ≡ word bar ∷ [])
      → (bars : List MapBarView)
      → flat_map (row_found class) bars ≡ map word bars
  rows-one word one [] = refl
  rows-one word one (bar ∷ bars) =
      ap (λ z. z ++ flat_map (row_found class) bars) (one bar) ∙ ap (λ z. word bar ∷ z) (rows-one word one bars)

  -- where the class is none of a flash's, nothing is found
  starts-none : is_class class Starts ≡ false → (starts : Bool) → starts_by class starts ≡ []
  starts-none other true = ap (λ t. words_by t (codes "starts")) other
  starts-none other false = refl

-- no word of a window
no-windows : (bars : List MapBarView) → flat_map (λ (bar : MapBarView). words_by false (row_words bar)) bars ≡ []
no-windows [] = refl
no-windows (bar ∷ bars) = no-windows bars

starts-one : (starts : Bool) (rest : List (List ℕ))
    → starts_by Starts starts ++ rest ≡ (if starts then codes "starts" ∷ rest else rest)
starts-one true rest = refl
starts-one false rest = refl

starts-found : (bars : List MapBarView) → flat_map (row_found Starts) bars ≡ starts_words bars
starts-found [] = refl
starts-found (bar ∷ bars) =
    starts-one bar.starts (flat_map (row_found Starts) bars)
    ∙ ap (λ z. if bar.starts then codes "starts" ∷ z else z) (starts-found bars)

-- what is found in all
all-found : (class : Class) (bars : List MapBarView)
    → flat_map (λ (bar : MapBarView). words_by (is_class class Window) (row_words bar)) bars
    ++ flat_map (row_found class) bars
    ≡ counted_in_map class bars
all-found Window bars =
    ap (λ z. z ++ flat_map (row_found Window) bars) (flat_map_single row_words bars)
    ∙ (ap (λ z. map row_words bars ++ z) (rows-none Window (λ bar. starts-none Window refl bar.starts) bars)
    ∙ append-nil (map row_words bars))
all-found Row bars =
    ap (λ z. z ++ flat_map (row_found Row) bars) (no-windows bars)
    ∙ rows-one Row row_words (λ bar. ap (λ z. row_words bar ∷ z) (starts-none Row refl bar.starts)) bars
all-found Join bars =
    ap (λ z. z ++ flat_map (row_found Join) bars) (no-windows bars)
    ∙ rows-one Join (λ (bar : MapBarView). window_span_text bar.window)
    (λ bar. ap (λ z. window_span_text bar.window ∷ z) (starts-none Join refl bar.starts)) bars
all-found Starts bars = ap (λ z. z ++ flat_map (row_found Starts) bars) (no-windows bars) ∙ starts-found bars
all-found Former bars =
    ap (λ z. z ++ flat_map (row_found Former) bars) (no-windows bars)
    ∙ rows-none Former (λ bar. starts-none Former refl bar.starts) bars
all-found Finished bars =
    ap (λ z. z ++ flat_map (row_found Finished) bars) (no-windows bars)
    ∙ rows-none Finished (λ bar. starts-none Finished refl bar.starts) bars
all-found Chance bars =
    ap (λ z. z ++ flat_map (row_found Chance) bars) (no-windows bars)
    ∙ rows-none Chance (λ bar. starts-none Chance refl bar.starts) bars
all-found Span bars =
    ap (λ z. z ++ flat_map (row_found Span) bars) (no-windows bars)
    ∙ rows-none Span (λ bar. starts-none Span refl bar.starts) bars
all-found Erase bars =
    ap (λ z. z ++ flat_map (row_found Erase) bars) (no-windows bars)
    ∙ rows-none Erase (λ bar. starts-none Erase refl bar.starts) bars
all-found Program bars =
    ap (λ z. z ++ flat_map (row_found Program) bars) (no-windows bars)
    ∙ rows-none Program (λ bar. starts-none Program refl bar.starts) bars
all-found Raise bars =
    ap (λ z. z ++ flat_map (row_found Raise) bars) (no-windows bars)
    ∙ rows-none Raise (λ bar. starts-none Raise refl bar.starts) bars
all-found Legend bars =
    ap (λ z. z ++ flat_map (row_found Legend) bars) (no-windows bars)
    ∙ rows-none Legend (λ bar. starts-none Legend refl bar.starts) bars

marks-found : (class : Class) (flash high : ℕ) (bars : List MapBarView)
    → flat_map (words_of_mark class) (map_marks flash high bars) ≡ counted_in_map class bars
unfolding map_marks
marks-found class flash high bars =
    flat_map-append (words_of_mark class) (windows_from 0 bars) (StripEnd ∷ rows_from flash high 0 24 bars)
    ∙ (ap (λ z. z ++ flat_map (words_of_mark class) (rows_from flash high 0 24 bars)) (windows-found class 0 bars)
    ∙ (ap (λ z. flat_map (λ (bar : MapBarView). words_by (is_class class Window) (row_words bar)) bars ++ z)
    (rows-found class flash high 0 24 bars) ∙ all-found class bars))

pub map-reads : (class : Class) (flash : ℕ) (bars : List MapBarView) (desc : List ℕ)
    → marks_in class (picture_text (map_picture flash bars desc)) ≡ map escaped (counted_in_map class bars)
unfolding map_picture
map-reads class flash bars desc =
    picture-reads class (map_picture flash bars desc)
    ∙ ap (λ z. map escaped z) (marks-found class flash (column_height bars) bars)

pub map-times : (class : Class) (flash : ℕ) (bars : List MapBarView) (desc : List ℕ)
    → times (class_text class) (picture_text (map_picture flash bars desc)) ≡ length (counted_in_map class bars)
unfolding map_picture
map-times class flash bars desc =
    picture-times class (map_picture flash bars desc)
    ∙ ap length (marks-found class flash (column_height bars) bars)

pub long-windows : (bars : List MapBarView) → length (counted_in_map Window bars) ≡ length bars
long-windows bars = length-map bars row_words

pub long-joins : (bars : List MapBarView) → length (counted_in_map Join bars) ≡ length bars
long-joins bars = length-map bars (λ (bar : MapBarView). window_span_text bar.window)
