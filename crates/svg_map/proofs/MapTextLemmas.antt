-- A picture of windows whose words are texts is one of texts.
use Rattle.std.proofs.Common.{◌≡◌, ℕ, ◌+◌, ◌-◌, Bool, true, false, List, [], ◌∷◌, ◌++◌, length, refl}
use Rattle.std.specs.Prelude.{codes}
use Rattle.std.specs.List.{flat_map, list_all}
use Rattle.pico_board.specs.declared.window.Window.{Window}
use Rattle.pico_board.specs.Content.{flash_base}
use Rattle.std.proofs.lemmas.Grind.{flat_map-append}
use Rattle.svg_marks.specs.Marks.{StripEnd, picture_text, text_if}
use Rattle.svg_marks.specs.Texts.{is_printed_text, is_written, texts_of}
use Rattle.svg_marks.proofs.TextLemmas.{decimal-printed, hex-printed, picture-written, text-join, text-parts}
use Rattle.text_words.specs.Writing.{hex_word}
use Rattle.svg_map.specs.Maps.{MapBarView, column_height, map_marks, map_picture, map_words, bar_height, row_marks, row_words, rows_from, window_span_text, windows_from}

hex-text : (n : ℕ) → is_printed_text (hex_word n) ≡ true
hex-text n = hex-printed n

span-text : (w : Window) → is_printed_text (window_span_text w) ≡ true
unfolding window_span_text
span-text w =
    text-join (hex_word (flash_base + w.start)) _ (hex-text (flash_base + w.start))
    (hex-text (flash_base + w.start + w.len - 1))

row-text : (bar : MapBarView) → is_printed_text bar.words ≡ true → is_printed_text (row_words bar) ≡ true
row-text bar is = text-join bar.words (text_if bar.starts (codes " starts")) is (go bar.starts)
  where
    go : (starts : Bool) → is_printed_text (text_if starts (codes " starts")) ≡ true
    go true = refl
    go false = refl

-- the words of all windows
abbrev all_words : List MapBarView → List ℕ
all_words bars = flat_map (λ (bar : MapBarView). bar.words) bars

windows-text : (k : ℕ) (bars : List MapBarView) → is_printed_text (all_words bars) ≡ true
    → is_printed_text (flat_map texts_of (windows_from k bars)) ≡ true
windows-text k [] is = refl
windows-text k (bar ∷ bars) is =
    let parts = text-parts bar.words (all_words bars) is in
    text-join (row_words bar) (flat_map texts_of (windows_from (k + 1) bars)) (row-text bar parts.0)
    (windows-text (k + 1) bars parts.1)

marks-text : (flash high k top : ℕ) (bar : MapBarView) → is_printed_text bar.words ≡ true
    → is_printed_text (flat_map texts_of (row_marks flash high k top bar)) ≡ true
unfolding row_marks
marks-text flash high k top bar is =
    text-join (window_span_text bar.window) (bar.words ++ []) (span-text bar.window) (text-join bar.words [] is refl)

rows-text : (flash high k top : ℕ) (bars : List MapBarView) → is_printed_text (all_words bars) ≡ true
    → is_printed_text (flat_map texts_of (rows_from flash high k top bars)) ≡ true
rows-text flash high k top [] is = refl
rows-text flash high k top (bar ∷ bars) is =
    let parts = text-parts bar.words (all_words bars) is in
    let behind = rows_from flash high (k + 1) (top + bar_height bar) bars in
    rw (flat_map-append texts_of (row_marks flash high k top bar) behind)
    (text-join (flat_map texts_of (row_marks flash high k top bar)) (flat_map texts_of behind)
    (marks-text flash high k top bar parts.0) (rows-text flash high (k + 1) (top + bar_height bar) bars parts.1))

all-text : (flash high : ℕ) (bars : List MapBarView) → is_printed_text (all_words bars) ≡ true
    → is_printed_text (flat_map texts_of (map_marks flash high bars)) ≡ true
unfolding map_marks
all-text flash high bars is =
    rw (flat_map-append texts_of (windows_from 0 bars) (StripEnd ∷ rows_from flash high 0 24 bars))
    (text-join (flat_map texts_of (windows_from 0 bars)) (flat_map texts_of (rows_from flash high 0 24 bars))
    (windows-text 0 bars is) (rows-text flash high 0 24 bars is))

words-text : (n : ℕ) → is_printed_text (map_words n) ≡ true
unfolding map_words
words-text n = decimal-printed n

pub map-written : (flash : ℕ) (bars : List MapBarView) (desc : List ℕ) → is_printed_text desc ≡ true
    → is_printed_text (flat_map (λ (bar : MapBarView). bar.words) bars) ≡ true
    → list_all is_written (picture_text (map_picture flash bars desc)) ≡ true
unfolding map_picture
map-written flash bars desc first second =
    picture-written (map_picture flash bars desc) (record {
      title = words-text (length bars);
      desc = first;
      words = all-text flash (column_height bars) bars second;
    })
