-- What the picture of a flash has. The picture is 960 wide. A column on its left is the flash from
-- its first byte, at the top, to its last. Words begin at 160 and are 14 high. A line of them has
-- at most 80 letters, and after these a blank and the word `starts`. Each letter is at most 9
-- points wide.
use Rattle.std.specs.Prelude.{ℕ, ◌+◌, ◌-◌, ◌*◌, ◌/◌, ◌%◌, ◌==◌, Bool, if◌then◌else◌, max, List, [], ◌∷◌, ◌++◌, length, map, codes, decimal, string_bytes}
use Rattle.text_words.specs.Writing.{hex_word}
use Rattle.pico_board.specs.declared.window.Window.{Window}
use Rattle.pico_board.specs.Content.{flash_base}
use Rattle.svg_marks.specs.declared.class.Class.{Class}
use Rattle.svg_marks.specs.declared.class.Class.TheVariants as classes
use Rattle.svg_marks.specs.declared.mark.Colour.{Colour}
use Rattle.svg_marks.specs.declared.mark.Colour.TheVariants.{Ink, Grey, Blue, Orange, Slate, Sky}
use Rattle.svg_marks.specs.Breaks.{line_count}
use Rattle.svg_marks.specs.Marks.{Mark, Plain, Rect, Column, StripEnd, Line, Lines, Picture, area_at, line_height, line_words}
use Rattle.svg_map.specs.declared.bars.MapBar.{MapBar}

-- what is drawn of a window: where it lies, what is said of it, whether it is free, and whether a
-- boot starts it
pub record MapBarView : Type 0 where
  pub window : Window
  pub words : List ℕ
  pub free : Bool
  pub starts : Bool

abbrev pub bar_from : MapBar → MapBarView
bar_from bar = record {
  window = bar.window;
  words = string_bytes bar.words;
  free = bar.free;
  starts = bar.starts;
}

-- `H to H`, the flash addresses of a window's first and last byte
unfoldable pub window_span_text : Window → List ℕ
window_span_text w =
    hex_word (flash_base + w.start)
    ++ (codes " to " ++ hex_word (flash_base + w.start + w.len - 1))

-- the whole row of a window
abbrev pub row_words : MapBarView → List ℕ
row_words bar = line_words bar.words bar.starts

-- `map windows=N`
unfoldable pub map_words : ℕ → List ℕ
map_words n = codes "map windows=" ++ decimal n

-- the colour of the window of this number: neighbours have different ones
abbrev pub bar_colour : ℕ → MapBarView → Colour
bar_colour k bar =
    if bar.free then Grey else
    if bar.starts then Orange else
    if k % 2 == 0 then Blue else Sky

-- the rectangle of the window of this number, in a column of one unit a byte
abbrev pub window_mark : ℕ → MapBarView → Mark
window_mark k bar =
    Rect classes.Window (area_at 0 bar.window.start 1 bar.window.len) (bar_colour k bar)
    (row_words bar)

abbrev pub windows_from : ℕ → List MapBarView → List Mark
windows_from k [] = []
windows_from k (bar ∷ bars) = window_mark k bar ∷ windows_from (k + 1) bars

-- how high a row is, with what is free below it
abbrev pub bar_height : MapBarView → ℕ
bar_height bar = line_height * line_count bar.words + 8

abbrev pub rows_height : List MapBarView → ℕ
rows_height [] = 0
rows_height (bar ∷ bars) = bar_height bar + rows_height bars

-- how high the column is
abbrev pub column_height : List MapBarView → ℕ
column_height bars = max 400 (rows_height bars)

-- how far the middle of a window is from the top of a column of this height
unfoldable pub middle : ℕ → ℕ → Window → ℕ
middle flash high w = (2 * w.start + w.len) * high / (2 * max 1 flash)

-- the line from the middle of a window's rectangle to its row
abbrev pub join_mark : ℕ → ℕ → ℕ → MapBarView → Mark
join_mark flash high top bar =
    Line classes.Join
    (record { x1 = 73; y1 = 24 + middle flash high bar.window; x2 = 138; y2 = top + 10 }) Slate
    (window_span_text bar.window)

-- The row of the window of this number, from this height on: the line that joins both, a small
-- rectangle of the window's colour, and what is said of the window.
unfoldable pub row_marks : ℕ → ℕ → ℕ → ℕ → MapBarView → List Mark
row_marks flash high k top bar =
    join_mark flash high top bar
    ∷ Plain (area_at 138 (top + 3) 14 14) Ink
    ∷ Plain (area_at 139 (top + 4) 12 12) (bar_colour k bar)
    ∷ Lines classes.Row 160 (top + 15) bar.words bar.starts ∷ []

abbrev pub rows_from : ℕ → ℕ → ℕ → ℕ → List MapBarView → List Mark
rows_from flash high k top [] = []
rows_from flash high k top (bar ∷ bars) =
    row_marks flash high k top bar ++ rows_from flash high (k + 1) (top + bar_height bar) bars

-- the column, with its frame, and the rows next to it
unfoldable pub map_marks : ℕ → ℕ → List MapBarView → List Mark
map_marks flash high bars =
    Plain (area_at 23 23 50 (high + 2)) Ink ∷ Column (area_at 24 24 48 high) flash
    ∷ (windows_from 0 bars ++ (StripEnd ∷ rows_from flash high 0 24 bars))

-- The picture of a flash of so many bytes with these windows. Its title is what the command says
-- of the flash, and other words say what the picture shows.
unfoldable pub map_picture : ℕ → List MapBarView → List ℕ → Picture
map_picture flash bars desc = record {
  height = column_height bars + 48;
  title = map_words (length bars);
  desc = desc;
  marks = map_marks flash (column_height bars) bars;
}

-- the word of each window that a boot starts
abbrev pub starts_words : List MapBarView → List (List ℕ)
starts_words [] = []
starts_words (bar ∷ bars) =
    if bar.starts then codes "starts" ∷ starts_words bars else starts_words bars

-- the words of all marks of a class that a picture of these windows has, in their order
abbrev pub counted_in_map : Class → List MapBarView → List (List ℕ)
counted_in_map classes.Window bars = map row_words bars
counted_in_map classes.Row bars = map row_words bars
counted_in_map classes.Join bars = map (λ (bar : MapBarView). window_span_text bar.window) bars
counted_in_map classes.Starts bars = starts_words bars
counted_in_map _ bars = []
