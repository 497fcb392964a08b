-- The marks of a picture, and their bytes in an SVG file: SVG 1.1, chapters 5 (structure), 9
-- (basic shapes) and 10 (text). Which marks there are, and the order of their attributes, is this
-- project's own.
use Rattle.std.specs.Prelude.{ℕ, Bool, true, false, if◌then◌else◌, ◌==◌, List, [], ◌∷◌, ◌++◌, codes, decimal}
use Rattle.std.specs.List.{flat_map}
use Rattle.svg_marks.specs.declared.class.Class.{Class}
use Rattle.svg_marks.specs.declared.class.Class.TheVariants.{Former, Finished, Chance, Span, Erase, Program, Raise, Legend, Window, Row, Join, Starts}
use Rattle.svg_marks.specs.declared.mark.Area.{Area}
use Rattle.svg_marks.specs.declared.mark.Ends.{Ends}
use Rattle.svg_marks.specs.declared.mark.Colour.{Colour}
use Rattle.svg_marks.specs.declared.mark.Colour.TheVariants.{Ink, Grey, Blue, Orange, Slate, Sky, White}
use Rattle.svg_marks.specs.Breaks.{broken_lines}

-- the word of a class
abbrev pub class_word : Class → List ℕ
class_word Former = codes "former"
class_word Finished = codes "finished"
class_word Chance = codes "chance"
class_word Span = codes "span"
class_word Erase = codes "erase"
class_word Program = codes "program"
class_word Raise = codes "raise"
class_word Legend = codes "legend"
class_word Window = codes "window"
class_word Row = codes "row"
class_word Join = codes "join"
class_word Starts = codes "starts"

-- the area of this place and size
abbrev pub area_at : ℕ → ℕ → ℕ → ℕ → Area
area_at x y width height = record { x = x; y = y; width = width; height = height }

-- the six digits of a colour
abbrev pub colour_word : Colour → List ℕ
colour_word Ink = codes "1a1a1a"
colour_word Grey = codes "d0d0d0"
colour_word Blue = codes "00509e"
colour_word Orange = codes "e98a15"
colour_word Slate = codes "505050"
colour_word Sky = codes "9ed0f5"
colour_word White = codes "ffffff"

-- a byte of a text, as it stands in a file: `&`, `<`, `>` and the quote have names
unfoldable pub escaped_byte : ℕ → List ℕ
escaped_byte b =
    if b == 38 then codes "&amp;" else
    if b == 60 then codes "&lt;" else
    if b == 62 then codes "&gt;" else
    if b == 34 then codes "&quot;" else b ∷ []

-- a text, as it stands in a file
abbrev pub escaped : List ℕ → List ℕ
escaped text = flat_map escaped_byte text

pub data Mark : Type 0 where
  -- a rectangle that is not counted
  Plain : (area : Area) → (colour : Colour) → Mark
  -- a rectangle that is counted, with a title in it
  Rect : (class : Class) → (area : Area) → (colour : Colour) → (title : List ℕ) → Mark
  -- words that are not counted, from a place on
  Label : (x y : ℕ) → (words : List ℕ) → Mark
  -- words that are counted
  Caption : (class : Class) → (x y : ℕ) → (words : List ℕ) → Mark
  -- The marks up to the next end of a strip lie in this area. It is so many units wide, and one
  -- high.
  Strip : (area : Area) → (units : ℕ) → Mark
  -- The marks up to the next end of a strip lie in this area. It is so many units high, and one
  -- wide.
  Column : (area : Area) → (units : ℕ) → Mark
  -- the end of a strip or a column
  StripEnd : Mark
  -- a line that is counted, with a title in it
  Line : (class : Class) → (ends : Ends) → (colour : Colour) → (title : List ℕ) → Mark
  -- Words that are counted, in lines of 80 that are broken between words. Where this is asked for,
  -- a blank and the word `starts` follow. This word is counted too.
  Lines : (class : Class) → (x y : ℕ) → (words : List ℕ) → (starts : Bool) → Mark

-- where and how large, as attributes
unfoldable pub area_text : Area → List ℕ
area_text area =
    codes " x=\"" ++ (decimal area.x ++ (codes "\" y=\"" ++ (decimal area.y
    ++ (codes "\" width=\"" ++ (decimal area.width ++ (codes "\" height=\""
    ++ (decimal area.height ++ codes "\"")))))))

-- where words begin, as attributes
unfoldable pub position_text : ℕ → ℕ → List ℕ
position_text x y =
    codes " x=\"" ++ (decimal x ++ (codes "\" y=\"" ++ (decimal y ++ codes "\"")))

-- the two ends of a line, as attributes
unfoldable pub ends_text : Ends → List ℕ
ends_text ends =
    codes " x1=\"" ++ (decimal ends.x1 ++ (codes "\" y1=\"" ++ (decimal ends.y1
    ++ (codes "\" x2=\"" ++ (decimal ends.x2 ++ (codes "\" y2=\""
    ++ (decimal ends.y2 ++ codes "\"")))))))

unfoldable pub class_text : Class → List ℕ
class_text class = codes "class=\"" ++ (class_word class ++ codes "\"")

unfoldable pub fill_text : Colour → List ℕ
fill_text colour = codes " fill=\"#" ++ (colour_word colour ++ codes "\"")

unfoldable pub stroke_text : Colour → List ℕ
stroke_text colour = codes " stroke=\"#" ++ (colour_word colour ++ codes "\"")

-- how far the next line of words lies below a line
abbrev pub line_height : ℕ
line_height = 20

abbrev pub text_if : Bool → List ℕ → List ℕ
text_if true text = text
text_if false text = []

-- how a further line of words begins
unfoldable pub next_line_text : ℕ → List ℕ
next_line_text x = codes "<tspan x=\"" ++ (decimal x ++ codes "\" dy=\"20\">")

-- a further line of words, in an element of its own
abbrev pub further_text : ℕ → List ℕ → List ℕ
further_text x line = next_line_text x ++ (escaped line ++ codes "</tspan>")

-- Lines of words that begin at x: the first stands in the element of the words itself.
abbrev pub lines_text : ℕ → List (List ℕ) → List ℕ
lines_text x [] = []
lines_text x (line ∷ lines) = escaped line ++ flat_map (further_text x) lines

-- a blank and the word `starts`
unfoldable pub starts_text : Bool → List ℕ
starts_text starts =
    text_if starts
    (codes " <tspan " ++ (class_text Starts ++ codes " font-weight=\"bold\">starts</tspan>"))

-- words, with these after them or not
abbrev pub line_words : List ℕ → Bool → List ℕ
line_words words starts = words ++ text_if starts (codes " starts")

-- the bytes of a mark
unfoldable pub mark_text : Mark → List ℕ
mark_text (Plain area colour) =
    codes "<rect" ++ (area_text area ++ (fill_text colour ++ codes "/>\n"))
mark_text (Rect class area colour title) =
    codes "<rect " ++ (class_text class ++ (area_text area ++ (fill_text colour
    ++ (codes "><title>" ++ (escaped title ++ codes "</title></rect>\n")))))
mark_text (Label x y words) =
    codes "<text" ++ (position_text x y ++ (codes ">" ++ (escaped words ++ codes "</text>\n")))
mark_text (Caption class x y words) =
    codes "<text " ++ (class_text class ++ (position_text x y ++ (codes ">"
    ++ (escaped words ++ codes "</text>\n"))))
mark_text (Strip area units) =
    codes "<svg" ++ (area_text area ++ (codes " viewBox=\"0 0 " ++ (decimal units
    ++ codes " 1\" preserveAspectRatio=\"none\">\n")))
mark_text (Column area units) =
    codes "<svg" ++ (area_text area ++ (codes " viewBox=\"0 0 1 " ++ (decimal units
    ++ codes "\" preserveAspectRatio=\"none\">\n")))
mark_text StripEnd = codes "</svg>\n"
mark_text (Line class ends colour title) =
    codes "<line " ++ (class_text class ++ (ends_text ends ++ (stroke_text colour
    ++ (codes "><title>" ++ (escaped title ++ codes "</title></line>\n")))))
mark_text (Lines class x y words starts) =
    codes "<text " ++ (class_text class ++ (position_text x y ++ (codes " xml:space=\"preserve\">"
    ++ (lines_text x (broken_lines words) ++ (starts_text starts ++ codes "</text>\n")))))

-- how a picture of this height begins, up to its title
unfoldable pub open_text : ℕ → List ℕ
open_text height =
    codes "<svg xmlns=\"http://www.w3.org/2000/svg\" version=\"1.1\" width=\"960\" height=\""
    ++ (decimal height ++ (codes "\" viewBox=\"0 0 960 " ++ (decimal height
    ++ codes "\" font-family=\"monospace\" font-size=\"14\" fill=\"#1a1a1a\">\n<title>")))

-- the end of what a picture shows, and its white ground
unfoldable pub ground_text : ℕ → List ℕ
ground_text height =
    codes "</desc>\n<rect width=\"960\" height=\""
    ++ (decimal height ++ codes "\" fill=\"#ffffff\"/>\n")

-- the beginning of a picture of this height, and its title
unfoldable pub title_text : ℕ → List ℕ → List ℕ
title_text height title = open_text height ++ (escaped title ++ codes "</title>\n")

-- what a picture of this height shows, and its ground
unfoldable pub desc_text : ℕ → List ℕ → List ℕ
desc_text height desc = codes "<desc>" ++ (escaped desc ++ ground_text height)

-- what stands before the marks of a picture
abbrev pub front_text : ℕ → List ℕ → List ℕ → List ℕ
front_text height title desc = title_text height title ++ desc_text height desc

-- a picture: its height, its title, what it shows, its marks
pub record Picture : Type 0 where
  pub height : ℕ
  pub title : List ℕ
  pub desc : List ℕ
  pub marks : List Mark

-- the bytes of a picture
unfoldable pub picture_text : Picture → List ℕ
picture_text p =
    front_text p.height p.title p.desc ++ (flat_map mark_text p.marks ++ codes "</svg>\n")

-- the areas of the rectangles that are counted, in their order
abbrev pub rects_of : List Mark → List Area
rects_of [] = []
rects_of (Rect class area colour title ∷ marks) = area ∷ rects_of marks
rects_of (mark ∷ marks) = rects_of marks
