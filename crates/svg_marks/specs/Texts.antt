-- Texts as a reader takes them from a file, and which bytes a file has. Source: XML 1.0, section
-- 4.6 (Predefined Entities). This is the project's own: all bytes are printed ASCII or line feeds.
use Rattle.std.specs.Prelude.{◌≡◌, ℕ, zero, suc, Bool, true, if◌then◌else◌, ◌==◌, ◌&&◌, ◌||◌, nat_le, List, [], ◌∷◌, codes}
use Rattle.std.specs.List.{flat_map, list_all}
use Rattle.svg_marks.specs.Marks.{Mark, Plain, Rect, Label, Caption, Strip, Column, StripEnd, Line, Lines, Picture}
use Rattle.svg_marks.specs.Reading.{begins}

-- the byte of a text that stands in a file, and how many bytes of its name stand after the first
pub record Named : Type 0 where
  pub byte : ℕ
  pub more : ℕ

-- what a text in a file begins with, where its first byte is this one
abbrev pub named_byte : ℕ → List ℕ → Named
named_byte b bytes =
    if begins (codes "&amp;") bytes then record { byte = 38; more = 4 } else
    if begins (codes "&lt;") bytes then record { byte = 60; more = 3 } else
    if begins (codes "&gt;") bytes then record { byte = 62; more = 3 } else
    if begins (codes "&quot;") bytes then record { byte = 34; more = 5 } else
    record { byte = b; more = 0 }

-- the text that stands in a file as these bytes, so many of which are passed over
abbrev pub unescaped_from : ℕ → List ℕ → List ℕ
unescaped_from passed [] = []
unescaped_from zero (b ∷ bytes) =
    (named_byte b (b ∷ bytes)).byte ∷ unescaped_from (named_byte b (b ∷ bytes)).more bytes
unescaped_from (suc passed) (b ∷ bytes) = unescaped_from passed bytes

-- the text that stands in a file as these bytes
abbrev pub unescaped : List ℕ → List ℕ
unescaped bytes = unescaped_from 0 bytes

-- a byte of a text: from the blank to the tilde
abbrev pub is_printed : ℕ → Bool
is_printed b = nat_le 32 b && nat_le b 126

-- a byte of a file: one of a text, or a line feed
abbrev pub is_written : ℕ → Bool
is_written b = (b == 10) || is_printed b

abbrev pub is_printed_text : List ℕ → Bool
is_printed_text text = list_all is_printed text

-- all words that stand in a mark, counted or not
abbrev pub texts_of : Mark → List ℕ
texts_of (Plain area colour) = []
texts_of (Rect class area colour title) = title
texts_of (Label x y words) = words
texts_of (Caption class x y words) = words
texts_of (Strip area units) = []
texts_of (Column area units) = []
texts_of StripEnd = []
texts_of (Line class ends colour title) = title
texts_of (Lines class x y words starts) = words

-- the title of a picture, what it shows and the words of its marks are texts
pub record HasTexts (p : Picture) : Type 0 where
  pub title : is_printed_text p.title ≡ true
  pub desc : is_printed_text p.desc ≡ true
  pub words : is_printed_text (flat_map texts_of p.marks) ≡ true
