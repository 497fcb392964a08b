-- Texts are read back, and a picture of texts has ASCII alone.
use Rattle.std.proofs.Common.{◌≡◌, ℕ, zero, suc, ◌+◌, ◌-◌, ◌/◌, ◌%◌, ◌^◌, ◌<◌, ◌≤◌, ◌==◌, Bool, true, false, List, [], ◌∷◌, ◌++◌, length, map, refl, sym, ap, ◌∙◌, arith, inl, inr, decimal}
use Rattle.std.specs.Prelude.{if◌then◌else◌, ◌||◌, codes, nat_le, replicate}
use Rattle.std.specs.List.{flat_map, list_all}
use Rattle.std.specs.Fmt.{char_count, digits, digits_onto, digit_glyph, format_spec, padded_integral}
use Rattle.std.proofs.lemmas.Bool.{and_parts, cases_eq, cases_lt, le-ltb, lt-ltb, ne_eqb}
use Rattle.std.proofs.Math.Nat.{mod-lt}
use Rattle.std.proofs.lemmas.List.Folds.{list_all-append}
use Rattle.svg_marks.specs.declared.class.Class.{Class}
use Rattle.svg_marks.specs.declared.class.Class.TheVariants.{Former, Finished, Chance, Span, Erase, Program, Raise, Legend, Window, Row, Join, Starts}
use Rattle.svg_marks.specs.declared.mark.Area.{Area}
use Rattle.svg_marks.specs.declared.mark.Colour.{Colour}
use Rattle.svg_marks.specs.declared.mark.Colour.TheVariants.{Ink, Grey, Blue, Orange, Slate, Sky, White}
use Rattle.svg_marks.specs.declared.mark.Ends.{Ends}
use Rattle.svg_marks.specs.Breaks.{joined, broken_lines}
use Rattle.svg_marks.specs.Marks.{Mark, Plain, Rect, Label, Caption, Strip, Column, StripEnd, Line, Lines, Picture, area_text, class_text, class_word, colour_word, desc_text, ends_text, escaped, escaped_byte, fill_text, front_text, further_text, ground_text, next_line_text, lines_text, mark_text, open_text, picture_text, position_text, starts_text, stroke_text, title_text}
use Rattle.svg_marks.specs.Texts.{HasTexts, is_printed, is_printed_text, is_written, texts_of, unescaped, unescaped_from}
use Rattle.svg_marks.proofs.BreakLemmas.{joined-from}
use Rattle.svg_marks.proofs.MarkLemmas.{ne-swap}

-- a byte is read back
byte-read : (b : ℕ) (rest : List ℕ) → unescaped_from 0 (escaped_byte b ++ rest) ≡ b ∷ unescaped_from 0 rest
unfolding escaped_byte
byte-read b rest = elim (cases_eq b 38) [
  | inl e ↦ rw e refl
  | inr amp ↦ elim (cases_eq b 60) [
    | inl e ↦ rw e refl
    | inr less ↦ elim (cases_eq b 62) [
      | inl e ↦ rw e refl
      | inr more ↦ elim (cases_eq b 34) [
        | inl e ↦ rw e refl
        | inr quote ↦
            let a = ne_eqb b 38 amp in
            rw (a, ne_eqb b 60 less, ne_eqb b 62 more, ne_eqb b 34 quote, ne-swap 38 b a) refl
      ]
    ]
  ]
]

pub text-read : (text : List ℕ) → unescaped (escaped text) ≡ text
text-read [] = refl
text-read (b ∷ text) = byte-read b (escaped text) ∙ ap (λ z. b ∷ z) (text-read text)

pub same-text : (a b : List ℕ) → escaped a ≡ escaped b → a ≡ b
same-text a b same = sym (text-read a) ∙ (ap unescaped same ∙ text-read b)

pub texts-read : (texts : List (List ℕ)) → map unescaped (map escaped texts) ≡ texts
texts-read [] = refl
texts-read (text ∷ texts) = ap (λ z. z ∷ map unescaped (map escaped texts)) (text-read text)
    ∙ ap (λ z. text ∷ z) (texts-read texts)

-- bytes that a file may have
abbrev AreWritten : List ℕ → Type 0
AreWritten bytes = list_all is_written bytes ≡ true

join : (xs ys : List ℕ) → AreWritten xs → AreWritten ys → AreWritten (xs ++ ys)
join xs ys first second = list_all-append is_written xs ys ∙ rw (first, second) refl

printed-written : (b : ℕ) → is_printed b ≡ true → is_written b ≡ true
printed-written b is = go (b == 10) (is_printed b) is
  where
    go : (t p : Bool) → p ≡ true → (t || p) ≡ true
    go true p is = refl
    go false p is = is

one : (b : ℕ) → is_printed b ≡ true → AreWritten (b ∷ [])
one b is = rw (printed-written b is) refl

byte-written : (b : ℕ) → is_printed b ≡ true → AreWritten (escaped_byte b)
unfolding escaped_byte
byte-written b is = first (b == 38) (b == 60) (b == 62) (b == 34)
  where
    first : (p q r s : Bool) → AreWritten (if p then codes "&amp;" else if q then codes "&lt;"
        else if r then codes "&gt;" else if s then codes "&quot;" else b ∷ [])
    first true q r s = refl
    first false true r s = refl
    first false false true s = refl
    first false false false true = refl
    first false false false false = one b is

text-written : (text : List ℕ) → is_printed_text text ≡ true → AreWritten (escaped text)
text-written [] is = refl
text-written (b ∷ text) is =
    let parts = and_parts (is_printed b) (is_printed_text text) is in
    join (escaped_byte b) (escaped text) (byte-written b parts.0) (text-written text parts.1)

-- texts one behind the other
pub text-join : (xs ys : List ℕ) → is_printed_text xs ≡ true → is_printed_text ys ≡ true
    → is_printed_text (xs ++ ys) ≡ true
text-join xs ys first second = list_all-append is_printed xs ys ∙ rw (first, second) refl

pub text-parts : (xs ys : List ℕ) → is_printed_text (xs ++ ys) ≡ true
    → (is_printed_text xs ≡ true) × (is_printed_text ys ≡ true)
text-parts xs ys is = and_parts (is_printed_text xs) (is_printed_text ys) (sym (list_all-append is_printed xs ys) ∙ is)

all-written : (text : List ℕ) → is_printed_text text ≡ true → AreWritten text
all-written [] is = refl
all-written (b ∷ text) is =
    let parts = and_parts (is_printed b) (is_printed_text text) is in
    rw (printed-written b parts.0) (all-written text parts.1)

printed : (b : ℕ) → 32 ≤ b → b ≤ 126 → is_printed b ≡ true
printed b low high =
    let above : nat_le 32 b ≡ true = grind arith in
    let below : nat_le b 126 ≡ true = grind arith in rw (above, below) refl

glyph-printed : (d : ℕ) → d < 16 → is_printed (digit_glyph false d) ≡ true
glyph-printed d low =
    elim (cases_lt d 10) [
      | inl lt ↦ rw (lt-ltb d 10 lt) (printed (48 + d) (omega arith) (omega arith))
      | inr le ↦ rw (le-ltb d 10 le) (printed (87 + d) (omega arith) (omega arith))
    ]

-- digits are a text
module _ (base : ℕ) (some : 0 < base) (few : base ≤ 16) where
  onto-printed : (fuel n : ℕ) (acc : List ℕ) → is_printed_text acc ≡ true
      → is_printed_text (digits_onto fuel base false n acc) ≡ true
  onto-printed zero n acc is = is
  onto-printed (suc fuel) n acc is =
      let low : n % base < base = mod-lt n some in
      let more : is_printed_text (digit_glyph false (n % base) ∷ acc) ≡ true =
      rw (glyph-printed (n % base) (omega arith)) is in
      go (n / base == 0) more (onto-printed fuel (n / base) (digit_glyph false (n % base) ∷ acc) more)
    where
      go : (t : Bool) → is_printed_text (digit_glyph false (n % base) ∷ acc) ≡ true
          → is_printed_text (digits_onto fuel base false (n / base) (digit_glyph false (n % base) ∷ acc)) ≡ true
          → is_printed_text (if t then digit_glyph false (n % base) ∷ acc
          else digits_onto fuel base false (n / base) (digit_glyph false (n % base) ∷ acc)) ≡ true
      go true first second = first
      go false first second = second

  digits-printed : (n : ℕ) → is_printed_text (digits base false n) ≡ true
  unfolding digits
  digits-printed n = onto-printed 64 n [] refl

pub decimal-printed : (n : ℕ) → is_printed_text (decimal n) ≡ true
decimal-printed n = digits-printed 10 (omega arith) (omega arith) n

zeros-printed : (n : ℕ) → is_printed_text (replicate n 48) ≡ true
zeros-printed zero = refl
zeros-printed (suc n) = zeros-printed n

-- eight hexadecimal digits or more
pub hex-printed : (n : ℕ)
    → is_printed_text (padded_integral (format_spec 32 0 4 8 (2 ^ 64 - 1)) false [] (digits 16 false n)) ≡ true
unfolding padded_integral char_count
hex-printed n =
    let zeros : ℕ = 8 - length (digits 16 false n) - 0 - 0 in
    text-join (replicate zeros 48) (digits 16 false n ++ []) (zeros-printed zeros)
    (text-join (digits 16 false n) [] (digits-printed 16 (omega arith) (omega arith) n) refl)

number : (n : ℕ) → AreWritten (decimal n)
number n = all-written (decimal n) (decimal-printed n)

pub word-printed : (class : Class) → is_printed_text (class_word class) ≡ true
word-printed Former = refl
word-printed Finished = refl
word-printed Chance = refl
word-printed Span = refl
word-printed Erase = refl
word-printed Program = refl
word-printed Raise = refl
word-printed Legend = refl
word-printed Window = refl
word-printed Row = refl
word-printed Join = refl
word-printed Starts = refl

word-written : (class : Class) → AreWritten (class_word class)
word-written class = all-written (class_word class) (word-printed class)

colour-written : (colour : Colour) → AreWritten (colour_word colour)
colour-written Ink = refl
colour-written Grey = refl
colour-written Blue = refl
colour-written Orange = refl
colour-written Slate = refl
colour-written Sky = refl
colour-written White = refl

-- a number, and what stands behind it
numbered : (n : ℕ) (rest : List ℕ) → AreWritten rest → AreWritten (decimal n ++ rest)
numbered n rest is = join (decimal n) rest (number n) is

area-written : (area : Area) → AreWritten (area_text area)
unfolding area_text
area-written area = numbered area.x _ (numbered area.y _ (numbered area.width _ (numbered area.height _ refl)))

ends-written : (ends : Ends) → AreWritten (ends_text ends)
unfolding ends_text
ends-written ends = numbered ends.x1 _ (numbered ends.y1 _ (numbered ends.x2 _ (numbered ends.y2 _ refl)))

place-written : (x y : ℕ) → AreWritten (position_text x y)
unfolding position_text
place-written x y = numbered x _ (numbered y _ refl)

class-written : (class : Class) → AreWritten (class_text class)
unfolding class_text
class-written class = join (class_word class) (codes "\"") (word-written class) refl

fill-written : (colour : Colour) → AreWritten (fill_text colour)
unfolding fill_text
fill-written colour = join (colour_word colour) (codes "\"") (colour-written colour) refl

stroke-written : (colour : Colour) → AreWritten (stroke_text colour)
unfolding stroke_text
stroke-written colour = join (colour_word colour) (codes "\"") (colour-written colour) refl

begin-written : (x : ℕ) → AreWritten (next_line_text x)
unfolding next_line_text
begin-written x = numbered x _ refl

furthers-written : (x : ℕ) (lines : List (List ℕ)) → is_printed_text (joined lines) ≡ true
    → AreWritten (flat_map (further_text x) lines)
furthers-written x [] is = refl
furthers-written x (line ∷ lines) is =
    let parts = text-parts line (joined lines) is in
    join (further_text x line) (flat_map (further_text x) lines)
    (join (next_line_text x) _ (begin-written x)
    (join (escaped line) (codes "</tspan>") (text-written line parts.0) refl))
    (furthers-written x lines parts.1)

lines-written : (x : ℕ) (lines : List (List ℕ)) → is_printed_text (joined lines) ≡ true
    → AreWritten (lines_text x lines)
lines-written x [] is = refl
lines-written x (line ∷ lines) is =
    let parts = text-parts line (joined lines) is in
    join (escaped line) _ (text-written line parts.0) (furthers-written x lines parts.1)

starts-written : (starts : Bool) → AreWritten (starts_text starts)
unfolding starts_text class_text
starts-written true = refl
starts-written false = refl

mark-written : (mark : Mark) → is_printed_text (texts_of mark) ≡ true → AreWritten (mark_text mark)
unfolding mark_text
mark-written (Plain area colour) is =
    join (area_text area) _ (area-written area) (join (fill_text colour) (codes "/>\n") (fill-written colour) refl)
mark-written (Rect class area colour title) is =
    join (class_text class) _ (class-written class) (join (area_text area) _ (area-written area)
    (join (fill_text colour) _ (fill-written colour)
    (join (escaped title) (codes "</title></rect>\n") (text-written title is) refl)))
mark-written (Label x y words) is =
    join (position_text x y) _ (place-written x y)
    (join (escaped words) (codes "</text>\n") (text-written words is) refl)
mark-written (Caption class x y words) is =
    join (class_text class) _ (class-written class) (join (position_text x y) _ (place-written x y)
    (join (escaped words) (codes "</text>\n") (text-written words is) refl))
mark-written (Strip area units) is =
    join (area_text area) _ (area-written area) (numbered units (codes " 1\" preserveAspectRatio=\"none\">\n") refl)
mark-written (Column area units) is =
    join (area_text area) _ (area-written area) (numbered units (codes "\" preserveAspectRatio=\"none\">\n") refl)
mark-written StripEnd is = refl
mark-written (Line class ends colour title) is =
    join (class_text class) _ (class-written class) (join (ends_text ends) _ (ends-written ends)
    (join (stroke_text colour) _ (stroke-written colour)
    (join (escaped title) (codes "</title></line>\n") (text-written title is) refl)))
mark-written (Lines class x y words starts) is =
    join (class_text class) _ (class-written class) (join (position_text x y) _ (place-written x y)
    (join (lines_text x (broken_lines words)) _
    (lines-written x (broken_lines words) (ap is_printed_text (joined-from 0 false words) ∙ is))
    (join (starts_text starts) (codes "</text>\n") (starts-written starts) refl)))

marks-written : (marks : List Mark) → is_printed_text (flat_map texts_of marks) ≡ true
    → AreWritten (flat_map mark_text marks)
marks-written [] is = refl
marks-written (mark ∷ marks) is =
    let parts = and_parts (is_printed_text (texts_of mark)) (is_printed_text (flat_map texts_of marks))
    (sym (list_all-append is_printed (texts_of mark) (flat_map texts_of marks)) ∙ is) in
    join (mark_text mark) (flat_map mark_text marks) (mark-written mark parts.0) (marks-written marks parts.1)

open-written : (height : ℕ) → AreWritten (open_text height)
unfolding open_text
open-written height = numbered height _ (numbered height _ refl)

ground-written : (height : ℕ) → AreWritten (ground_text height)
unfolding ground_text
ground-written height = numbered height _ refl

title-written : (height : ℕ) (title : List ℕ) → is_printed_text title ≡ true → AreWritten (title_text height title)
unfolding title_text
title-written height title is =
    join (open_text height) _ (open-written height)
    (join (escaped title) (codes "</title>\n") (text-written title is) refl)

desc-written : (height : ℕ) (desc : List ℕ) → is_printed_text desc ≡ true → AreWritten (desc_text height desc)
unfolding desc_text
desc-written height desc is =
    join (escaped desc) (ground_text height) (text-written desc is) (ground-written height)

pub picture-written : (p : Picture) → HasTexts p → list_all is_written (picture_text p) ≡ true
unfolding picture_text
picture-written p has =
    join (front_text p.height p.title p.desc) _
    (join (title_text p.height p.title) (desc_text p.height p.desc) (title-written p.height p.title has.title)
    (desc-written p.height p.desc has.desc))
    (join (flat_map mark_text p.marks) (codes "</svg>\n") (marks-written p.marks has.words) refl)
