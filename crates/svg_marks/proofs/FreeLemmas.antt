-- What has no byte of some value: numbers, colours, texts as they stand in a file.
use Rattle.std.proofs.Common.{◌≡◌, ℕ, zero, suc, ◌/◌, ◌%◌, ◌<◌, ◌≤◌, ◌==◌, Bool, true, false, List, [], ◌∷◌, ◌++◌, refl, ap, ◌∙◌, arith, decimal}
use Rattle.std.specs.Prelude.{if◌then◌else◌, codes}
use Rattle.std.specs.Fmt.{digits, digits_onto, digit_glyph}
use Rattle.std.proofs.lemmas.Bool.{and_parts, ne_eqb, lt-ltb}
use Rattle.svg_marks.specs.declared.mark.Colour.{Colour}
use Rattle.svg_marks.specs.declared.mark.Colour.TheVariants.{Ink, Grey, Blue, Orange, Slate, Sky, White}
use Rattle.svg_marks.specs.Marks.{colour_word, escaped, escaped_byte}
use Rattle.svg_marks.specs.Reading.{is_free_of, is_other}

pub other-ne : (mark b : ℕ) → is_other mark b ≡ true → (b == mark) ≡ false
other-ne mark b other = by_test (b == mark) other
  where
    by_test : (t : Bool) → (if t then false else true) ≡ true → t ≡ false
    by_test true h = cc h
    by_test false h = refl

pub free-append : (mark : ℕ) (xs ys : List ℕ) → is_free_of mark xs ≡ true → is_free_of mark ys ≡ true
    → is_free_of mark (xs ++ ys) ≡ true
free-append mark [] ys first second = second
free-append mark (x ∷ xs) ys first second =
    let parts = and_parts (is_other mark x) (is_free_of mark xs) first in
    rw parts.0 (free-append mark xs ys parts.1 second)

free-if : (mark : ℕ) (b : Bool) (x y : List ℕ) → is_free_of mark x ≡ true → is_free_of mark y ≡ true
    → is_free_of mark (if b then x else y) ≡ true
free-if mark true x y first second = first
free-if mark false x y first second = second

-- a mark behind the decimal digits
module _ (mark : ℕ) (high : 58 ≤ mark) where
  glyph-low : (n : ℕ) → digit_glyph false (n % 10) < 58
  glyph-low n = let low : n % 10 < 10 = omega arith in rw (lt-ltb (n % 10) 10 low) (omega arith)

  glyph-other : (n : ℕ) → is_other mark (digit_glyph false (n % 10)) ≡ true
  glyph-other n =
      let low = glyph-low n in rw (ne_eqb (digit_glyph false (n % 10)) mark (omega arith)) refl

  free-glyph : (n : ℕ) (acc : List ℕ) → is_free_of mark acc ≡ true
      → is_free_of mark (digit_glyph false (n % 10) ∷ acc) ≡ true
  free-glyph n acc free = rw (glyph-other n) free

  onto-free : (fuel n : ℕ) (acc : List ℕ) → is_free_of mark acc ≡ true
      → is_free_of mark (digits_onto fuel 10 false n acc) ≡ true
  onto-free zero n acc free = free
  onto-free (suc fuel) n acc free =
      let more = free-glyph n acc free in
      free-if mark (n / 10 == 0) (digit_glyph false (n % 10) ∷ acc)
      (digits_onto fuel 10 false (n / 10) (digit_glyph false (n % 10) ∷ acc)) more
      (onto-free fuel (n / 10) (digit_glyph false (n % 10) ∷ acc) more)

  digits-fuel : (n : ℕ) → digits 10 false n ≡ digits_onto 64 10 false n []
  unfolding digits
  digits-fuel n = refl

  pub free-decimal : (n : ℕ) → is_free_of mark (decimal n) ≡ true
  free-decimal n = ap (λ ds. is_free_of mark ds) (digits-fuel n) ∙ onto-free 64 n [] refl

-- a colour has no `c` and no tag's end
pub colour-c : (colour : Colour) → is_free_of 99 (colour_word colour) ≡ true
colour-c Ink = refl
colour-c Grey = refl
colour-c Blue = refl
colour-c Orange = refl
colour-c Slate = refl
colour-c Sky = refl
colour-c White = refl

pub colour-end : (colour : Colour) → is_free_of 62 (colour_word colour) ≡ true
colour-end Ink = refl
colour-end Grey = refl
colour-end Blue = refl
colour-end Orange = refl
colour-end Slate = refl
colour-end Sky = refl
colour-end White = refl

module _ (mark : ℕ) (amp : is_free_of mark (codes "&amp;") ≡ true) (less : is_free_of mark (codes "&lt;") ≡ true)
    (more : is_free_of mark (codes "&gt;") ≡ true) (quote : is_free_of mark (codes "&quot;") ≡ true) where
  -- a byte that has a name is not the mark, where each mark has one
  free-byte : ((b : ℕ) → (b == 38) ≡ false → (b == 60) ≡ false → (b == 62) ≡ false → (b == 34) ≡ false
      → is_other mark b ≡ true) → (b : ℕ) → is_free_of mark (escaped_byte b) ≡ true
  unfolding escaped_byte
  free-byte named b = first (b == 38) refl
    where
      fourth : (t : Bool) → (b == 38) ≡ false → (b == 60) ≡ false → (b == 62) ≡ false → (b == 34) ≡ t
          → is_free_of mark (if t then codes "&quot;" else b ∷ []) ≡ true
      fourth true a l m q = quote
      fourth false a l m q = rw (named b a l m q) refl

      third : (t : Bool) → (b == 38) ≡ false → (b == 60) ≡ false → (b == 62) ≡ t
          → is_free_of mark (if t then codes "&gt;" else if b == 34 then codes "&quot;" else b ∷ []) ≡ true
      third true a l m = more
      third false a l m = fourth (b == 34) a l m refl

      second : (t : Bool) → (b == 38) ≡ false → (b == 60) ≡ t
          → is_free_of mark (if t then codes "&lt;" else if b == 62 then codes "&gt;"
          else if b == 34 then codes "&quot;" else b ∷ []) ≡ true
      second true a l = less
      second false a l = third (b == 62) a l refl

      first : (t : Bool) → (b == 38) ≡ t
          → is_free_of mark (if t then codes "&amp;" else if b == 60 then codes "&lt;"
          else if b == 62 then codes "&gt;" else if b == 34 then codes "&quot;" else b ∷ []) ≡ true
      first true a = amp
      first false a = second (b == 60) a refl

  free-text : ((b : ℕ) → is_free_of mark (escaped_byte b) ≡ true) → (text : List ℕ)
      → is_free_of mark (escaped text) ≡ true
  free-text byte [] = refl
  free-text byte (b ∷ text) = free-append mark (escaped_byte b) (escaped text) (byte b) (free-text byte text)

not-true : (t : Bool) → t ≡ false → (if t then false else true) ≡ true
not-true true h = cc h
not-true false h = refl

-- a byte of a text in a file has no tag's begin, no tag's end and no quote
pub byte-less : (b : ℕ) → is_free_of 60 (escaped_byte b) ≡ true
byte-less = free-byte 60 refl refl refl refl (λ b a l m q. not-true (b == 60) l)

pub byte-more : (b : ℕ) → is_free_of 62 (escaped_byte b) ≡ true
byte-more = free-byte 62 refl refl refl refl (λ b a l m q. not-true (b == 62) m)

pub byte-quote : (b : ℕ) → is_free_of 34 (escaped_byte b) ≡ true
byte-quote = free-byte 34 refl refl refl refl (λ b a l m q. not-true (b == 34) q)

-- nor has a text
pub escaped-less : (text : List ℕ) → is_free_of 60 (escaped text) ≡ true
escaped-less = free-text 60 refl refl refl refl byte-less

pub escaped-more : (text : List ℕ) → is_free_of 62 (escaped text) ≡ true
escaped-more = free-text 62 refl refl refl refl byte-more

pub escaped-quote : (text : List ℕ) → is_free_of 34 (escaped text) ≡ true
escaped-quote = free-text 34 refl refl refl refl byte-quote
