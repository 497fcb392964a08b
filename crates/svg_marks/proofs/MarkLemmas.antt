-- What stands in bytes that begin no class, and what is found at a class.
use Rattle.std.proofs.Common.{◌≡◌, ℕ, ◌==◌, Bool, true, false, List, [], ◌∷◌, ◌++◌, refl, sym, ap, ◌∙◌, append_assoc, inl, inr}
use Rattle.std.specs.Prelude.{if◌then◌else◌, ◌&&◌, codes}
use Rattle.std.proofs.lemmas.Bool.{and_parts, cases_eq, eq-eqb, ne_eqb}
use Rattle.svg_marks.specs.declared.class.Class.{Class}
use Rattle.svg_marks.specs.declared.class.Class.TheVariants.{Former, Finished, Chance, Span, Erase, Program, Raise, Legend, Window, Row, Join, Starts}
use Rattle.svg_marks.specs.Marks.{class_text, class_word}
use Rattle.svg_marks.specs.Reading.{begins, behind, is_class, is_free_of, is_other, words_by_mark, marks_in, same_words}
use Rattle.svg_marks.proofs.FreeLemmas.{other-ne}

-- two bytes that are told apart are told apart the other way round
pub ne-swap : (a b : ℕ) → (b == a) ≡ false → (a == b) ≡ false
ne-swap a b ne = elim (cases_eq a b) [
  | inl e ↦ let t : (b == a) ≡ true = eq-eqb b a (sym e) in let no : true ≡ false = sym t ∙ ne in cc
  | inr other ↦ ne_eqb a b other
]

pub behind-free : (mark : ℕ) (xs ys : List ℕ) → is_free_of mark xs ≡ true
    → behind mark (xs ++ ys) ≡ behind mark ys
behind-free mark [] ys free = refl
behind-free mark (x ∷ xs) ys free =
    let parts = and_parts (is_other mark x) (is_free_of mark xs) free in
    rw (other-ne mark x parts.0) (behind-free mark xs ys parts.1)

-- bytes without a `c` begin no class
pub skip : (class : Class) (xs ys : List ℕ) → is_free_of 99 xs ≡ true → marks_in class (xs ++ ys) ≡ marks_in class ys
unfolding class_text
skip class [] ys free = refl
skip class (x ∷ xs) ys free =
    let parts = and_parts (is_other 99 x) (is_free_of 99 xs) free in
    rw (ne-swap 99 x (other-ne 99 x parts.0)) (skip class xs ys parts.1)

-- no quote stands before the next tag, and there is one
abbrev pub calm : List ℕ → Bool
calm [] = false
calm (b ∷ bytes) = if b == 60 then true else if b == 34 then false else calm bytes

-- a word with a quote and no tag's begin does not begin such bytes
calm-none : (word bytes : List ℕ) → is_free_of 60 word ≡ true → is_free_of 34 word ≡ false → calm bytes ≡ true
    → begins word bytes ≡ false
calm-none [] bytes free quote is = cc
calm-none (w ∷ word) [] free quote is = cc
calm-none (w ∷ word) (b ∷ bytes) free quote is =
    let parts = and_parts (is_other 60 w) (is_free_of 60 word) free in
    elim (cases_eq b 60) [
      | inl e ↦ rw (e, other-ne 60 w parts.0) refl
      | inr no_tag ↦ elim (cases_eq b 34) [
        | inl e ↦ let no : false ≡ true = rw (ne_eqb b 60 no_tag, eq-eqb b 34 e) at is in cc
        | inr no_quote ↦
            let rest : calm bytes ≡ true = rw (ne_eqb b 60 no_tag, ne_eqb b 34 no_quote) at is in
            elim (cases_eq w 34) [
              | inl e ↦
                  let other : (34 == b) ≡ false = ne-swap 34 b (ne_eqb b 34 no_quote) in
                  rw (e, other) refl
              | inr ne ↦
                  let more : is_free_of 34 word ≡ false = rw (ne_eqb w 34 ne) at quote in
                  rw (calm-none word bytes parts.1 more rest) (and-false (w == b))
            ]
      ]
    ]
  where
    and-false : (b : Bool) → (b && false) ≡ false
    and-false true = refl
    and-false false = refl

pub calm-free : (xs ys : List ℕ) → is_free_of 34 xs ≡ true → calm ys ≡ true → calm (xs ++ ys) ≡ true
calm-free [] ys free is = is
calm-free (x ∷ xs) ys free is =
    let parts = and_parts (is_other 34 x) (is_free_of 34 xs) free in
    rw (other-ne 34 x parts.0, calm-free xs ys parts.1 is) (either (x == 60))
  where
    either : (t : Bool) → (if t then true else if false then false else true) ≡ true
    either true = refl
    either false = refl

class-60 : (class : Class) → is_free_of 60 (class_text class) ≡ true
unfolding class_text
class-60 Former = refl
class-60 Finished = refl
class-60 Chance = refl
class-60 Span = refl
class-60 Erase = refl
class-60 Program = refl
class-60 Raise = refl
class-60 Legend = refl
class-60 Window = refl
class-60 Row = refl
class-60 Join = refl
class-60 Starts = refl

class-34 : (class : Class) → is_free_of 34 (class_text class) ≡ false
unfolding class_text
class-34 class = refl

-- bytes without a quote, and such bytes behind them, begin no class
pub skip-free : (class : Class) (xs ys : List ℕ) → is_free_of 34 xs ≡ true → calm ys ≡ true
    → marks_in class (xs ++ ys) ≡ marks_in class ys
skip-free class [] ys free is = refl
skip-free class (x ∷ xs) ys free is =
    let parts = and_parts (is_other 34 x) (is_free_of 34 xs) free in
    rw (calm-none (class_text class) (x ∷ xs ++ ys) (class-60 class) (class-34 class) (calm-free (x ∷ xs) ys free is))
    (skip-free class xs ys parts.1 is)

-- a text before a tag begins no class
pub skip-text : (class : Class) (text rest : List ℕ) → is_free_of 34 text ≡ true
    → marks_in class (text ++ (60 ∷ rest)) ≡ marks_in class (60 ∷ rest)
skip-text class text rest free = skip-free class text (60 ∷ rest) free refl

-- a class begins with another exactly where they are the same
begins-word : (xs ys rest : List ℕ) → is_free_of 34 xs ≡ true → is_free_of 34 ys ≡ true
    → begins (xs ++ (34 ∷ [])) (ys ++ (34 ∷ rest)) ≡ same_words xs ys
begins-word [] [] rest first second = refl
begins-word [] (b ∷ ys) rest first second =
    let parts = and_parts (is_other 34 b) (is_free_of 34 ys) second in
    rw (ne-swap 34 b (other-ne 34 b parts.0)) refl
begins-word (a ∷ xs) [] rest first second =
    let parts = and_parts (is_other 34 a) (is_free_of 34 xs) first in
    rw (other-ne 34 a parts.0) refl
begins-word (a ∷ xs) (b ∷ ys) rest first second =
    let parts = and_parts (is_other 34 a) (is_free_of 34 xs) first in
    let more = and_parts (is_other 34 b) (is_free_of 34 ys) second in
    ap (λ t. (a == b) && t) (begins-word xs ys rest parts.1 more.1)

word-34 : (class : Class) → is_free_of 34 (class_word class) ≡ true
word-34 Former = refl
word-34 Finished = refl
word-34 Chance = refl
word-34 Span = refl
word-34 Erase = refl
word-34 Program = refl
word-34 Raise = refl
word-34 Legend = refl
word-34 Window = refl
word-34 Row = refl
word-34 Join = refl
word-34 Starts = refl

-- the rest of a class has no words
by-class : (own : Class) (t : Bool) (rest : List ℕ) (found : List (List ℕ))
    → words_by_mark t (codes "lass=\"" ++ (class_word own ++ (34 ∷ rest))) found ≡ words_by_mark t rest found
by-class own false rest found = refl
by-class Former true rest found = refl
by-class Finished true rest found = refl
by-class Chance true rest found = refl
by-class Span true rest found = refl
by-class Erase true rest found = refl
by-class Program true rest found = refl
by-class Raise true rest found = refl
by-class Legend true rest found = refl
by-class Window true rest found = refl
by-class Row true rest found = refl
by-class Join true rest found = refl
by-class Starts true rest found = refl

-- the rest of a class begins no class
rest-class : (class own : Class) (rest : List ℕ)
    → marks_in class (codes "lass=\"" ++ (class_word own ++ (34 ∷ rest))) ≡ marks_in class rest
unfolding class_text
rest-class class Former rest = refl
rest-class class Finished rest = refl
rest-class class Chance rest = refl
rest-class class Span rest = refl
rest-class class Erase rest = refl
rest-class class Program rest = refl
rest-class class Raise rest = refl
rest-class class Legend rest = refl
rest-class class Window rest = refl
rest-class class Row rest = refl
rest-class class Join rest = refl
rest-class class Starts rest = refl

-- the mark of a class is one of this class exactly where they are the same
pub at-class : (class own : Class) (rest : List ℕ)
    → marks_in class (class_text own ++ rest) ≡ words_by_mark (is_class class own) rest (marks_in class rest)
unfolding class_text
at-class class own rest =
    let behind_c : List ℕ = codes "lass=\"" ++ (class_word own ++ (34 ∷ rest)) in
    ap (λ z. marks_in class (codes "class=\"" ++ z)) (append_assoc (class_word own) (codes "\"") rest)
    ∙ (ap (λ t. words_by_mark t behind_c (marks_in class behind_c))
    (begins-word (class_word class) (class_word own) rest (word-34 class) (word-34 own))
    ∙ (ap (λ found. words_by_mark (is_class class own) behind_c found) (rest-class class own rest)
    ∙ by-class own (is_class class own) rest (marks_in class rest)))
