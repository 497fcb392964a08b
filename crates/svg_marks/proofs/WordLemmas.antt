-- The words of a mark that are read in its bytes.
use Rattle.std.proofs.Common.{◌≡◌, ℕ, Bool, true, false, List, [], ◌∷◌, ◌++◌, refl, sym, ap, ◌∙◌, arith, append_assoc, append-nil, decimal}
use Rattle.std.specs.Prelude.{codes}
use Rattle.std.specs.List.{flat_map}
use Rattle.std.proofs.lemmas.Bool.{and_parts}
use Rattle.std.proofs.lemmas.Grind.{flat_map-append}
use Rattle.svg_marks.specs.declared.class.Class.{Class}
use Rattle.svg_marks.specs.Breaks.{joined, broken_lines}
use Rattle.svg_marks.specs.Marks.{Lines, class_text, escaped, escaped_byte, further_text, next_line_text, line_words, lines_text, mark_text, position_text, starts_text, text_if}
use Rattle.svg_marks.specs.Reading.{Ended, Tag, Words, is_free_of, is_other, marks_in, words_from}
use Rattle.svg_marks.proofs.BreakLemmas.{joined-from}
use Rattle.svg_marks.proofs.FreeLemmas.{escaped-less, escaped-quote, free-decimal, other-ne}
use Rattle.svg_marks.proofs.MarkLemmas.{calm, skip, skip-free}

-- bytes without a tag's begin are words
pub words-free : (depth : ℕ) (xs ys : List ℕ) → is_free_of 60 xs ≡ true
    → words_from (Words depth) (xs ++ ys) ≡ xs ++ words_from (Words depth) ys
words-free depth [] ys free = refl
words-free depth (x ∷ xs) ys free =
    let parts = and_parts (is_other 60 x) (is_free_of 60 xs) free in
    rw (other-ne 60 x parts.0) (ap (λ zs. x ∷ zs) (words-free depth xs ys parts.1))

-- bytes without a tag's end are no words in a tag
tag-free : (depth : ℕ) (xs ys : List ℕ) → is_free_of 62 xs ≡ true
    → words_from (Tag depth) (xs ++ ys) ≡ words_from (Tag depth) ys
tag-free depth [] ys free = refl
tag-free depth (x ∷ xs) ys free =
    let parts = and_parts (is_other 62 x) (is_free_of 62 xs) free in
    rw (other-ne 62 x parts.0) (tag-free depth xs ys parts.1)

-- nothing is read behind the end
pub ended : (xs : List ℕ) → words_from Ended xs ≡ []
ended [] = refl
ended (x ∷ xs) = ended xs

-- a title in a rectangle, and in a line
pub title-words : (title rest : List ℕ)
    → words_from (Words 0) (codes "<title>" ++ (escaped title ++ (codes "</title></rect>\n" ++ rest))) ≡ escaped title
title-words title rest =
    words-free 1 (escaped title) (codes "</title></rect>\n" ++ rest) (escaped-less title)
    ∙ (ap (λ z. escaped title ++ z) (ended rest) ∙ append-nil (escaped title))

pub line-words : (title rest : List ℕ)
    → words_from (Words 0) (codes "<title>" ++ (escaped title ++ (codes "</title></line>\n" ++ rest))) ≡ escaped title
line-words title rest =
    words-free 1 (escaped title) (codes "</title></line>\n" ++ rest) (escaped-less title)
    ∙ (ap (λ z. escaped title ++ z) (ended rest) ∙ append-nil (escaped title))

-- the words of a text
pub text-words : (words rest : List ℕ)
    → words_from (Words 0) (escaped words ++ (codes "</text>\n" ++ rest)) ≡ escaped words
text-words words rest =
    words-free 0 (escaped words) (codes "</text>\n" ++ rest) (escaped-less words)
    ∙ (ap (λ z. escaped words ++ z) (ended rest) ∙ append-nil (escaped words))

-- a further line begins
line-begins : (x : ℕ) (rest : List ℕ) → words_from (Words 0) (next_line_text x ++ rest) ≡ words_from (Words 1) rest
unfolding next_line_text
line-begins x rest =
    ap (λ z. words_from (Words 0) (codes "<tspan x=\"" ++ z)) (append_assoc (decimal x) (codes "\" dy=\"20\">") rest)
    ∙ tag-free 1 (decimal x) (codes "\" dy=\"20\">" ++ rest) (free-decimal 62 (omega arith) x)

-- a further line is read as it is
further-words : (x : ℕ) (line rest : List ℕ)
    → words_from (Words 0) (further_text x line ++ rest) ≡ escaped line ++ words_from (Words 0) rest
further-words x line rest =
    ap (λ z. words_from (Words 0) z) (append_assoc (next_line_text x) (escaped line ++ codes "</tspan>") rest)
    ∙ (line-begins x ((escaped line ++ codes "</tspan>") ++ rest)
    ∙ (ap (λ z. words_from (Words 1) z) (append_assoc (escaped line) (codes "</tspan>") rest)
    ∙ words-free 1 (escaped line) (codes "</tspan>" ++ rest) (escaped-less line)))

-- a line and those behind it as they are joined
join-words : (line rest : List ℕ) (lines : List (List ℕ))
    → escaped line ++ (escaped (joined lines) ++ rest) ≡ escaped (line ++ joined lines) ++ rest
join-words line rest lines =
    sym (append_assoc (escaped line) (escaped (joined lines)) rest)
    ∙ ap (λ z. z ++ rest) (sym (flat_map-append escaped_byte line (joined lines)))

furthers-words : (x : ℕ) (lines : List (List ℕ)) (rest : List ℕ)
    → words_from (Words 0) (flat_map (further_text x) lines ++ rest)
    ≡ escaped (joined lines) ++ words_from (Words 0) rest
furthers-words x [] rest = refl
furthers-words x (line ∷ lines) rest =
    let behind : List ℕ = flat_map (further_text x) lines in
    ap (λ z. words_from (Words 0) z) (append_assoc (further_text x line) behind rest)
    ∙ (further-words x line (behind ++ rest)
    ∙ (ap (λ z. escaped line ++ z) (furthers-words x lines rest)
    ∙ join-words line (words_from (Words 0) rest) lines))

-- lines are read as they are
lines-words : (x : ℕ) (lines : List (List ℕ)) (rest : List ℕ)
    → words_from (Words 0) (lines_text x lines ++ rest) ≡ escaped (joined lines) ++ words_from (Words 0) rest
lines-words x [] rest = refl
lines-words x (line ∷ lines) rest =
    let behind : List ℕ = flat_map (further_text x) lines in
    ap (λ z. words_from (Words 0) z) (append_assoc (escaped line) behind rest)
    ∙ (words-free 0 (escaped line) (behind ++ rest) (escaped-less line)
    ∙ (ap (λ z. escaped line ++ z) (furthers-words x lines rest)
    ∙ join-words line (words_from (Words 0) rest) lines))

-- the word behind them, where it stands there
starts-words : (starts : Bool) (rest : List ℕ)
    → words_from (Words 0) (starts_text starts ++ (codes "</text>\n" ++ rest))
    ≡ escaped (text_if starts (codes " starts"))
unfolding starts_text class_text escaped_byte
starts-words true rest = ap (λ z. codes " starts" ++ z) (ended rest)
starts-words false rest = ended rest

pub all-words : (x : ℕ) (words : List ℕ) (starts : Bool) (rest : List ℕ)
    → words_from (Words 0) (lines_text x (broken_lines words) ++ (starts_text starts ++ (codes "</text>\n" ++ rest)))
    ≡ escaped (line_words words starts)
all-words x words starts rest =
    let tail : List ℕ = starts_text starts ++ (codes "</text>\n" ++ rest) in
    lines-words x (broken_lines words) tail
    ∙ (ap (λ z. escaped z ++ words_from (Words 0) tail) (joined-from 0 false words)
    ∙ (ap (λ z. escaped words ++ z) (starts-words starts rest)
    ∙ sym (flat_map-append escaped_byte words (text_if starts (codes " starts")))))

-- words in lines begin no class
furthers-calm : (x : ℕ) (lines : List (List ℕ)) (rest : List ℕ) → calm rest ≡ true
    → calm (flat_map (further_text x) lines ++ rest) ≡ true
unfolding next_line_text
furthers-calm x [] rest is = is
furthers-calm x (line ∷ lines) rest is = refl

module _ (class : Class) where
  begin-rest : (x : ℕ) (rest : List ℕ) → marks_in class (next_line_text x ++ rest) ≡ marks_in class rest
  unfolding next_line_text
  begin-rest x rest =
      ap (λ z. marks_in class (codes "<tspan x=\"" ++ z)) (append_assoc (decimal x) (codes "\" dy=\"20\">") rest)
      ∙ (skip class (codes "<tspan x=\"") _ refl
      ∙ (skip class (decimal x) _ (free-decimal 99 (omega arith) x) ∙ skip class (codes "\" dy=\"20\">") rest refl))

  further-rest : (x : ℕ) (line rest : List ℕ) → marks_in class (further_text x line ++ rest) ≡ marks_in class rest
  further-rest x line rest =
      ap (λ z. marks_in class z) (append_assoc (next_line_text x) (escaped line ++ codes "</tspan>") rest)
      ∙ (begin-rest x ((escaped line ++ codes "</tspan>") ++ rest)
      ∙ (ap (λ z. marks_in class z) (append_assoc (escaped line) (codes "</tspan>") rest)
      ∙ (skip-free class (escaped line) (codes "</tspan>" ++ rest) (escaped-quote line) refl
      ∙ skip class (codes "</tspan>") rest refl)))

  furthers-rest : (x : ℕ) (lines : List (List ℕ)) (rest : List ℕ)
      → marks_in class (flat_map (further_text x) lines ++ rest) ≡ marks_in class rest
  furthers-rest x [] rest = refl
  furthers-rest x (line ∷ lines) rest =
      let behind : List ℕ = flat_map (further_text x) lines in
      ap (λ z. marks_in class z) (append_assoc (further_text x line) behind rest)
      ∙ (further-rest x line (behind ++ rest) ∙ furthers-rest x lines rest)

  pub lines-rest : (x : ℕ) (lines : List (List ℕ)) (rest : List ℕ) → calm rest ≡ true
      → marks_in class (lines_text x lines ++ rest) ≡ marks_in class rest
  lines-rest x [] rest is = refl
  lines-rest x (line ∷ lines) rest is =
      let behind : List ℕ = flat_map (further_text x) lines in
      ap (λ z. marks_in class z) (append_assoc (escaped line) behind rest)
      ∙ (skip-free class (escaped line) (behind ++ rest) (escaped-quote line) (furthers-calm x lines rest is)
      ∙ furthers-rest x lines rest)

-- a front, and what stands behind it, are a mark
pub lines-mark : (class : Class) (x y : ℕ) (words : List ℕ) (starts : Bool) (front : List ℕ)
    → front ≡ codes "<text " ++ (class_text class ++ (position_text x y ++ codes " xml:space=\"preserve\">"))
    → front ++ (lines_text x (broken_lines words) ++ (starts_text starts ++ codes "</text>\n"))
    ≡ mark_text (Lines class x y words starts)
unfolding mark_text
lines-mark class x y words starts front is =
    let tail : List ℕ = lines_text x (broken_lines words) ++ (starts_text starts ++ codes "</text>\n") in
    ap (λ z. z ++ tail) is
    ∙ ap (λ z. codes "<text " ++ z) (append_assoc (class_text class) _ tail
    ∙ ap (λ z. class_text class ++ z) (append_assoc (position_text x y) (codes " xml:space=\"preserve\">") tail))
