-- The marks of a class that stand in the bytes of a picture are those of its data.
use Rattle.std.proofs.Common.{◌≡◌, ℕ, ◌≤◌, Bool, true, false, List, [], ◌∷◌, ◌++◌, length, map, refl, sym, ap, ◌∙◌, arith, append_assoc, append-nil, decimal}
use Rattle.std.specs.Prelude.{codes}
use Rattle.std.specs.List.{flat_map}
use Rattle.std.proofs.lemmas.List.{length-map, map-append}
use Rattle.svg_marks.specs.declared.class.Class.{Class}
use Rattle.svg_marks.specs.declared.class.Class.TheVariants.{Starts}
use Rattle.svg_marks.specs.declared.mark.Area.{Area}
use Rattle.svg_marks.specs.declared.mark.Colour.{Colour}
use Rattle.svg_marks.specs.declared.mark.Ends.{Ends}
use Rattle.svg_marks.specs.Breaks.{broken_lines}
use Rattle.svg_marks.specs.Marks.{Mark, Plain, Rect, Label, Caption, Strip, Column, StripEnd, Line, Lines, Picture, area_text, class_text, colour_word, desc_text, ends_text, escaped, escaped_byte, fill_text, ground_text, line_words, lines_text, mark_text, open_text, picture_text, position_text, starts_text, stroke_text, title_text}
use Rattle.svg_marks.specs.Reading.{Words, is_class, is_free_of, words_by_mark, marks_in, one_more, begins, starts_by, times, words_behind, words_by, words_from, words_of_mark}
use Rattle.svg_marks.proofs.FreeLemmas.{colour-c, colour-end, escaped-quote, free-append, free-decimal}
use Rattle.svg_marks.proofs.MarkLemmas.{at-class, behind-free, calm, skip, skip-text}
use Rattle.svg_marks.proofs.WordLemmas.{all-words, ended, line-words, lines-rest, text-words, title-words}

-- attributes have no mark above the digits that their names lack
module _ (mark : ℕ) (high : 58 ≤ mark) where
  number : (n : ℕ) (rest : List ℕ) → is_free_of mark rest ≡ true → is_free_of mark (decimal n ++ rest) ≡ true
  number n rest free = free-append mark (decimal n) rest (free-decimal mark high n) free

area-c : (area : Area) → is_free_of 99 (area_text area) ≡ true
unfolding area_text
area-c area =
    number 99 (omega arith) area.x _ (number 99 (omega arith) area.y _ (number 99 (omega arith) area.width _
    (number 99 (omega arith) area.height _ refl)))

area-end : (area : Area) → is_free_of 62 (area_text area) ≡ true
unfolding area_text
area-end area =
    number 62 (omega arith) area.x _ (number 62 (omega arith) area.y _ (number 62 (omega arith) area.width _
    (number 62 (omega arith) area.height _ refl)))

place-c : (x y : ℕ) → is_free_of 99 (position_text x y) ≡ true
unfolding position_text
place-c x y = number 99 (omega arith) x _ (number 99 (omega arith) y _ refl)

place-end : (x y : ℕ) → is_free_of 62 (position_text x y) ≡ true
unfolding position_text
place-end x y = number 62 (omega arith) x _ (number 62 (omega arith) y _ refl)

fill-c : (colour : Colour) → is_free_of 99 (fill_text colour) ≡ true
unfolding fill_text
fill-c colour = free-append 99 (colour_word colour) (codes "\"") (colour-c colour) refl

fill-end : (colour : Colour) → is_free_of 62 (fill_text colour) ≡ true
unfolding fill_text
fill-end colour = free-append 62 (colour_word colour) (codes "\"") (colour-end colour) refl

ends-c : (ends : Ends) → is_free_of 99 (ends_text ends) ≡ true
unfolding ends_text
ends-c ends =
    number 99 (omega arith) ends.x1 _ (number 99 (omega arith) ends.y1 _ (number 99 (omega arith) ends.x2 _
    (number 99 (omega arith) ends.y2 _ refl)))

ends-end : (ends : Ends) → is_free_of 62 (ends_text ends) ≡ true
unfolding ends_text
ends-end ends =
    number 62 (omega arith) ends.x1 _ (number 62 (omega arith) ends.y1 _ (number 62 (omega arith) ends.x2 _
    (number 62 (omega arith) ends.y2 _ refl)))

stroke-c : (colour : Colour) → is_free_of 99 (stroke_text colour) ≡ true
unfolding stroke_text
stroke-c colour = free-append 99 (colour_word colour) (codes "\"") (colour-c colour) refl

stroke-end : (colour : Colour) → is_free_of 62 (stroke_text colour) ≡ true
unfolding stroke_text
stroke-end colour = free-append 62 (colour_word colour) (codes "\"") (colour-end colour) refl

-- what a mark adds, where its words are found
found-by : (t : Bool) (words rest : List ℕ) (found : List (List ℕ)) → words_behind rest ≡ escaped words
    → words_by_mark t rest found ≡ map escaped (words_by t words) ++ found
found-by true words rest found is = ap (λ w. w ∷ found) is
found-by false words rest found is = refl

-- the word that is read at a class of its own
starts-word : (rest : List ℕ)
    → words_behind (codes " font-weight=\"bold\">starts</tspan>" ++ rest) ≡ escaped (codes "starts")
unfolding escaped_byte
starts-word rest = ap (λ z. codes "starts" ++ z) (ended rest)

-- no quote stands behind words in lines before a tag
tail-calm : (starts : Bool) (rest : List ℕ) → calm (starts_text starts ++ (codes "</text>\n" ++ rest)) ≡ true
unfolding starts_text
tail-calm true rest = refl
tail-calm false rest = refl

module _ (class : Class) where
  -- the front of a tag begins no class
  tag-rect : (rest : List ℕ) → marks_in class (codes "<rect" ++ rest) ≡ marks_in class rest
  unfolding class_text
  tag-rect rest = refl

  tag-text : (rest : List ℕ) → marks_in class (codes "<text" ++ rest) ≡ marks_in class rest
  unfolding class_text
  tag-text rest = refl

  end-rect : (rest : List ℕ) → marks_in class (codes "</title></rect>\n" ++ rest) ≡ marks_in class rest
  unfolding class_text
  end-rect rest = refl

  tag-line : (rest : List ℕ) → marks_in class (codes "<line" ++ rest) ≡ marks_in class rest
  unfolding class_text
  tag-line rest = refl

  end-line : (rest : List ℕ) → marks_in class (codes "</title></line>\n" ++ rest) ≡ marks_in class rest
  unfolding class_text
  end-line rest = refl

  front-lines : (rest : List ℕ) → marks_in class (codes " xml:space=\"preserve\">" ++ rest) ≡ marks_in class rest
  unfolding class_text
  front-lines rest = refl

  end-text : (rest : List ℕ) → marks_in class (codes "</text>\n" ++ rest) ≡ marks_in class rest
  unfolding class_text
  end-text rest = refl

  end-strip : (rest : List ℕ)
      → marks_in class (codes " 1\" preserveAspectRatio=\"none\">\n" ++ rest) ≡ marks_in class rest
  unfolding class_text
  end-strip rest = refl

  end-column : (rest : List ℕ)
      → marks_in class (codes "\" preserveAspectRatio=\"none\">\n" ++ rest) ≡ marks_in class rest
  unfolding class_text
  end-column rest = refl

  end-mark : (rest : List ℕ) → marks_in class (mark_text StripEnd ++ rest) ≡ marks_in class rest
  unfolding class_text mark_text
  end-mark rest = refl

  no-more : marks_in class (codes "</svg>\n") ≡ []
  unfolding class_text
  no-more = refl

  open-desc : (rest : List ℕ) → marks_in class (codes "<desc>" ++ rest) ≡ marks_in class rest
  unfolding class_text
  open-desc rest = refl

  end-desc : (rest : List ℕ)
      → marks_in class (codes "</desc>\n<rect width=\"960\" height=\"" ++ rest) ≡ marks_in class rest
  unfolding class_text
  end-desc rest = refl

  end-open : (rest : List ℕ)
      → marks_in class (codes "\" font-family=\"monospace\" font-size=\"14\" fill=\"#1a1a1a\">\n<title>" ++ rest)
      ≡ marks_in class rest
  unfolding class_text
  end-open rest = refl

  plain : (area : Area) (colour : Colour) (rest : List ℕ)
      → marks_in class (mark_text (Plain area colour) ++ rest) ≡ marks_in class rest
  unfolding mark_text
  plain area colour rest =
      ap (λ z. marks_in class (codes "<rect" ++ z)) (append_assoc (area_text area) _ rest
      ∙ ap (λ z. area_text area ++ z) (append_assoc (fill_text colour) _ rest))
      ∙ tag-rect _ ∙ skip class (area_text area) _ (area-c area) ∙ skip class (fill_text colour) _ (fill-c colour)
      ∙ skip class (codes "/>\n") rest refl

  -- a title in a rectangle
  titled : Area → Colour → List ℕ → List ℕ → List ℕ
  titled area colour title rest =
      area_text area ++ (fill_text colour ++ (codes "><title>" ++ (escaped title
      ++ (codes "</title></rect>\n" ++ rest))))

  titled-words : (area : Area) (colour : Colour) (title rest : List ℕ)
      → words_behind (titled area colour title rest) ≡ escaped title
  unfolding titled
  titled-words area colour title rest =
      ap (λ z. words_from (Words 0) z) (behind-free 62 (area_text area) _ (area-end area)
      ∙ behind-free 62 (fill_text colour) _ (fill-end colour))
      ∙ title-words title rest

  titled-rest : (area : Area) (colour : Colour) (title rest : List ℕ)
      → marks_in class (titled area colour title rest) ≡ marks_in class rest
  unfolding titled
  titled-rest area colour title rest =
      skip class (area_text area) _ (area-c area) ∙ skip class (fill_text colour) _ (fill-c colour)
      ∙ skip class (codes "><title>") _ refl ∙ skip-text class (escaped title) _ (escaped-quote title)
      ∙ end-rect rest

  rect : (own : Class) (area : Area) (colour : Colour) (title rest : List ℕ)
      → marks_in class (mark_text (Rect own area colour title) ++ rest)
      ≡ map escaped (words_by (is_class class own) title) ++ marks_in class rest
  unfolding titled mark_text
  rect own area colour title rest =
      ap (λ z. marks_in class (codes "<rect " ++ z)) (append_assoc (class_text own) _ rest
      ∙ ap (λ z. class_text own ++ z) (append_assoc (area_text area) _ rest
      ∙ ap (λ z. area_text area ++ z) (append_assoc (fill_text colour) _ rest
      ∙ ap (λ z. fill_text colour ++ (codes "><title>" ++ z)) (append_assoc (escaped title) _ rest))))
      ∙ tag-rect _ ∙ skip class (codes " ") _ refl ∙ at-class class own (titled area colour title rest)
      ∙ found-by (is_class class own) title _ _ (titled-words area colour title rest)
      ∙ ap (λ found. map escaped (words_by (is_class class own) title) ++ found)
      (titled-rest area colour title rest)

  -- words in a text
  worded : ℕ → ℕ → List ℕ → List ℕ → List ℕ
  worded x y words rest =
      position_text x y ++ (codes ">" ++ (escaped words ++ (codes "</text>\n" ++ rest)))

  worded-words : (x y : ℕ) (words rest : List ℕ) → words_behind (worded x y words rest) ≡ escaped words
  unfolding worded
  worded-words x y words rest =
      ap (λ z. words_from (Words 0) z) (behind-free 62 (position_text x y) _ (place-end x y))
      ∙ text-words words rest

  worded-rest : (x y : ℕ) (words rest : List ℕ)
      → marks_in class (worded x y words rest) ≡ marks_in class rest
  unfolding worded
  worded-rest x y words rest =
      skip class (position_text x y) _ (place-c x y) ∙ skip class (codes ">") _ refl
      ∙ skip-text class (escaped words) _ (escaped-quote words) ∙ end-text rest

  caption : (own : Class) (x y : ℕ) (words rest : List ℕ)
      → marks_in class (mark_text (Caption own x y words) ++ rest)
      ≡ map escaped (words_by (is_class class own) words) ++ marks_in class rest
  unfolding worded mark_text
  caption own x y words rest =
      ap (λ z. marks_in class (codes "<text " ++ z)) (append_assoc (class_text own) _ rest
      ∙ ap (λ z. class_text own ++ z) (append_assoc (position_text x y) _ rest
      ∙ ap (λ z. position_text x y ++ (codes ">" ++ z)) (append_assoc (escaped words) _ rest)))
      ∙ tag-text _ ∙ skip class (codes " ") _ refl ∙ at-class class own (worded x y words rest)
      ∙ found-by (is_class class own) words _ _ (worded-words x y words rest)
      ∙ ap (λ found. map escaped (words_by (is_class class own) words) ++ found) (worded-rest x y words rest)

  label : (x y : ℕ) (words rest : List ℕ)
      → marks_in class (mark_text (Label x y words) ++ rest) ≡ marks_in class rest
  unfolding worded mark_text
  label x y words rest =
      ap (λ z. marks_in class (codes "<text" ++ z)) (append_assoc (position_text x y) _ rest
      ∙ ap (λ z. position_text x y ++ (codes ">" ++ z)) (append_assoc (escaped words) _ rest))
      ∙ tag-text _ ∙ worded-rest x y words rest

  strip : (area : Area) (units : ℕ) (rest : List ℕ)
      → marks_in class (mark_text (Strip area units) ++ rest) ≡ marks_in class rest
  unfolding mark_text
  strip area units rest =
      ap (λ z. marks_in class (codes "<svg" ++ z)) (append_assoc (area_text area) _ rest
      ∙ ap (λ z. area_text area ++ (codes " viewBox=\"0 0 " ++ z)) (append_assoc (decimal units) _ rest))
      ∙ skip class (codes "<svg") _ refl ∙ skip class (area_text area) _ (area-c area)
      ∙ skip class (codes " viewBox=\"0 0 ") _ refl
      ∙ skip class (decimal units) _ (free-decimal 99 (omega arith) units) ∙ end-strip rest

  column : (area : Area) (units : ℕ) (rest : List ℕ)
      → marks_in class (mark_text (Column area units) ++ rest) ≡ marks_in class rest
  unfolding mark_text
  column area units rest =
      ap (λ z. marks_in class (codes "<svg" ++ z)) (append_assoc (area_text area) _ rest
      ∙ ap (λ z. area_text area ++ (codes " viewBox=\"0 0 1 " ++ z)) (append_assoc (decimal units) _ rest))
      ∙ skip class (codes "<svg") _ refl ∙ skip class (area_text area) _ (area-c area)
      ∙ skip class (codes " viewBox=\"0 0 1 ") _ refl
      ∙ skip class (decimal units) _ (free-decimal 99 (omega arith) units) ∙ end-column rest

  -- a title in a line
  lined : Ends → Colour → List ℕ → List ℕ → List ℕ
  lined ends colour title rest =
      ends_text ends ++ (stroke_text colour ++ (codes "><title>" ++ (escaped title
      ++ (codes "</title></line>\n" ++ rest))))

  lined-words : (ends : Ends) (colour : Colour) (title rest : List ℕ)
      → words_behind (lined ends colour title rest) ≡ escaped title
  unfolding lined
  lined-words ends colour title rest =
      ap (λ z. words_from (Words 0) z) (behind-free 62 (ends_text ends) _ (ends-end ends)
      ∙ behind-free 62 (stroke_text colour) _ (stroke-end colour))
      ∙ line-words title rest

  lined-rest : (ends : Ends) (colour : Colour) (title rest : List ℕ)
      → marks_in class (lined ends colour title rest) ≡ marks_in class rest
  unfolding lined
  lined-rest ends colour title rest =
      skip class (ends_text ends) _ (ends-c ends) ∙ skip class (stroke_text colour) _ (stroke-c colour)
      ∙ skip class (codes "><title>") _ refl ∙ skip-text class (escaped title) _ (escaped-quote title)
      ∙ end-line rest

  line : (own : Class) (ends : Ends) (colour : Colour) (title rest : List ℕ)
      → marks_in class (mark_text (Line own ends colour title) ++ rest)
      ≡ map escaped (words_by (is_class class own) title) ++ marks_in class rest
  unfolding lined mark_text
  line own ends colour title rest =
      ap (λ z. marks_in class (codes "<line " ++ z)) (append_assoc (class_text own) _ rest
      ∙ ap (λ z. class_text own ++ z) (append_assoc (ends_text ends) _ rest
      ∙ ap (λ z. ends_text ends ++ z) (append_assoc (stroke_text colour) _ rest
      ∙ ap (λ z. stroke_text colour ++ (codes "><title>" ++ z)) (append_assoc (escaped title) _ rest))))
      ∙ tag-line _ ∙ skip class (codes " ") _ refl ∙ at-class class own (lined ends colour title rest)
      ∙ found-by (is_class class own) title _ _ (lined-words ends colour title rest)
      ∙ ap (λ found. map escaped (words_by (is_class class own) title) ++ found)
      (lined-rest ends colour title rest)

  -- the word behind words in lines
  starts-found : (starts : Bool) (rest : List ℕ)
      → marks_in class (starts_text starts ++ (codes "</text>\n" ++ rest))
      ≡ map escaped (starts_by class starts) ++ marks_in class rest
  unfolding starts_text
  starts-found false rest = end-text rest
  starts-found true rest =
      let tail : List ℕ = codes " font-weight=\"bold\">starts</tspan>" ++ (codes "</text>\n" ++ rest) in
      ap (λ z. marks_in class (codes " <tspan " ++ z)) (append_assoc (class_text Starts) _ (codes "</text>\n" ++ rest))
      ∙ (skip class (codes " <tspan ") _ refl ∙ (at-class class Starts tail
      ∙ (found-by (is_class class Starts) (codes "starts") tail _ (starts-word (codes "</text>\n" ++ rest))
      ∙ ap (λ found. map escaped (words_by (is_class class Starts) (codes "starts")) ++ found)
      (skip class (codes " font-weight=\"bold\">starts</tspan>") _ refl ∙ end-text rest))))

  -- words in lines, and what stands behind them
  broken : ℕ → ℕ → List ℕ → Bool → List ℕ → List ℕ
  broken x y words starts rest =
      position_text x y ++ (codes " xml:space=\"preserve\">" ++ (lines_text x (broken_lines words)
      ++ (starts_text starts ++ (codes "</text>\n" ++ rest))))

  broken-words : (x y : ℕ) (words : List ℕ) (starts : Bool) (rest : List ℕ)
      → words_behind (broken x y words starts rest) ≡ escaped (line_words words starts)
  unfolding broken
  broken-words x y words starts rest =
      ap (λ z. words_from (Words 0) z) (behind-free 62 (position_text x y) _ (place-end x y))
      ∙ all-words x words starts rest

  broken-rest : (x y : ℕ) (words : List ℕ) (starts : Bool) (rest : List ℕ)
      → marks_in class (broken x y words starts rest) ≡ map escaped (starts_by class starts) ++ marks_in class rest
  unfolding broken
  broken-rest x y words starts rest =
      skip class (position_text x y) _ (place-c x y) ∙ front-lines _
      ∙ lines-rest class x (broken_lines words) (starts_text starts ++ (codes "</text>\n" ++ rest))
      (tail-calm starts rest)
      ∙ starts-found starts rest

  lines : (own : Class) (x y : ℕ) (words : List ℕ) (starts : Bool) (rest : List ℕ)
      → marks_in class (mark_text (Lines own x y words starts) ++ rest)
      ≡ map escaped (words_by (is_class class own) (line_words words starts) ++ starts_by class starts)
      ++ marks_in class rest
  unfolding broken mark_text
  lines own x y words starts rest =
      let found = words_by (is_class class own) (line_words words starts) in
      ap (λ z. marks_in class (codes "<text " ++ z)) (append_assoc (class_text own) _ rest
      ∙ ap (λ z. class_text own ++ z) (append_assoc (position_text x y) _ rest
      ∙ ap (λ z. position_text x y ++ (codes " xml:space=\"preserve\">" ++ z))
      (append_assoc (lines_text x (broken_lines words)) _ rest
      ∙ ap (λ z. lines_text x (broken_lines words) ++ z) (append_assoc (starts_text starts) _ rest))))
      ∙ tag-text _ ∙ skip class (codes " ") _ refl ∙ at-class class own (broken x y words starts rest)
      ∙ found-by (is_class class own) (line_words words starts) _ _ (broken-words x y words starts rest)
      ∙ ap (λ z. map escaped found ++ z) (broken-rest x y words starts rest)
      ∙ sym (append_assoc (map escaped found) (map escaped (starts_by class starts)) (marks_in class rest))
      ∙ ap (λ z. z ++ marks_in class rest) (sym (map-append escaped found (starts_by class starts)))

  mark-reads : (mark : Mark) (rest : List ℕ)
      → marks_in class (mark_text mark ++ rest) ≡ map escaped (words_of_mark class mark) ++ marks_in class rest
  mark-reads (Plain area colour) rest = plain area colour rest
  mark-reads (Rect own area colour title) rest = rect own area colour title rest
  mark-reads (Label x y words) rest = label x y words rest
  mark-reads (Caption own x y words) rest = caption own x y words rest
  mark-reads (Strip area units) rest = strip area units rest
  mark-reads (Column area units) rest = column area units rest
  mark-reads StripEnd rest = end-mark rest
  mark-reads (Line own ends colour title) rest = line own ends colour title rest
  mark-reads (Lines own x y words starts) rest = lines own x y words starts rest

  marks-read : (marks : List Mark) (rest : List ℕ)
      → marks_in class (flat_map mark_text marks ++ rest)
      ≡ map escaped (flat_map (words_of_mark class) marks) ++ marks_in class rest
  marks-read [] rest = refl
  marks-read (mark ∷ marks) rest =
      ap (λ z. marks_in class z) (append_assoc (mark_text mark) (flat_map mark_text marks) rest)
      ∙ mark-reads mark (flat_map mark_text marks ++ rest)
      ∙ ap (λ z. map escaped (words_of_mark class mark) ++ z) (marks-read marks rest)
      ∙ sym (append_assoc (map escaped (words_of_mark class mark)) _ _)
      ∙ ap (λ z. z ++ marks_in class rest)
      (sym (map-append escaped (words_of_mark class mark) (flat_map (words_of_mark class) marks)))

  open-reads : (height : ℕ) (rest : List ℕ) → marks_in class (open_text height ++ rest) ≡ marks_in class rest
  unfolding open_text
  open-reads height rest =
      ap (λ z. marks_in class (codes "<svg xmlns=\"http://www.w3.org/2000/svg\" version=\"1.1\" width=\"960\" height=\""
      ++ z)) (append_assoc (decimal height) _ rest
      ∙ ap (λ z. decimal height ++ (codes "\" viewBox=\"0 0 960 " ++ z)) (append_assoc (decimal height) _ rest))
      ∙ skip class (codes "<svg xmlns=\"http://www.w3.org/2000/svg\" version=\"1.1\" width=\"960\" height=\"") _
      refl
      ∙ skip class (decimal height) _ (free-decimal 99 (omega arith) height)
      ∙ skip class (codes "\" viewBox=\"0 0 960 ") _ refl
      ∙ skip class (decimal height) _ (free-decimal 99 (omega arith) height)
      ∙ end-open rest

  ground-reads : (height : ℕ) (rest : List ℕ) → marks_in class (ground_text height ++ rest) ≡ marks_in class rest
  unfolding ground_text
  ground-reads height rest =
      ap (λ z. marks_in class (codes "</desc>\n<rect width=\"960\" height=\"" ++ z))
      (append_assoc (decimal height) _ rest)
      ∙ end-desc _ ∙ skip class (decimal height) _ (free-decimal 99 (omega arith) height)
      ∙ skip class (codes "\" fill=\"#ffffff\"/>\n") rest refl

  title-reads : (height : ℕ) (title rest : List ℕ)
      → marks_in class (title_text height title ++ rest) ≡ marks_in class rest
  unfolding title_text
  title-reads height title rest =
      ap (λ z. marks_in class z) (append_assoc (open_text height) _ rest
      ∙ ap (λ z. open_text height ++ z) (append_assoc (escaped title) _ rest))
      ∙ open-reads height _ ∙ skip-text class (escaped title) _ (escaped-quote title)
      ∙ skip class (codes "</title>\n") rest refl

  -- a ground begins with a tag
  desc-text : (height : ℕ) (desc rest : List ℕ)
      → marks_in class (escaped desc ++ (ground_text height ++ rest)) ≡ marks_in class rest
  unfolding ground_text
  desc-text height desc rest =
      skip-text class (escaped desc) _ (escaped-quote desc) ∙ ground-reads height rest

  desc-reads : (height : ℕ) (desc rest : List ℕ)
      → marks_in class (desc_text height desc ++ rest) ≡ marks_in class rest
  unfolding desc_text
  desc-reads height desc rest =
      ap (λ z. marks_in class (codes "<desc>" ++ z)) (append_assoc (escaped desc) _ rest)
      ∙ open-desc _ ∙ desc-text height desc rest

  pub picture-reads : (p : Picture) → marks_in class (picture_text p)
      ≡ map escaped (flat_map (words_of_mark class) p.marks)
  unfolding picture_text
  picture-reads p =
      ap (λ z. marks_in class z) (append_assoc (title_text p.height p.title) _ _)
      ∙ title-reads p.height p.title _ ∙ desc-reads p.height p.desc _ ∙ marks-read p.marks (codes "</svg>\n")
      ∙ ap (λ z. map escaped (flat_map (words_of_mark class) p.marks) ++ z) no-more ∙ append-nil _

-- a word stands as often as there are marks of it
pub times-marks : (class : Class) (bytes : List ℕ) → times (class_text class) bytes ≡ length (marks_in class bytes)
times-marks class [] = refl
times-marks class (b ∷ bytes) = go (begins (class_text class) (b ∷ bytes)) bytes (times-marks class bytes)
  where
    go : (t : Bool) (bs : List ℕ) → times (class_text class) bs ≡ length (marks_in class bs)
        → one_more t (times (class_text class) bs) ≡ length (words_by_mark t bs (marks_in class bs))
    go true bs is = omega arith
    go false bs is = is

pub picture-times : (class : Class) (p : Picture)
    → times (class_text class) (picture_text p) ≡ length (flat_map (words_of_mark class) p.marks)
picture-times class p =
    times-marks class (picture_text p) ∙ ap length (picture-reads class p)
    ∙ length-map (flat_map (words_of_mark class) p.marks) escaped
