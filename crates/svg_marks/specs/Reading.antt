-- The marks of a class that stand in the bytes of a picture, with their words.
use Rattle.std.specs.Prelude.{◌+◌, Bool, true, false, ◌==◌, ◌&&◌, if◌then◌else◌, ℕ, zero, suc, List, [], ◌∷◌, ◌++◌, codes}
use Rattle.std.specs.List.{list_all}
use Rattle.svg_marks.specs.declared.class.Class.{Class}
use Rattle.svg_marks.specs.declared.class.Class.TheVariants.{Starts}
use Rattle.svg_marks.specs.Marks.{Mark, Plain, Rect, Label, Caption, Strip, Column, StripEnd, Line, Lines, class_text, class_word, line_words}

-- the bytes begin with these
abbrev pub begins : List ℕ → List ℕ → Bool
begins [] bytes = true
begins (w ∷ word) [] = false
begins (w ∷ word) (b ∷ bytes) = (w == b) && begins word bytes

-- one more than this number where a test holds
abbrev pub one_more : Bool → ℕ → ℕ
one_more true n = n + 1
one_more false n = n

-- how often a word stands in bytes, at whatever place
abbrev pub times : List ℕ → List ℕ → ℕ
times word [] = 0
times word (b ∷ bytes) = one_more (begins word (b ∷ bytes)) (times word bytes)

abbrev pub behind_by : Bool → List ℕ → List ℕ → List ℕ
behind_by true here later = here
behind_by false here later = later

-- the bytes after the first of this value
abbrev pub behind : ℕ → List ℕ → List ℕ
behind mark [] = []
behind mark (b ∷ bytes) = behind_by (b == mark) bytes (behind mark bytes)

-- where a byte stands that is read after the tag of a mark
pub data ReadingPlace : Type 0 where
  -- in words, within so many further elements
  Words : (depth : ℕ) → ReadingPlace
  -- after the `<` of a tag that begins within so many elements
  Begun : (depth : ℕ) → ReadingPlace
  -- in a tag; after it a byte is within so many further elements
  Tag : (depth : ℕ) → ReadingPlace
  -- after the `<` of the tag that ends the mark
  Ended : ReadingPlace

-- after the `/` of a tag that ends an element
abbrev pub closed : ℕ → ReadingPlace
closed zero = Ended
closed (suc depth) = Tag depth

-- the place after a byte
abbrev pub next_place : ReadingPlace → ℕ → ReadingPlace
next_place (Words depth) b = if b == 60 then Begun depth else Words depth
next_place (Begun depth) b = if b == 47 then closed depth else Tag (depth + 1)
next_place (Tag depth) b = if b == 62 then Words depth else Tag depth
next_place Ended b = Ended

-- a byte of words is kept
abbrev pub kept : ReadingPlace → ℕ → List ℕ → List ℕ
kept (Words depth) b rest = if b == 60 then rest else b ∷ rest
kept (Begun depth) b rest = rest
kept (Tag depth) b rest = rest
kept Ended b rest = rest

-- the bytes from a place on up to the tag that ends the mark, without the tags between them
abbrev pub words_from : ReadingPlace → List ℕ → List ℕ
words_from place [] = []
words_from place (b ∷ bytes) = kept place b (words_from (next_place place b) bytes)

-- The words of a mark, from bytes within its tag on: what stands after the tag, up to the tag that
-- ends the mark's element. Tags are left out. No tag in a mark ends in `/>`. The words are as they
-- stand in the file.
abbrev pub words_behind : List ℕ → List ℕ
words_behind bytes = words_from (Words 0) (behind 62 bytes)

abbrev pub words_by_mark : Bool → List ℕ → List (List ℕ) → List (List ℕ)
words_by_mark true bytes rest = words_behind bytes ∷ rest
words_by_mark false bytes rest = rest

-- the words of each mark of a class that stands in bytes
abbrev pub marks_in : Class → List ℕ → List (List ℕ)
marks_in class [] = []
marks_in class (b ∷ bytes) =
    words_by_mark (begins (class_text class) (b ∷ bytes)) bytes (marks_in class bytes)

-- two words are the same
abbrev pub same_words : List ℕ → List ℕ → Bool
same_words [] [] = true
same_words [] (y ∷ ys) = false
same_words (x ∷ xs) [] = false
same_words (x ∷ xs) (y ∷ ys) = (x == y) && same_words xs ys

abbrev pub is_class : Class → Class → Bool
is_class a b = same_words (class_word a) (class_word b)

abbrev pub words_by : Bool → List ℕ → List (List ℕ)
words_by true words = words ∷ []
words_by false words = []

-- the word `starts`, where it stands after words and is counted under this class
abbrev pub starts_by : Class → Bool → List (List ℕ)
starts_by class true = words_by (is_class class Starts) (codes "starts")
starts_by class false = []

-- the words of what is counted under this class in a mark
abbrev pub words_of_mark : Class → Mark → List (List ℕ)
words_of_mark class (Plain area colour) = []
words_of_mark class (Rect own area colour title) = words_by (is_class class own) title
words_of_mark class (Label x y words) = []
words_of_mark class (Caption own x y words) = words_by (is_class class own) words
words_of_mark class (Strip area units) = []
words_of_mark class (Column area units) = []
words_of_mark class StripEnd = []
words_of_mark class (Line own ends colour title) = words_by (is_class class own) title
words_of_mark class (Lines own x y words starts) =
    words_by (is_class class own) (line_words words starts) ++ starts_by class starts

-- no byte has this value
abbrev pub is_other : ℕ → ℕ → Bool
is_other mark b = if b == mark then false else true

abbrev pub is_free_of : ℕ → List ℕ → Bool
is_free_of mark bs = list_all (is_other mark) bs
