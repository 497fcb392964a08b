-- The words of a line, and the parts of a text before and behind a mark.
use Rattle.std.specs.Prelude.{ℕ, ◌==◌, ◌||◌, Bool, true, false, if◌then◌else◌, List, [], ◌∷◌, Option, Some, None, filter, slice_index, take}
use Rattle.script_words.specs.declared.splitting.Word.{Word}
use Rattle.script_words.specs.declared.splitting.TheConstants.{MOST_WORDS}

-- the bytes before the first that is the mark, or all of them
abbrev pub before_mark : ℕ → List ℕ → List ℕ
before_mark mark [] = []
before_mark mark (b ∷ bytes) = if b == mark then [] else b ∷ before_mark mark bytes

-- the bytes after the first that is the mark, where there is one
abbrev pub behind_mark : ℕ → List ℕ → Option (List ℕ)
behind_mark mark [] = None
behind_mark mark (b ∷ bytes) = if b == mark then Some bytes else behind_mark mark bytes

-- a blank, a tab or a carriage return stands between words
abbrev pub is_blank : ℕ → Bool
is_blank b = b == 32 || (b == 9 || b == 13)

-- whether the byte at a place is blank
abbrev pub blank_at : List ℕ → ℕ → Bool
blank_at bytes place = is_blank (slice_index bytes place)

-- a byte before the first of these pieces
abbrev pub in_first : ℕ → List (List ℕ) → List (List ℕ)
in_first b [] = (b ∷ []) ∷ []
in_first b (piece ∷ pieces) = (b ∷ piece) ∷ pieces

-- the pieces between blanks; between two blanks that follow each other stands an empty one
abbrev pub pieces : List ℕ → List (List ℕ)
pieces [] = [] ∷ []
pieces (b ∷ bytes) = if is_blank b then [] ∷ pieces bytes else in_first b (pieces bytes)

abbrev pub has_byte : List ℕ → Bool
has_byte [] = false
has_byte (b ∷ bytes) = true

-- the words between blanks
abbrev pub blank_words : List ℕ → List (List ℕ)
blank_words text = filter has_byte (pieces text)

-- the words of a line stand before its comment, which begins with the first `#`
abbrev pub words_in : List ℕ → List (List ℕ)
words_in line = blank_words (before_mark 35 line)

-- as many of the first words as are looked at
abbrev pub first_words : List ℕ → List (List ℕ)
first_words line = take MOST_WORDS (words_in line)

-- the bytes of a word of the code
abbrev pub word_bytes : Word → List ℕ
word_bytes word = word.bytes.now
