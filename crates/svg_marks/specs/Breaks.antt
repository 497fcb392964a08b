-- Words in lines of 80 bytes, broken between words.
use Rattle.std.specs.Prelude.{◌≡◌, ◌≤◌, ◌<◌, ℕ, ◌+◌, Bool, true, false, if◌then◌else◌, ◌==◌, nat_lt, List, [], ◌∷◌, ◌++◌, length}

-- How many bytes of words stand in a line. A blank may stand after them, and so may the word
-- `starts`.
abbrev pub line_length : ℕ
line_length = 80

-- how many bytes the word has that begins here: those up to the next blank or the end
abbrev pub word_length : List ℕ → ℕ
word_length [] = 0
word_length (b ∷ bytes) = if b == 32 then 0 else word_length bytes + 1

-- How many bytes must find room in a line together: after a blank the word that begins here, and
-- elsewhere the next byte alone. A next byte that is a blank needs no room.
abbrev pub needed : Bool → List ℕ → ℕ
needed true bytes = word_length bytes
needed false [] = 0
needed false (b ∷ bytes) = if b == 32 then 0 else 1

-- A further line begins with these bytes: so many stand in the line before them, and the last of
-- these is a blank or not.
unfoldable pub is_broken : ℕ → Bool → List ℕ → Bool
is_broken column blank bytes = nat_lt line_length (column + needed blank bytes)

-- how many bytes stand in a line with one byte more; this byte begins a line, or stands after so
-- many
abbrev pub next_column : Bool → ℕ → ℕ
next_column true column = 1
next_column false column = column + 1

abbrev pub broken_by : Bool → List (List ℕ) → List (List ℕ)
broken_by true lines = [] ∷ lines
broken_by false lines = lines

-- a byte before the first line
abbrev pub put : ℕ → List (List ℕ) → List (List ℕ)
put b [] = (b ∷ []) ∷ []
put b (line ∷ lines) = (b ∷ line) ∷ lines

-- the rest of a line and the lines after it; so many bytes stand in the line, and the last of
-- these is a blank or not
abbrev pub broken_lines_from : ℕ → Bool → List ℕ → List (List ℕ)
broken_lines_from column blank [] = [] ∷ []
broken_lines_from column blank (b ∷ bytes) =
    broken_by (is_broken column blank (b ∷ bytes))
    (put b (broken_lines_from (next_column (is_broken column blank (b ∷ bytes)) column)
    (b == 32) bytes))

-- the lines of words
abbrev pub broken_lines : List ℕ → List (List ℕ)
broken_lines words = broken_lines_from 0 false words

-- how many lines words have
abbrev pub line_count : List ℕ → ℕ
line_count words = length (broken_lines words)

-- the bytes of lines, one line after the other
abbrev pub joined : List (List ℕ) → List ℕ
joined [] = []
joined (line ∷ lines) = line ++ joined lines

-- the last of bytes is a blank; where there is none, this
abbrev pub last_blank : Bool → List ℕ → Bool
last_blank blank [] = blank
last_blank blank (b ∷ bytes) = last_blank (b == 32) bytes

-- A line has at most 80 bytes, or 80 bytes and then a blank.
pub data Fits (line : List ℕ) : Type 0 where
  Whole : length line ≤ line_length → Fits line
  Hanging : length line ≡ line_length + 1 → last_blank false line ≡ true → Fits line

-- Why a line ends before the bytes of the next lines: after a blank, since the next word would
-- pass 80 bytes; or within a word that alone fills the line, and goes on.
pub data Ends (line rest : List ℕ) : Type 0 where
  Between : last_blank false line ≡ true → line_length < length line + word_length rest
      → Ends line rest
  Within : length line ≡ line_length → word_length line ≡ line_length → 0 < word_length rest
      → Ends line rest

-- a line ends where it must, if other lines follow
abbrev pub EndsBefore : List ℕ → List (List ℕ) → Type 0
EndsBefore line [] = Unit {0}
EndsBefore line (next ∷ lines) = Ends line (joined (next ∷ lines))

-- each line fits, and ends where it must
abbrev pub AreLines : List (List ℕ) → Type 0
AreLines [] = Unit {0}
AreLines (line ∷ lines) = Fits line × EndsBefore line lines × AreLines lines
