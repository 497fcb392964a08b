-- Why the words of a line are no record: the first fault, in the order in which faults are told.
use Rattle.std.specs.Prelude.{ℕ, ◌≡◌, ◌≢◌, ◌⊎◌, ◌+◌, ◌<◌, ◌&&◌, true, if◌then◌else◌, List, [], Some, None, length, get_or}
use Rattle.script_words.specs.declared.fault.LineFault.{LineFault}
use Rattle.script_words.specs.declared.fault.LineFault.TheVariants.{Word, Words, Value}
use Rattle.script_words.specs.declared.forms.Form.TheVariants.{HexBehind}
use Rattle.script_words.specs.declared.forms.Keyword.TheVariants.{Token}
use Rattle.script_words.specs.declared.rows.Row.{Row}
use Rattle.script_words.specs.Finding.{begins_command, has_token, last_word, without_last}
use Rattle.script_words.specs.Rows.{first_word, form_at, has_words}
use Rattle.script_words.specs.Values.{ValueView, value_in}

-- the words behind the first that count: where the first is that of a command in words, a last one
-- that begins with `token=` does not
abbrev pub counted : List ℕ → List (List ℕ) → List (List ℕ)
counted first words =
    if begins_command first && has_token (last_word words) then without_last words else words

-- a record of the row begins with this word, and has so many words behind it
pub record IsRowOf (row : Row) (first : List ℕ) (count : ℕ) : Type 0 where
  pub first_is : first_word row ≡ first
  pub count_is : has_words row count ≡ true

-- records that begin so and have as many words have the same forms at each place but one
pub record DifferInOneWord (first : List ℕ) (count : ℕ) : Type 0 where
  pub place : ℕ
  pub others : (row other : Row) → IsRowOf row first count → IsRowOf other first count
      → (i : ℕ) → i ≢ place → form_at row i ≡ form_at other i

-- the word at a place behind the first is of the form that some row of as many words has there
pub record IsOfForm (first : List ℕ) (words : List (List ℕ)) (place : ℕ) : Type 0 where
  pub row : Row
  pub of_row : IsRowOf row first (length words)
  pub value : ValueView
  pub says : value_in (form_at row place) (get_or words place []) ≡ Some value

-- the word at this place is the first that is of no such form
pub record IsFirstWrong (first : List ℕ) (words : List (List ℕ)) (place : ℕ) : Type 0 where
  pub inside : place < length words
  pub before : (i : ℕ) → i < place → IsOfForm first words i
  pub wrong : IsOfForm first words place → ⊥

-- each word that counts is of a form, and the token behind them is none
pub record IsTokenWrong (first : List ℕ) (words : List (List ℕ)) : Type 0 where
  pub has : (begins_command first && has_token (last_word words)) ≡ true
  pub before : (i : ℕ) → i < length (counted first words) → IsOfForm first (counted first words) i
  pub wrong : value_in (HexBehind Token) (last_word words) ≡ None

-- a record of some row begins so and has as many words
abbrev pub HasRow : List ℕ → ℕ → Type 0
HasRow first count = (row : Row) × IsRowOf row first count

-- the fault of a line with this first word and these words behind it:
-- - no record begins with the first word
-- - some record does, and none that does has as many words
-- - some record that does has as many, and the word with this number is the first that is of the
--   form of none of them, or is the token behind them; the first word of the line has the number 1
abbrev pub IsWordsFault : List ℕ → List (List ℕ) → LineFault → Type 0
IsWordsFault first words Word = (row : Row) → first_word row ≢ first
IsWordsFault first words Words =
    ((row : Row) × (first_word row ≡ first)) × (HasRow first (length (counted first words)) → ⊥)
IsWordsFault first words (Value number) = HasRow first (length (counted first words))
    × (((place : ℕ) × IsFirstWrong first (counted first words) place × (number ≡ place + 2))
    ⊎ (IsTokenWrong first words × (number ≡ length words + 1)))
