-- What a line says, by its words, or the first fault.
use Rattle.std.specs.Prelude.{ℕ, ◌+◌, ◌-◌, ◌==◌, ◌&&◌, Bool, not, max, if◌then◌else◌, List, [], ◌∷◌, Option, Some, None, Result, Ok, Err, is_some, length, map, take, get_or, bytes_eq, Vec}
use Rattle.std.specs.List.{list_any}
use Rattle.std.specs.declared.alloc.Global.{Global}
use Rattle.text_words.specs.Reading.{behind_word}
use Rattle.script_words.specs.declared.fault.LineFault.{LineFault}
use Rattle.script_words.specs.declared.fault.LineFault.TheVariants as faults
use Rattle.script_words.specs.declared.forms.Form.TheVariants.{HexBehind}
use Rattle.script_words.specs.declared.forms.Keyword.TheVariants.{Token}
use Rattle.script_words.specs.declared.rows.Row.{Row}
use Rattle.script_words.specs.declared.rows.TheConstants.{ROWS}
use Rattle.script_words.specs.declared.values.Line.{Line}
use Rattle.script_words.specs.declared.values.Value.{Value}
use Rattle.script_words.specs.Forms.{keyword_text}
use Rattle.script_words.specs.Rows.{first_word, form_at, has_words, is_command}
use Rattle.script_words.specs.Values.{LineView, ValueView, Number, line_from, said, value_from, value_in}

-- a value and then those of the others, or the number of the first word that is not of its form
abbrev pub with_value : ℕ → Option ValueView → Result (List ValueView) ℕ → Result (List ValueView) ℕ
with_value number None others = Err number
with_value number (Some value) (Ok values) = Ok (value ∷ values)
with_value number (Some value) (Err other) = Err other

-- what words behind the first say in a row, from this place on, or the number of the first that is
-- not of its form; the first word of the line has the number 1
abbrev pub values_in : Row → ℕ → List (List ℕ) → Result (List ValueView) ℕ
values_in row place [] = Ok []
values_in row place (word ∷ words) =
    with_value (place + 2) (value_in (form_at row place) word) (values_in row (place + 1) words)

abbrev pub said_in : Row → Result (List ValueView) ℕ → Result LineView ℕ
said_in row (Ok values) = Ok (said row values None)
said_in row (Err number) = Err number

-- what a line says in a row, where the row has this first word and so many words; otherwise the
-- number of the first word that is not of its form, or 0
abbrev pub read_row : Row → List ℕ → List (List ℕ) → Result LineView ℕ
read_row row first words =
    if bytes_eq (first_word row) first && has_words row (length words)
    then said_in row (values_in row 0 words)
    else Err 0

-- what the line says in a row, or otherwise in the others; of numbers that are not of their forms
-- the greater one
abbrev pub or_in : Result LineView ℕ → Result LineView ℕ → Result LineView ℕ
or_in (Ok line) others = Ok line
or_in (Err number) (Ok line) = Ok line
or_in (Err number) (Err other) = Err (max number other)

-- what the line says in the first of these rows whose forms its words have
abbrev pub read_rows : List Row → List ℕ → List (List ℕ) → Result LineView ℕ
read_rows [] first words = Err 0
read_rows (row ∷ rows) first words = or_in (read_row row first words) (read_rows rows first words)

-- without a row of as many words there are too many or too few words
abbrev pub line_found : Result LineView ℕ → Result LineView LineFault
line_found (Ok line) = Ok line
line_found (Err number) = if number == 0 then Err faults.Words else Err (faults.Value number)

-- what a line says without its token
abbrev pub record_in : List ℕ → List (List ℕ) → Result LineView LineFault
record_in first words = line_found (read_rows ROWS first words)

abbrev pub begins_record : List ℕ → Bool
begins_record first = list_any (λ row. bytes_eq (first_word row) first) ROWS

abbrev pub begins_command : List ℕ → Bool
begins_command first =
    list_any (λ row. is_command row && bytes_eq (first_word row) first) ROWS

-- the word begins with `token=`
abbrev pub has_token : List ℕ → Bool
has_token word = is_some (behind_word (keyword_text Token) word)

-- the last word, and those before it
abbrev pub last_word : List (List ℕ) → List ℕ
last_word words = get_or words (length words - 1) []

abbrev pub without_last : List (List ℕ) → List (List ℕ)
without_last words = take (length words - 1) words

-- the line with the token that its last word says
abbrev pub add_token : ℕ → Option ValueView → LineView → Result LineView LineFault
add_token number (Some (Number token)) line = Ok (said line.row line.values (Some token))
add_token number value line = Err (faults.Value number)

-- what a line of so many words behind the first, and then a token, says
abbrev pub with_token : ℕ → List ℕ → Result LineView LineFault → Result LineView LineFault
with_token count token (Err fault) = Err fault
with_token count token (Ok line) = add_token (count + 2) (value_in (HexBehind Token) token) line

-- what the line of a command in words says: it has a token where its last word begins so
abbrev pub command_in : List ℕ → List (List ℕ) → Result LineView LineFault
command_in first words =
    if has_token (last_word words)
    then with_token (length (without_last words)) (last_word words)
    (record_in first (without_last words))
    else record_in first words

-- what the words of a line say, or its first fault
abbrev pub line_in : List (List ℕ) → Result LineView LineFault
line_in [] = Err faults.Word
line_in (first ∷ words) =
    if not (begins_record first) then Err faults.Word
    else if begins_command first then command_in first words
    else record_in first words

-- what the code answers, as plain data
abbrev pub values_read : Result (Vec Value Global) ℕ → Result (List ValueView) ℕ
values_read (Ok values) = Ok (map value_from values.items)
values_read (Err number) = Err number

abbrev pub row_read : Result Line ℕ → Result LineView ℕ
row_read (Ok line) = Ok (line_from line)
row_read (Err number) = Err number

abbrev pub lines_read : Result Line LineFault → Result LineView LineFault
lines_read (Ok line) = Ok (line_from line)
lines_read (Err fault) = Err fault
