-- How the program is used, and its version.
use Rattle.std.specs.Prelude.{ℕ, ◌-◌, ◌^◌, List, [], ◌++◌, codes, bytes_eq, if◌then◌else◌}
use Rattle.std.specs.Fmt.{padded, format_spec}
use Rattle.std.specs.List.{flat_map}
use Rattle.cli_course.specs.Outcomes.{line}
use Rattle.cli_words.specs.Arguments.{word_name, word_note}
use Rattle.cli_words.specs.Rows.{RowView, row_of}
use Rattle.cli_words.specs.declared.arguments.TheConstants.{WORDS}
use Rattle.cli_words.specs.declared.arguments.Word.{Word}
use Rattle.cli_words.specs.declared.rows.TheConstants.{VERBS}
use Rattle.cli_words.specs.declared.rows.Verb.{Verb}
use Rattle.cli_words.specs.declared.usage.TheConstants.{STATUSES, VERSION}

-- the arguments of a row after its name, each after a blank
abbrev pub words_text : List Word → List ℕ
words_text words = flat_map (λ word. codes " " ++ word_name word) words

-- the name and the arguments of a row
abbrev pub synopsis : RowView → List ℕ
synopsis row = row.name ++ words_text row.words

-- the line of a row: its name and arguments, filled to 23 characters with blanks; two blanks more;
-- and what the command does
abbrev pub row_line : RowView → List ℕ
row_line row =
    padded (format_spec 32 1 0 23 (2 ^ 64 - 1)) (synopsis row) ++ (codes "  " ++ line row.does)

-- the lines on the arguments, and after an empty line those on the statuses
abbrev pub forms_text : List ℕ
forms_text = flat_map word_note WORDS ++ (codes "\n" ++ STATUSES.now)

-- the lines of rows
unfoldable pub rows_text : List Verb → List ℕ
rows_text verbs = flat_map (λ verb. row_line (row_of verb)) verbs

-- how the program is used: a line for each row, and after an empty line the forms of the arguments
unfoldable pub usage_text : List ℕ
usage_text = rows_text VERBS ++ (codes "\n" ++ forms_text)

-- the line of a row and the lines on its arguments, where the row has this name
abbrev pub row_help : List ℕ → Verb → List ℕ
row_help name verb =
    if bytes_eq (row_of verb).name name
    then row_line (row_of verb) ++ flat_map word_note (row_of verb).words
    else []

-- how a command is used, by its name
unfoldable pub help_text : List ℕ → List ℕ
help_text name = flat_map (row_help name) VERBS ++ STATUSES.now

-- the program's version
unfoldable pub release_line : List ℕ
release_line = codes "dugnatsew " ++ line VERSION.now
