-- The text form of events.
use Rattle.std.specs.Prelude.{ℕ, ◌+◌, Bool, true, false, List, [], ◌∷◌, ◌++◌, codes, decimal}
use Rattle.text_words.specs.Writing.{line}
use Rattle.boot_script.specs.Events.{EventView}
use Rattle.script_words.specs.Rows.{is_hex}
use Rattle.script_words.specs.Values.{LineView}
use Rattle.script_words.specs.Naming.{line_of}
use Rattle.script_words.specs.Spelling.{line_text}
use Rattle.script_text.specs.Comments.{note_of}
use Rattle.script_text.specs.Reading.{token_behind}

-- a comment: the number of the event, and what it is
abbrev pub comment_text : ℕ → List ℕ → List ℕ
comment_text n note = codes "# " ++ (decimal n ++ (codes " " ++ note))

-- a line with hexadecimal bytes has a comment above it; each other line has the number behind it
abbrev pub numbered : Bool → ℕ → List ℕ → List ℕ → List ℕ
numbered true n note text = line (comment_text n note) ++ line text
numbered false n note text = line (text ++ (codes " # " ++ decimal n))

-- the lines of an event with this number, by what its line says
abbrev pub listed_line : ℕ → EventView → LineView → List ℕ
listed_line n e said = numbered (is_hex said.row) n (note_of e) (line_text said)

-- the lines of an event with this number, where a command in words without a token would have the
-- token `next`
abbrev pub listed_event : ℕ → ℕ → EventView → List ℕ
listed_event n next e = listed_line n e (line_of next e)

-- the lines of events, the first of which has this number, and the line of the end
abbrev pub listed_from : ℕ → ℕ → List EventView → List ℕ
listed_from n next [] = line (codes "end")
listed_from n next (e ∷ es) = listed_event n next e ++ listed_from (n + 1) (token_behind next e) es

-- the text of a script with these events before its end; events are numbered from 0, and the first
-- token is 1
abbrev pub listed : List EventView → List ℕ
listed es = listed_from 0 1 es
