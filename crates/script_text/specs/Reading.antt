-- The events of a text, as a function that reads it line by line.
use Rattle.std.specs.Prelude.{ℕ, ◌≡◌, ◌≤◌, ◌+◌, ◌%◌, ◌^◌, ◌==◌, Bool, true, false, nat_le, nat_lt, if◌then◌else◌, List, [], ◌∷◌, ◌++◌, Option, Some, None, unwrap_or, Result, Ok, Err, length, drop}
use Rattle.std.specs.List.{AllByRecursion, flat_map}
use Rattle.byteorder.specs.Endian.{little_number}
use Rattle.boot_script.specs.Events.{EventView, End, Command}
use Rattle.boot_script.specs.Written.{written_event}
use Rattle.boot_script.specs.Scripts.{IsBeforeEnd, is_end}
use Rattle.boot_script.specs.declared.limits.TheConstants.{SCRIPT_LIMIT}
use Rattle.script_words.specs.declared.fault.LineFault.{LineFault}
use Rattle.script_words.specs.declared.record.Record.{Record}
use Rattle.script_words.specs.Splitting.{in_first, words_in}
use Rattle.script_words.specs.Values.{LineView}
use Rattle.script_words.specs.Finding.{line_in}
use Rattle.script_words.specs.Made.{made, record_from}
use Rattle.script_text.specs.declared.script.TextScript.{TextScript}
use Rattle.script_text.specs.declared.script.TextFault.{TextFault}
use Rattle.script_text.specs.declared.script.TextFault.TheVariants.{BehindEnd, Words, Image, TooMany, TooLong}
use Rattle.script_text.specs.declared.script.TextError.{TextError}
use Rattle.script_text.specs.declared.script.TextError.TheVariants.{Line}
use Rattle.script_text.specs.declared.script.TheConstants.{MOST_RECORDS}
use Rattle.script_text.specs.declared.reading.Begun.{Begun}

-- the script of these events
abbrev pub script_of : List EventView → List ℕ
script_of es = flat_map written_event es ++ written_event End

-- the lines of a text are the pieces between its line feeds
abbrev pub lines_of : List ℕ → List (List ℕ)
lines_of [] = [] ∷ []
lines_of (b ∷ bytes) = if b == 10 then [] ∷ lines_of bytes else in_first b (lines_of bytes)

-- behind a command the next token is one more than its own, whatever its spelling and its magic
-- word, and 0 behind the last one
abbrev pub token_behind : ℕ → EventView → ℕ
token_behind next (Command command payload) = (little_number 4 (drop 4 command) + 1) % 2 ^ 32
token_behind next e = next

-- ---- lines

-- what was read before a line: the token of the next command in words without one, whether an
-- `end` line came, and how many records with how many bytes
pub record Before : Type 0 where
  pub next : ℕ
  pub ended : Bool
  pub count : ℕ
  pub size : ℕ

-- before the first line
abbrev pub start : Before
start = record { next = 1; ended = false; count = 0; size = 0 }

-- behind an `end` line
abbrev pub behind_end : Before → Before
behind_end s = record { next = s.next; ended = true; count = s.count; size = s.size }

-- behind a record
abbrev pub behind : Before → EventView → Before
behind s e = record {
  next = token_behind s.next e;
  ended = s.ended;
  count = s.count + 1;
  size = s.size + length (written_event e);
}

-- the record of what a line says, or that the image has not the bytes that it takes
abbrev pub found : Option EventView → Result EventView TextFault
found None = Err Image
found (Some e) = Ok e

abbrev pub said_step : List ℕ → ℕ → Result LineView LineFault → Result EventView TextFault
said_step image next (Err fault) = Err (Words fault)
said_step image next (Ok line) = found (made line.row line.values (unwrap_or line.token next) image)

-- the record of a line's words, or the first fault but those of the limits
abbrev pub words_step : List ℕ → ℕ → List (List ℕ) → Result EventView TextFault
words_step image next words = said_step image next (line_in words)

-- what a line adds
pub data Step : Type 0 where
  Passed : Step
  Ends : Step
  Adds_event : EventView → Step

-- a record that is no end fits behind so many records with so many bytes
abbrev pub room_step : Before → EventView → Result Step TextFault
room_step s e =
    if nat_le MOST_RECORDS s.count then Err TooMany
    else if nat_lt SCRIPT_LIMIT (s.size + length (written_event e) + 1) then Err TooLong
    else Ok (Adds_event e)

abbrev pub limit_step : Before → Result EventView TextFault → Result Step TextFault
limit_step s (Err fault) = Err fault
limit_step s (Ok e) = if is_end e then Ok Ends else room_step s e

-- what a line with these words adds, or its first fault
abbrev pub line_step : List ℕ → Before → List (List ℕ) → Result Step TextFault
line_step image s [] = Ok Passed
line_step image s (word ∷ words) =
    if s.ended then Err BehindEnd else limit_step s (words_step image s.next (word ∷ words))

-- these events, and then those that are read of the other lines, or the fault of the others
abbrev pub with_events : List EventView → Result (List EventView) TextError
    → Result (List EventView) TextError
with_events es (Ok others) = Ok (es ++ others)
with_events es (Err fault) = Err fault

-- the fault of a line with this number, where it has one
abbrev pub told : ℕ → Result Step TextFault → Option TextError
told n (Ok step) = None
told n (Err fault) = Some (Line n fault)

-- the events from a line with this number on, by what it adds
abbrev pub then_lines : ℕ → Before → Result Step TextFault
    → (Before → Result (List EventView) TextError) → Result (List EventView) TextError
then_lines n s (Err fault) others = Err (Line n fault)
then_lines n s (Ok Passed) others = others s
then_lines n s (Ok Ends) others = others (behind_end s)
then_lines n s (Ok (Adds_event e)) others = with_events (e ∷ []) (others (behind s e))

-- the events of lines, the first of which has this number, by what was read before them
abbrev pub read_lines : List ℕ → ℕ → Before → List (List ℕ) → Result (List EventView) TextError
read_lines image n s [] = Ok []
read_lines image n s (line ∷ lines) =
    then_lines n s (line_step image s (words_in line)) (λ t. read_lines image (n + 1) t lines)

-- the events of a text before its end, or its first fault; its lines may take bytes of an image,
-- which has no byte where there is none
abbrev pub text_events : List ℕ → List ℕ → Result (List EventView) TextError
text_events image text = read_lines image 1 start (lines_of text)

-- ---- what the code keeps

abbrev pub state_from : Begun → Before
state_from begun = record {
  next = begun.next;
  ended = begun.ended;
  count = begun.script.records;
  size = length begun.script.bytes.items;
}

abbrev pub record_step : Result Record TextFault → Result EventView TextFault
record_step (Ok record_is) = Ok (record_from record_is)
record_step (Err fault) = Err fault

-- a script that was begun has room for an end
pub record HasRoom (begun : Begun) : Type 0 where
  pub few : begun.script.records ≤ MOST_RECORDS
  pub short : length begun.script.bytes.items + 1 ≤ SCRIPT_LIMIT

-- these events were added to a script that was begun
pub record Adds (old new : TextScript) (es : List EventView) : Type 0 where
  pub bytes : new.bytes.items ≡ old.bytes.items ++ flat_map written_event es
  pub records : new.records ≡ old.records + length es

-- the events of a line with this number were added, and the others are those of the lines that
-- follow
pub record Reads (image : List ℕ) (n : ℕ) (old : Begun) (line : List ℕ) (new : Begun)
    : Type 0 where
  pub es : List EventView
  pub adds : Adds old.script new.script es
  pub inside : AllByRecursion IsBeforeEnd es
  pub others : (lines : List (List ℕ))
      → read_lines image n (state_from old) (line ∷ lines)
      ≡ with_events es (read_lines image (n + 1) (state_from new) lines)

-- the events of a whole text
pub record IsRead (image : List ℕ) (start : Begun) (text : List ℕ) (s : Begun) : Type 0 where
  pub es : List EventView
  pub adds : Adds start.script s.script es
  pub inside : AllByRecursion IsBeforeEnd es
  pub reads : read_lines image 1 (state_from start) (lines_of text) ≡ Ok es
