-- When a text is the text of events, and what its first fault is.
use Rattle.std.specs.Prelude.{ℕ, ◌≡◌, ◌≢◌, ◌⊎◌, ◌+◌, ◌<◌, ◌≤◌, false, true, List, [], ◌∷◌, ◌++◌, length, Ok, Err}
use Rattle.boot_script.specs.Events.{EventView}
use Rattle.boot_script.specs.Written.{written_event}
use Rattle.boot_script.specs.Scripts.{is_end}
use Rattle.boot_script.specs.declared.limits.TheConstants.{SCRIPT_LIMIT}
use Rattle.script_words.specs.Splitting.{words_in}
use Rattle.script_text.specs.declared.script.TextFault.{TextFault}
use Rattle.script_text.specs.declared.script.TextFault.TheVariants.{BehindEnd, Words, Image, TooMany, TooLong}
use Rattle.script_text.specs.declared.script.TextError.{TextError}
use Rattle.script_text.specs.declared.script.TextError.TheVariants.{Line, Memory}
use Rattle.script_text.specs.declared.script.TheConstants.{MOST_RECORDS}
use Rattle.script_text.specs.declared.script.TextScript.{TextScript}
use Rattle.script_text.specs.Reading.{Before, behind, behind_end, lines_of, script_of, start, words_step}

-- a line without words is passed over
abbrev pub IsPassed : List ℕ → Type 0
IsPassed line = words_in line ≡ []

-- a line with words, which gives this record where no `end` line came before
pub record IsRecord (image : List ℕ) (s : Before) (line : List ℕ) (e : EventView) : Type 0 where
  pub words : words_in line ≢ []
  pub going : s.ended ≡ false
  pub gives : words_step image s.next (words_in line) ≡ Ok e

-- a record other than the end has room: at most so many come before the end, and with the end the
-- script has at most so many bytes
pub record HasRoomFor (s : Before) (e : EventView) : Type 0 where
  pub few : s.count < MOST_RECORDS
  pub short : s.size + length (written_event e) + 1 ≤ SCRIPT_LIMIT

-- lines without a fault give these events, one after another; t is what was read behind them
abbrev pub Gives : List ℕ → Before → List (List ℕ) → List EventView → Before → Type 0
Gives image s [] es t = (es ≡ []) × (t ≡ s)
Gives image s (line ∷ lines) es t =
    (IsPassed line × Gives image s lines es t)
    ⊎ (((e : EventView) × IsRecord image s line e × (is_end e ≡ true)
    × Gives image (behind_end s) lines es t)
    ⊎ ((e : EventView) × (others : List EventView) × IsRecord image s line e × (is_end e ≡ false)
    × HasRoomFor s e × (es ≡ e ∷ others) × Gives image (behind s e) lines others t))

-- the text is one of a script with these events before its end
abbrev pub IsScriptText : List ℕ → List ℕ → List EventView → Type 0
IsScriptText image text es = (t : Before) × Gives image start (lines_of text) es t

-- the first fault of a line, by what was read before it:
-- - it has a word, and a line before it is `end`
-- - its words are no record
-- - it takes bytes that the image has not
-- - it is a record other than the end, and too many come before it
-- - it is a record other than the end, and with it and the end the script is too long
abbrev pub IsLineFault : List ℕ → Before → List ℕ → TextFault → Type 0
IsLineFault image s line BehindEnd = (words_in line ≢ []) × (s.ended ≡ true)
IsLineFault image s line (Words fault) = (words_in line ≢ []) × (s.ended ≡ false)
    × (words_step image s.next (words_in line) ≡ Err (Words fault))
IsLineFault image s line Image = (words_in line ≢ []) × (s.ended ≡ false)
    × (words_step image s.next (words_in line) ≡ Err Image)
IsLineFault image s line TooMany =
    (e : EventView) × IsRecord image s line e × (is_end e ≡ false) × (MOST_RECORDS ≤ s.count)
IsLineFault image s line TooLong =
    (e : EventView) × IsRecord image s line e × (is_end e ≡ false) × (s.count < MOST_RECORDS)
    × (SCRIPT_LIMIT < s.size + length (written_event e) + 1)

-- the text has this fault: it is that of the first line that has one; lines are numbered from 1
pub record IsFaultAt (image text : List ℕ) (n : ℕ) (fault : TextFault) : Type 0 where
  pub front : List (List ℕ)
  pub line : List ℕ
  pub rest : List (List ℕ)
  pub lines : lines_of text ≡ front ++ (line ∷ rest)
  pub number : n ≡ length front + 1
  pub es : List EventView
  pub before : Before
  pub gives : Gives image start front es before
  pub wrong : IsLineFault image before line fault

abbrev pub IsScriptTextFault : List ℕ → List ℕ → TextError → Type 0
IsScriptTextFault image text (Line n fault) = IsFaultAt image text n fault
IsScriptTextFault image text Memory = ⊥

-- what is read of a text: the script of its events, and the number of its records with its end
pub record IsScriptOf (image text : List ℕ) (s : TextScript) : Type 0 where
  pub es : List EventView
  pub text_is : IsScriptText image text es
  pub bytes : s.bytes.items ≡ script_of es
  pub records : s.records ≡ length es + 1

-- a script has at most so many records before its end, and with its end at most so many bytes
pub record IsWithinLimits (es : List EventView) : Type 0 where
  pub few : length es ≤ MOST_RECORDS
  pub short : length (script_of es) ≤ SCRIPT_LIMIT
