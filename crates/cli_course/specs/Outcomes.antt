-- What a run reads, and what it is to answer, put and write.
use Rattle.std.specs.Prelude.{ℕ, ⊤, ◌<◌, Bool, true, false, All, List, [], ◌∷◌, ◌++◌, Option, Some, None, codes}
use Rattle.pico_board.specs.Files.{File, file_of}
-- a line ends with one line feed
pub use Rattle.text_words.specs.Writing.{line}
use Rattle.cli_course.specs.declared.status.Status.{Status}
use Rattle.cli_course.specs.declared.status.Status.TheVariants.{Done, Words, Input, Bootsel, ReadFault, WriteFault, OutputFault, Memory, Unbootable, Mixed, NoEffect, Refused, Unmet}

-- an input file: its name, and the greatest length of a file that is read whole, in bytes
pub record LimitedInputView : Type 0 where
  pub name : List ℕ
  pub limit : ℕ

-- each number is that of a byte
abbrev pub AreBytes : List ℕ → Type 0
AreBytes bytes = All (λ b. b < 256) bytes

-- each file is of bytes
abbrev pub AreOfBytes : List (List ℕ) → Type 0
AreOfBytes [] = ⊤
AreOfBytes (bytes ∷ read) = AreBytes bytes × AreOfBytes read

-- the status, the text that is put, and the files that are written
pub record AnswerView : Type 0 where
  pub status : Status
  pub text : List ℕ
  pub files : List File

-- What is found of a script, by what is asked of it: all is well; some loss of power leaves nothing
-- to start; after some loss a half-written image starts; the script does not do what it is for; a
-- record of it did nothing; something else is not met.
pub data Verdict : Type 0 where
  Passes : Verdict
  IsUnbootable : Verdict
  IsMixed : Verdict
  HasNoEffect : Verdict
  IsRefused : Verdict
  IsUnmet : Verdict

-- The result of a command's work on the bytes of its inputs. The work answers whether a boot falls
-- to BOOTSEL, the text, and the files to write, in the order of the arguments. Or it refuses an
-- input, by its argument, with a fault. Or it prints a text and judges a script by it.
pub data Work : Type 0 where
  Answers : (falls : Bool) → (text : List ℕ) → (files : List File) → Work
  Refuses : (name fault : List ℕ) → Work
  Judges : (verdict : Verdict) → (text : List ℕ) → Work

-- an input file, by its argument, and its fault
abbrev pub input_line : List ℕ → List ℕ → List ℕ
input_line name fault = codes "input " ++ (name ++ (codes ": " ++ line fault))

-- arguments that are no command
abbrev pub not_understood : AnswerView
not_understood = record { status = Words; text = codes "words not understood\n"; files = [] }

-- an input file that the files lack
abbrev pub unread : AnswerView
unread = record { status = ReadFault; text = []; files = [] }

-- an input file, by its argument, that is refused
abbrev pub refused : List ℕ → List ℕ → AnswerView
refused name fault = record { status = Input; text = input_line name fault; files = [] }

-- the status of an answer
abbrev pub answered_status : Bool → Status
answered_status true = Bootsel
answered_status false = Done

-- the status of a verdict
abbrev pub verdict_status : Verdict → Status
verdict_status Passes = Done
verdict_status IsUnbootable = Unbootable
verdict_status IsMixed = Mixed
verdict_status HasNoEffect = NoEffect
verdict_status IsRefused = Refused
verdict_status IsUnmet = Unmet

-- a text that is printed with a status; no file is written
abbrev pub ended : Status → List ℕ → AnswerView
ended status text = record { status = status; text = text; files = [] }

-- the outcome of a work
abbrev pub worked : Work → AnswerView
worked (Answers falls text files) =
    record { status = answered_status falls; text = text; files = files }
worked (Refuses name fault) = refused name fault
worked (Judges verdict text) = ended (verdict_status verdict) text

-- one file to write
abbrev pub one_file : List ℕ → List ℕ → List File
one_file name bytes = record { name = name; bytes = bytes } ∷ []

-- one more file, where it and the others are there
abbrev pub found_next : Option (List ℕ) → Option (List (List ℕ)) → Option (List (List ℕ))
found_next None rest = None
found_next (Some bytes) None = None
found_next (Some bytes) (Some read) = Some (bytes ∷ read)

-- the whole bytes of the inputs, where the files have all their names
abbrev pub found : List File → List LimitedInputView → Option (List (List ℕ))
found files [] = Some []
found files (input ∷ inputs) = found_next (file_of files input.name) (found files inputs)

-- the outcome by the bytes of the inputs: all are there, or one is missing
abbrev pub outcome_found : (List (List ℕ) → AnswerView) → Option (List (List ℕ)) → AnswerView
outcome_found outcome None = unread
outcome_found outcome (Some whole) = outcome whole

-- a status with which the whole text was put
abbrev pub is_finished : Status → Bool
is_finished Done = true
is_finished Words = true
is_finished Input = true
is_finished Bootsel = true
is_finished Unbootable = true
is_finished Mixed = true
is_finished NoEffect = true
is_finished Refused = true
is_finished Unmet = true
is_finished _ = false
