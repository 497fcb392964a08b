-- Worked arguments.
use Rattle.std.specs.Prelude.{ℕ, ◌==◌, Bool, false, if◌then◌else◌, nat_le, List, [], ◌∷◌, count_by, Option, codes, bytes_eq}
use Rattle.std.specs.Option.{option_map_or}
use Rattle.cli_words.specs.Rows.{CommandLineView, command_of, row_of, with_word}
use Rattle.cli_words.specs.declared.arguments.Word.{Word}
use Rattle.cli_words.specs.declared.rows.Verb.{Verb}
use Rattle.cli_words.specs.Values.{ValuesView, no_values}

-- a character in front of the first of these words
abbrev pub with_first : ℕ → List (List ℕ) → List (List ℕ)
with_first c [] = (c ∷ []) ∷ []
with_first c (word ∷ words) = (c ∷ word) ∷ words

-- the arguments of a text: each blank parts two; between two blanks stands an empty one
abbrev pub arguments : List ℕ → List (List ℕ)
arguments [] = [] ∷ []
arguments (c ∷ text) =
    if c == 32 then [] ∷ arguments text else with_first c (arguments text)

-- the command of a line of arguments
abbrev pub command_by : List ℕ → Option CommandLineView
command_by text = command_of (arguments text)

-- the flash file f and the OTP file o, for Arm
abbrev pub board : ValuesView
board = record no_values { flash = codes "f"; otp = codes "o" }

-- an argument of this kind is the file that a command works on
abbrev pub is_file : Word → Bool
is_file kind =
    option_map_or (λ v. bytes_eq v.file (codes "f")) (with_word kind (codes "f") no_values) false

-- at most one argument of a row is the file that the command works on
abbrev pub has_one_file : Verb → Bool
has_one_file verb = nat_le (count_by is_file (row_of verb).words) 1
