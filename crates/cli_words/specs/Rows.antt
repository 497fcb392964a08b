-- The table of commands: for each row its name, its arguments in order, and what it does; and the
-- command that the arguments of a run are.
use Rattle.std.specs.Prelude.{ℕ, ◌==◌, Bool, if◌then◌else◌, List, [], ◌∷◌, length, Option, Some, None, option_map, option_and_then, codes, bytes_eq, map, Vec, String, string_bytes}
use Rattle.std.specs.List.{list_any}
use Rattle.std.specs.Option.{option_or}
use Rattle.std.specs.declared.alloc.Global.{Global}
use Rattle.pico_board.specs.declared.boot.Cpu.{Cpu as Processor}
use Rattle.pico_board.specs.Processors.{cpu_of}
use Rattle.pico_board.specs.declared.boot.BootKind.{BootKind}
use Rattle.part_table.specs.Families.{family_of}
use Rattle.text_words.specs.Reading.{number_of}
use Rattle.cli_words.specs.Values.{ValuesView, boot_kind_of, no_values, values_from}
use Rattle.cli_words.specs.declared.rows.TheConstants.{VERBS}
use Rattle.cli_words.specs.declared.rows.Verb.{Verb}
use Rattle.cli_words.specs.declared.rows.Verb.TheVariants as verbs
use Rattle.cli_words.specs.declared.arguments.Word.{Word}
use Rattle.cli_words.specs.declared.arguments.Word.TheVariants.{Binary, Command, Cpu, Elf, Family, Flash, Image, Json, Kind, Number, Otp, OtpJson, Out, OutFlash, OutOtp, Pattern, Require, Script, SourceImage, Spec, Text, Uf2}
use Rattle.cli_words.specs.declared.rows.CommandLine.{CommandLine}
use Rattle.cli_words.specs.declared.rows.Row.{Row}

-- a row: its name, the arguments after it, and what the command does
pub record RowView : Type 0 where
  pub name : List ℕ
  pub words : List Word
  pub does : List ℕ

abbrev pub row : List ℕ → List Word → List ℕ → RowView
row name words does = record { name = name; words = words; does = does }

-- the row that a row of the code stands for
abbrev pub row_from : Row → RowView
row_from of = row of.name.now of.words.now of.does.now

-- the rows
abbrev pub row_of : Verb → RowView
row_of verbs.Boot = row (codes "boot") (Flash ∷ Otp ∷ Cpu ∷ Kind ∷ [])
    (codes "which image a boot starts, or why it falls to BOOTSEL")
row_of verbs.Info = row (codes "info") (Flash ∷ Otp ∷ Cpu ∷ [])
    (codes "the partition table, and the image in each window or why there is none")
row_of verbs.OwnedData = row (codes "data") (Flash ∷ Otp ∷ Cpu ∷ Kind ∷ [])
    (codes "the same as boot, and the windows of the data that the image owns")
row_of verbs.Explain = row (codes "explain") (Flash ∷ Otp ∷ Cpu ∷ Kind ∷ [])
    (codes "why a boot decides so: each table, partition, unit and image")
row_of verbs.Caveats = row (codes "caveats") (Flash ∷ Otp ∷ Cpu ∷ Kind ∷ [])
    (codes "the same as boot, and where the chip may decide otherwise")
row_of verbs.Map = row (codes "map") (Flash ∷ Otp ∷ Cpu ∷ Out ∷ [])
    (codes "a picture of the flash, in SVG: what is where, and what a boot starts")
row_of verbs.Replay = row (codes "replay") (Flash ∷ Otp ∷ Cpu ∷ Script ∷ OutFlash ∷ OutOtp ∷ [])
    (codes "what each event of a script does, and what it leaves")
row_of verbs.Sweep = row (codes "sweep") (Flash ∷ Otp ∷ Cpu ∷ Script ∷ Pattern ∷ [])
    (codes "what a boot makes of each loss of power in a script's session")
row_of verbs.Chart = row (codes "chart") (Flash ∷ Otp ∷ Cpu ∷ Script ∷ Pattern ∷ Out ∷ [])
    (codes "the same as a picture: a file in SVG")
row_of verbs.Cuts = row (codes "cuts") (Flash ∷ Otp ∷ Cpu ∷ Script ∷ Pattern ∷ [])
    (codes "what a boot makes of each loss of power in any script")
row_of verbs.Check = row (codes "check") (Flash ∷ Otp ∷ Cpu ∷ Script ∷ Pattern ∷ [])
    (codes "whether a script does what an update is for")
row_of verbs.CheckAsked =
    row (codes "check") (Flash ∷ Otp ∷ Cpu ∷ Script ∷ Pattern ∷ Require ∷ [])
    (codes "the same, by what a team asks of an update")
row_of verbs.Seal = row (codes "seal") (Binary ∷ Spec ∷ Out ∷ [])
    (codes "the sealed image of a binary: with a version, a load map and a digest")
row_of verbs.Elf = row (codes "elf") (Elf ∷ Spec ∷ Out ∷ [])
    (codes "the sealed image of an ELF file, as a linker writes it")
row_of verbs.Firm = row (codes "firm") (Image ∷ Cpu ∷ [])
    (codes "whether an image is firm: its definition and digest follow its first sector")
row_of verbs.Table = row (codes "table") (Json ∷ Out ∷ [])
    (codes "the partition table of a text, as the first sector of a flash")
row_of verbs.OtpFile = row (codes "otp") (OtpJson ∷ Out ∷ [])
    (codes "the OTP file of a board that is told in words")
row_of verbs.Uf2 = row (codes "uf2") (Image ∷ Family ∷ Out ∷ []) (codes "the UF2 file of an image")
row_of verbs.Plan = row (codes "plan") (Flash ∷ Otp ∷ Cpu ∷ Image ∷ Out ∷ [])
    (codes "a script that writes an image to where a download of it goes")
row_of verbs.Load = row (codes "load") (Flash ∷ Otp ∷ Cpu ∷ Image ∷ Out ∷ [])
    (codes "a script that writes an image there in ascending order, as a host does")
row_of verbs.Stage = row (codes "stage") (Flash ∷ Otp ∷ Cpu ∷ Image ∷ Out ∷ [])
    (codes "a script that writes an image there with the page of its first block last")
row_of verbs.Copy = row (codes "copy") (Uf2 ∷ Out ∷ [])
    (codes "a script of a host that copies a UF2 file to the board's drive")
row_of verbs.ListScript = row (codes "list") (Script ∷ [])
    (codes "a script as text, with comments that say what its records are")
row_of verbs.WriteScript = row (codes "script") (Text ∷ Out ∷ [])
    (codes "the script of such a text")
row_of verbs.WriteImageScript = row (codes "script") (Text ∷ SourceImage ∷ Out ∷ [])
    (codes "the same, with bytes of an image where the text says so")
row_of verbs.Gen = row (codes "gen") (Number ∷ [])
    (codes "the digest of a flash that is made of a number, and what boots on it")
row_of verbs.Usage = row (codes "--help") [] (codes "this text")
row_of verbs.ShortUsage = row (codes "-h") [] (codes "the same")
row_of verbs.WordUsage = row (codes "help") [] (codes "the same")
row_of verbs.Help = row (codes "help") (Command ∷ []) (codes "how one command is used")
row_of verbs.Release = row (codes "--version") [] (codes "the version of the program")

-- an argument is the name of a row
abbrev pub is_row_name : List ℕ → Bool
is_row_name word = list_any (λ verb. bytes_eq (row_of verb).name word) VERBS

-- the values with that of one argument more, where the argument is of this kind; a name is any
-- argument but that of a command; a script, a binary, an image, a text or the like is the file
-- that the command works on
abbrev pub with_word : Word → List ℕ → ValuesView → Option ValuesView
with_word Cpu word v = option_map (λ cpu. record v { cpu = cpu }) (cpu_of word)
with_word Kind word v = option_map (λ kind. record v { kind = kind }) (boot_kind_of word)
with_word Flash word v = Some (record v { flash = word })
with_word Otp word v = Some (record v { otp = word })
with_word Pattern word v = Some (record v { pattern = word })
with_word Require word v = Some (record v { require = word })
with_word Spec word v = Some (record v { spec = word })
with_word SourceImage word v = Some (record v { image = word })
with_word OutFlash word v = Some (record v { out_flash = word })
with_word OutOtp word v = Some (record v { out_otp = word })
with_word Out word v = Some (record v { out = word })
with_word Family word v = option_map (λ family. record v { family = family }) (family_of word)
with_word Number word v = option_map (λ number. record v { number = number }) (number_of word)
with_word Command word v =
    if is_row_name word then Some (record v { command = word }) else None
with_word _ word v = Some (record v { file = word })

-- the values with those of arguments that are of these kinds, one after another
abbrev pub with_words : List Word → List (List ℕ) → ValuesView → Option ValuesView
with_words (kind ∷ kinds) (word ∷ words) v =
    option_and_then (with_words kinds words) (with_word kind word v)
with_words _ _ v = Some v

-- the values of so many arguments as there are kinds
abbrev pub row_values : List Word → List (List ℕ) → Option ValuesView
row_values kinds words =
    if length kinds == length words then with_words kinds words no_values else None

-- a command: a row, and the values of its arguments
pub record CommandLineView : Type 0 where
  pub verb : Verb
  pub values : ValuesView

abbrev pub command_line : Verb → ValuesView → CommandLineView
command_line verb values = record { verb = verb; values = values }

-- a command that has the arguments of a boot
abbrev pub boot_line : Verb → (flash otp : List ℕ) → Processor → BootKind → CommandLineView
boot_line verb flash otp cpu kind =
    command_line verb
    (record no_values { flash = flash; otp = otp; cpu = cpu; kind = kind })

abbrev pub Boot : (flash otp : List ℕ) → (cpu : Processor) → (kind : BootKind) → CommandLineView
Boot flash otp cpu kind = boot_line verbs.Boot flash otp cpu kind

-- the command of the arguments after a name, where they are this row
abbrev pub row_command : Verb → List ℕ → List (List ℕ) → Option CommandLineView
row_command verb name words =
    if bytes_eq (row_of verb).name name
    then option_map (command_line verb) (row_values (row_of verb).words words)
    else None

-- the command of the first of these rows that the arguments after a name are
abbrev pub first_command : List Verb → List ℕ → List (List ℕ) → Option CommandLineView
first_command [] name words = None
first_command (verb ∷ verbs) name words =
    option_or (row_command verb name words) (first_command verbs name words)

-- the command that the arguments are; other arguments are no command
abbrev pub command_of : List (List ℕ) → Option CommandLineView
command_of [] = None
command_of (name ∷ words) = first_command VERBS name words

-- the command of a run's arguments
abbrev pub asked : Vec (String Global) Global → Option CommandLineView
asked words = command_of (map string_bytes words.items)

-- a command, with its names as text
abbrev pub command_from : CommandLine → CommandLineView
command_from command = command_line command.verb (values_from command.values)
