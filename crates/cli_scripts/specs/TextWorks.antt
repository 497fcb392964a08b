-- The works of a script as text and back, as functions.
use Rattle.std.specs.Prelude.{ℕ, ◌+◌, false, List, [], ◌++◌, length, Result, Ok, Err, codes, decimal}
use Rattle.boot_script.specs.Events.{EventView}
use Rattle.boot_script.specs.Scripts.{script_events}
use Rattle.cli_course.specs.Outcomes.{Work, Answers, Refuses, line, one_file}
use Rattle.script_text.specs.declared.script.TextError.{TextError}
use Rattle.script_text.specs.declared.script.TextError.TheVariants.{Line, Memory}
use Rattle.script_text.specs.declared.script.TextFault.{TextFault}
use Rattle.script_text.specs.declared.script.TextFault.TheVariants.{BehindEnd, Words, Image, TooMany, TooLong}
use Rattle.script_words.specs.declared.fault.LineFault.TheVariants as faults
use Rattle.script_text.specs.Listing.{listed}
use Rattle.script_text.specs.Reading.{script_of, text_events}

-- a script as text
abbrev pub list_work : List ℕ → Work
list_work script = Answers false (listed (script_events script)) []

-- why a line is not read
abbrev pub fault_text : TextFault → List ℕ
fault_text BehindEnd = codes "behind-end"
fault_text (Words faults.Word) = codes "word"
fault_text (Words faults.Words) = codes "words"
fault_text (Words (faults.Value number)) = codes "value " ++ decimal number
fault_text Image = codes "image"
fault_text TooMany = codes "too-many"
fault_text TooLong = codes "too-long"

-- why a text is not read; missing memory is never the reason
abbrev pub text_fault : TextError → List ℕ
text_fault (Line n fault) = codes "text " ++ (decimal n ++ (codes " " ++ fault_text fault))
text_fault Memory = codes "memory"

-- the line of a script of so many records
abbrev pub script_line : ℕ → List ℕ
script_line n = codes "script records=" ++ line (decimal n)

-- a text is refused for its first fault, or its script is written, with an end after its events
abbrev pub read_work : List ℕ → List ℕ → Result (List EventView) TextError → Work
read_work name out (Ok es) =
    Answers false (script_line (length es + 1)) (one_file out (script_of es))
read_work name out (Err fault) = Refuses name (text_fault fault)

-- the script of a text whose lines may take bytes of an image
abbrev pub write_work : List ℕ → List ℕ → List ℕ → List ℕ → Work
write_work name out image text = read_work name out (text_events image text)
