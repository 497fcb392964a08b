-- The work of a replay, as a function, and its texts.
use Rattle.std.specs.Prelude.{ℕ, ◌+◌, false, List, [], ◌∷◌, ◌++◌, codes, decimal}
use Rattle.pico_board.specs.declared.boot.Cpu.{Cpu}
use Rattle.pico_board.specs.Content.{Content}
use Rattle.pico_board.specs.Files.{File}
use Rattle.block_codec.specs.Words.{bytes_of}
use Rattle.boot_script.specs.Scripts.{script_events}
use Rattle.text_lines.specs.Events.{outcome_text}
use Rattle.text_lines.specs.declared.outcome.EventOutcome.{EventOutcome}
use Rattle.boot_machine.specs.Machines.{StateView, Off, InBootsel, Running}
use Rattle.cli_course.specs.Outcomes.{Work, Answers, line}
use Rattle.boot_machine.specs.Plays.{Played, played, powerless}

-- the line of an event, by its number
abbrev pub event_line : ℕ → List ℕ → List ℕ
event_line n text = decimal n ++ (codes " " ++ line text)

-- the lines of events, which are numbered from a first number on
abbrev pub event_lines : ℕ → List EventOutcome → List ℕ
event_lines n [] = []
event_lines n (outcome ∷ outcomes) =
    event_line n (outcome_text outcome) ++ event_lines (n + 1) outcomes

-- what a machine is doing
abbrev pub state_text : StateView → List ℕ
state_text Off = codes "off"
state_text (InBootsel host) = codes "bootsel"
state_text (Running program) = codes "running"

-- the line after the events
abbrev pub end_line : StateView → List ℕ
end_line place = codes "end state=" ++ line (state_text place)

-- the files of a content: the bytes of the whole flash, and each row of the OTP in four bytes, the
-- lowest first
abbrev pub content_files : List ℕ → List ℕ → Content → List File
content_files flash otp c =
    record { name = flash; bytes = c.flash } ∷ record { name = otp; bytes = bytes_of c.otp } ∷ []

-- the events of a script that were played: their lines, and the content that they leave
abbrev pub played_work : Played → List ℕ → List ℕ → Work
played_work p flash otp =
    Answers false (event_lines 0 p.outcomes ++ end_line p.last.place)
    (content_files flash otp p.last.content)

-- a script on a machine without power
abbrev pub replay_work : Content → Cpu → List ℕ → List ℕ → List ℕ → Work
replay_work c cpu script flash otp =
    played_work (played (powerless c cpu) (script_events script)) flash otp
