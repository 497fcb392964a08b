-- The work of `firm`, as a function.
use Rattle.std.specs.Prelude.{ℕ, Bool, true, false, List, [], ◌∷◌, ◌++◌, length, Result, Ok, Err, codes}
use Rattle.pico_board.specs.declared.boot.Cpu.{Cpu}
use Rattle.pico_board.specs.declared.window.Window.{Window}
use Rattle.pico_board.specs.Content.{Content, window_bytes}
use Rattle.image_def.specs.declared.started.Started.{Started}
use Rattle.image_check.specs.declared.why.Why.{Why}
use Rattle.image_check.specs.Image.{image_at}
use Rattle.cli_course.specs.Outcomes.{Work, Answers, Refuses, line}
use Rattle.cli_inputs.specs.Forms.{content_of_files, filled_flash}
use Rattle.text_lines.specs.Faults.{why_text}
use Rattle.text_words.specs.Writing.{yes_or_no}
use Rattle.boot_firm.specs.Firmness.{is_firm}

-- an image alone: a flash of its bytes, filled to whole sectors, and an OTP of zeros
abbrev pub image_alone : List ℕ → Content
image_alone image = content_of_files image []

-- the window of an image alone is the whole flash
abbrev pub whole_window : List ℕ → Window
whole_window image = record { start = 0; len = length (filled_flash image) }

abbrev pub firm_line : Bool → List ℕ
firm_line firm = codes "firm " ++ line (yes_or_no firm)

-- an image that fails a rule is refused
abbrev pub judged_work : List ℕ → List ℕ → Cpu → Result Started Why → Work
judged_work name image cpu (Ok started) =
    Answers false
    (firm_line (is_firm cpu (window_bytes (image_alone image) (whole_window image)) started)) []
judged_work name image cpu (Err why) = Refuses name (codes "not-bootable " ++ why_text why)

abbrev pub firm_work : List ℕ → List ℕ → Cpu → Work
firm_work name [] cpu = Refuses name (codes "empty")
firm_work name (b ∷ bytes) cpu =
    judged_work name (b ∷ bytes) cpu
    (image_at (image_alone (b ∷ bytes)) (whole_window (b ∷ bytes)) cpu true)
