-- The work of `stage`, as a function.
use Rattle.std.specs.Prelude.{ℕ, ◌==◌, ◌&&◌, nat_lt, Bool, true, false, if◌then◌else◌, List, ◌++◌, length, Option, Some, None, Result, Ok, Err, codes, decimal}
use Rattle.pico_board.specs.declared.boot.Cpu.{Cpu}
use Rattle.pico_board.specs.declared.window.Window.{Window}
use Rattle.pico_board.specs.Content.{Content, window_bytes}
use Rattle.part_table.specs.declared.target.Target.{Target}
use Rattle.block_loop.specs.Loop.{loop_of}
use Rattle.block_loop.specs.Offsets.{loop_offsets}
use Rattle.image_def.specs.declared.started.Started.{Started}
use Rattle.image_check.specs.declared.why.Why.{Why}
use Rattle.image_check.specs.Addressing.{in_flash}
use Rattle.image_check.specs.Image.{image_in}
use Rattle.boot_rules.specs.Choosing.{boot_units_in}
use Rattle.script_stage.specs.Stages.{stage_text}
use Rattle.script_stage.specs.Written.{written_window}
use Rattle.text_lines.specs.Faults.{why_text}
use Rattle.text_lines.specs.Texts.{window_text}
use Rattle.cli_course.specs.Outcomes.{one_file, line, Work, Answers, Refuses}
use Rattle.cli_tools.specs.ToolWorks.{plan_target}
use Rattle.cli_stage.specs.Images.{file_fault, first_page, is_lone, is_unit_window}

-- the word of the order: `staged` where each block below 4096 is one of the loop's
abbrev pub order_word : Bool → List ℕ
order_word true = codes "staged"
order_word false = codes "gated"

-- the line of a script for an image of so many bytes
abbrev pub stage_line : Window → ℕ → Bool → List ℕ
stage_line w n is_staged =
    codes "stage " ++ (window_text w ++ (codes " bytes=" ++ (decimal n
    ++ (codes " order=" ++ line (order_word is_staged)))))

-- the script that writes an image into a window with the page of its first block last. The image
-- is bought where it is a trial and the window is a member of a boot unit
abbrev pub staged_work : Content → Cpu → Window → List ℕ → List ℕ → List ℕ → Started → Work
staged_work c cpu w out image written started =
    Answers false
    (stage_line w (length image) (is_lone written (loop_offsets (loop_of written))))
    (one_file out (stage_text w.start (first_page (loop_offsets (loop_of written)))
    (started.trial && is_unit_window w (boot_units_in c cpu)) image))

-- an image that fails a rule is refused
abbrev pub judged_work : Content → Cpu → Window → (name out image written : List ℕ)
    → Result Started Why → Work
judged_work c cpu w name out image written (Ok started) =
    staged_work c cpu w out image written started
judged_work c cpu w name out image written (Err why) =
    Refuses name (codes "not-bootable " ++ why_text why)

-- an image is judged in the bytes that the window has once it is written there
abbrev pub written_work : Content → Cpu → Window → (name out image written : List ℕ) → Work
written_work c cpu w name out image written =
    judged_work c cpu w name out image written (image_in in_flash w cpu true c.otp written)

-- a file of another form is refused
abbrev pub file_work : Content → Cpu → Window → (name out image : List ℕ) → Option (List ℕ) → Work
file_work c cpu w name out image (Some fault) = Refuses name fault
file_work c cpu w name out image None =
    written_work c cpu w name out image (written_window image (window_bytes c w))

-- an image of no byte, or of more bytes than the window, is refused
abbrev pub window_work : Content → Cpu → (name out image : List ℕ) → Window → Work
window_work c cpu name out image w =
    if length image == 0 then Refuses name (codes "empty")
    else if nat_lt w.len (length image) then Refuses name (codes "past-window")
    else file_work c cpu w name out image (file_fault image)

-- where there is no target the image is refused
abbrev pub target_work : Content → Cpu → (name out image : List ℕ) → Option Target → Work
target_work c cpu name out image None = Refuses name (codes "no-target")
target_work c cpu name out image (Some target) = window_work c cpu name out image target.window

-- the script that writes an image where a download of the processor's executables goes
abbrev pub stage_work : Content → Cpu → (name out image : List ℕ) → Work
stage_work c cpu name out image = target_work c cpu name out image (plan_target c cpu)
