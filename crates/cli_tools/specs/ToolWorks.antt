-- The work of the commands that make files of an image, and of `gen`, which makes a flash of a
-- number, as a function.
use Rattle.std.specs.Prelude.{ℕ, ◌==◌, nat_lt, if◌then◌else◌, false, List, [], ◌++◌, length, Option, Some, None, option_map, codes, decimal}
use Rattle.std.specs.List.{flat_map}
use Rattle.sha2.specs.Sha256.{sha256}
use Rattle.pico_board.specs.declared.boot.Cpu.{Cpu}
use Rattle.pico_board.specs.declared.boot.Cpu.TheVariants.{Arm, Riscv}
use Rattle.pico_board.specs.declared.boot.BootKind.TheVariants.{Normal}
use Rattle.pico_board.specs.declared.window.Window.{Window}
use Rattle.pico_board.specs.Content.{Content}
use Rattle.part_table.specs.declared.target.Target.{Target}
use Rattle.part_table.specs.Families.{arm_s_family, riscv_family}
use Rattle.boot_rules.specs.declared.tables.Found.{Found}
use Rattle.boot_rules.specs.Choosing.{decision_in}
use Rattle.boot_rules.specs.Tables.{table_in}
use Rattle.boot_rules.specs.Targets.{target_of}
use Rattle.text_words.specs.Writing.{hex_digits}
use Rattle.text_lines.specs.Texts.{window_text, decision_line}
use Rattle.uf2_place.specs.Files.{file_bytes, page_count}
use Rattle.image_pack.specs.Faults.{zero_otp}
use Rattle.script_plan.specs.declared.writing.WriteOrder.{WriteOrder}
use Rattle.script_plan.specs.declared.writing.WriteOrder.TheVariants.{FirstLast, Ascending}
use Rattle.script_plan.specs.Orders.{script_text}
use Rattle.image_pack.specs.Flashes.{generated}
use Rattle.cli_course.specs.Outcomes.{one_file, line, Work, Answers, Refuses}

-- the line of a UF2 file of so many blocks
abbrev pub uf2_line : ℕ → List ℕ
uf2_line blocks = codes "uf2 blocks=" ++ line (decimal blocks)

-- the UF2 file of an image; an image of no byte is refused
abbrev pub uf2_work : List ℕ → ℕ → List ℕ → List ℕ → Work
uf2_work name family out image =
    if length image == 0 then Refuses name (codes "empty")
    else Answers false (uf2_line (page_count (length image)))
    (one_file out (file_bytes image family))

-- the family of a processor's executables
abbrev pub executable_family : Cpu → ℕ
executable_family Arm = arm_s_family
executable_family Riscv = riscv_family

-- where a download of the processor's executables goes
abbrev pub plan_target : Content → Cpu → Option Target
plan_target c cpu =
    target_of c (option_map (λ (found : Found). found.table) (table_in c)) cpu
    (executable_family cpu)

-- the word of the command that writes an image in this order
abbrev pub order_word : WriteOrder → List ℕ
order_word FirstLast = codes "plan"
order_word Ascending = codes "load"

-- the line of a script for an image of so many bytes
abbrev pub script_line : WriteOrder → Window → ℕ → List ℕ
script_line order w n =
    order_word order ++ (codes " " ++ (window_text w ++ (codes " bytes=" ++ line (decimal n))))

-- the script that writes an image into a window; an image of no byte, or of more bytes than the
-- window, is refused
abbrev pub window_work : WriteOrder → Window → List ℕ → List ℕ → List ℕ → Work
window_work order w name out image =
    if length image == 0 then Refuses name (codes "empty")
    else if nat_lt w.len (length image) then Refuses name (codes "past-window")
    else Answers false (script_line order w (length image))
    (one_file out (script_text order w.start image))

-- the script that writes an image into a target's window; where there is no target the image is
-- refused
abbrev pub target_work : WriteOrder → Option Target → List ℕ → List ℕ → List ℕ → Work
target_work order None name out image = Refuses name (codes "no-target")
target_work order (Some target) name out image = window_work order target.window name out image

-- the script that writes an image where a download of the processor's executables goes
abbrev pub script_work : WriteOrder → Content → Cpu → List ℕ → List ℕ → List ℕ → Work
script_work order c cpu name out image = target_work order (plan_target c cpu) name out image

-- the flash of a number, and an OTP of zeros
abbrev pub made_content : ℕ → Content
made_content n = record { flash = generated n; otp = zero_otp }

-- the SHA-256 of bytes, each of its bytes as two digits
abbrev pub digest_text : List ℕ → List ℕ
digest_text bytes = flat_map (hex_digits 2) (sha256 bytes)

-- the line of the flash of a number
abbrev pub gen_line : ℕ → List ℕ → List ℕ
gen_line n flash =
    codes "gen n=" ++ (decimal n ++ (codes " sha256=" ++ line (digest_text flash)))

-- the flash of a number, and which image a normal boot for Arm starts on it
abbrev pub gen_work : ℕ → Work
gen_work n =
    Answers false
    (gen_line n (generated n) ++ decision_line (decision_in (made_content n) Arm Normal)) []
