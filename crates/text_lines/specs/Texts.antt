-- The texts of windows, images and tables, and of a boot's decision.
use Rattle.std.specs.Prelude.{ℕ, ◌==◌, ◌&&◌, ◌||◌, if◌then◌else◌, Bool, List, [], ◌++◌, length, Option, Some, None, Result, Ok, Err, codes, decimal}
use Rattle.std.specs.List.{flat_map}
use Rattle.sha2.specs.Sha256.{sha256}
use Rattle.text_words.specs.Writing.{hex_byte, hex_digits, hex_word, line, yes_or_no}
use Rattle.pico_board.specs.declared.window.Window.{Window}
use Rattle.block_codec.specs.declared.versions.Version.{Version}
use Rattle.part_table.specs.declared.target.Target.{Target}
use Rattle.image_def.specs.declared.started.Started.{Started}
use Rattle.picoboot_cmd.specs.declared.cmd.Cmd.{Cmd}
use Rattle.picoboot_cmd.specs.declared.kinds.TheConstants.{READ, OTP_READ, OK}
use Rattle.info_reply.specs.declared.kinds.TheConstants.{INFO}
use Rattle.image_check.specs.declared.why.Why.{Why}
use Rattle.uf2_place.specs.declared.block.Uf2Fault.{Uf2Fault}
use Rattle.uf2_place.specs.declared.block.Uf2Fault.TheVariants.{Magic, Payload, Alignment, Number}
use Rattle.uf2_place.specs.declared.answer.Accepted.{Accepted}
use Rattle.uf2_place.specs.declared.answer.Accepted.TheVariants.{Skipped, Again, Taken, Done}
use Rattle.uf2_place.specs.declared.answer.PlaceFault.{PlaceFault}
use Rattle.uf2_place.specs.declared.answer.PlaceFault.TheVariants.{NoTarget, Outside, NotPermitted, PowerLost}
use Rattle.boot_rules.specs.declared.decision.Decision.{Decision}
use Rattle.boot_rules.specs.declared.decision.Decision.TheVariants.{Start, Bootsel}
use Rattle.boot_rules.specs.declared.decision.Fall.{Fall}
use Rattle.boot_rules.specs.declared.decision.Fall.TheVariants.{Requested, FlashOff, NoImage}
use Rattle.boot_rules.specs.declared.tables.Found.{Found}
use Rattle.text_lines.specs.Faults.{why_text}

-- the rollback version, or `none`
abbrev pub rollback_text : Option ℕ → List ℕ
rollback_text None = codes "none"
rollback_text (Some version) = decimal version

-- the start and the length of a window
abbrev pub range_text : Window → List ℕ
range_text w = hex_word w.start ++ (codes "+" ++ hex_word w.len)

-- a window
abbrev pub window_text : Window → List ℕ
window_text w = codes "window=" ++ range_text w

abbrev pub version_text : Version → List ℕ
version_text v = codes "version=" ++ (decimal v.major ++ (codes "." ++ decimal v.minor))

-- the table that was found, by its slot
abbrev pub found_text : Found → List ℕ
found_text found =
    codes "table slot=" ++ (decimal found.slot ++ (codes " " ++ (version_text found.table.version
    ++ (codes " partitions=" ++ decimal (length found.table.parts.items)))))

-- the partition table that a flash has, or none
abbrev pub table_text : Option Found → List ℕ
table_text None = codes "table none"
table_text (Some found) = found_text found

-- a window with a valid image
abbrev pub valid_text : Window → Started → List ℕ
valid_text w s =
    codes "image " ++ (window_text w ++ (codes " ok " ++ (version_text s.version
    ++ (codes " rollback=" ++ rollback_text s.rollback))))

-- a window without one
abbrev pub invalid_text : Window → Why → List ℕ
invalid_text w why = codes "image " ++ (window_text w ++ (codes " fault=" ++ why_text why))

-- a window, with its image or why there is none
abbrev pub image_text : Window → Result Started Why → List ℕ
image_text w (Ok s) = valid_text w s
image_text w (Err why) = invalid_text w why

-- a window of data that follows its owner
abbrev pub data_text : Window → List ℕ
data_text w = codes "data " ++ window_text w

-- where an image starts: the place of its block, PC, SP and the stack limit
abbrev pub entry_text : Started → List ℕ
entry_text s =
    codes "block="
    ++ (hex_word s.block ++ (codes " pc=" ++ (hex_word s.pc ++ (codes " sp=" ++ (hex_word s.sp
    ++ (codes " limit=" ++ hex_word s.limit))))))

-- its rollback version, and whether it is a trial
abbrev pub standing_text : Started → List ℕ
standing_text s =
    codes " rollback=" ++ (rollback_text s.rollback ++ (codes " trial=" ++ yes_or_no s.trial))

-- the rest of a start, behind its window
abbrev pub rest_text : Started → List ℕ
rest_text s =
    codes " " ++ (entry_text s ++ (codes " " ++ (version_text s.version ++ standing_text s)))

-- an image that starts
abbrev pub start_text : Started → List ℕ
start_text s = codes "start " ++ (window_text s.window ++ rest_text s)

-- why a boot falls to BOOTSEL
abbrev pub fall_text : Fall → List ℕ
fall_text Requested = codes "bootsel requested"
fall_text FlashOff = codes "bootsel flash-off"
fall_text NoImage = codes "bootsel no-image"

-- the decision of a boot
abbrev pub decision_text : Decision → List ℕ
decision_text (Start choice) = start_text choice.image
decision_text (Bootsel fall) = fall_text fall

-- the line of a decision
abbrev pub decision_line : Decision → List ℕ
decision_line d = line (decision_text d)
