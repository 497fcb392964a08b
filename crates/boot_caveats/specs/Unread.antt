-- The decision of a boot that does not apply the rule on rollback rows, as a function: rows are
-- read and raised on a board with secure boot alone, from memory.
use Rattle.std.specs.Prelude.{ℕ, ◌*◌, ◌/◌, ◌%◌, ◌==◌, ◌||◌, Bool, true, false, if◌then◌else◌, List, length, map, slice_index, Option, Result, Ok, Err}
use Rattle.std.specs.List.{range_with_len}
use Rattle.std.specs.Option.{option_map_or}
use Rattle.pico_board.specs.declared.boot.Cpu.{Cpu}
use Rattle.pico_board.specs.declared.boot.BootKind.{BootKind}
use Rattle.pico_board.specs.declared.window.Window.{Window}
use Rattle.pico_board.specs.Content.{Content}
use Rattle.otp_roll.specs.declared.flags.TheConstants.{BOOT_FLAGS, SLOT_SIZE_ROW}
use Rattle.image_def.specs.declared.started.Started.{Started}
use Rattle.image_check.specs.declared.why.Why.{Why}
use Rattle.image_check.specs.declared.why.Why.TheVariants.{NoBlock, Loop, NoDefinition, NotForProcessor, Items, Trial, RollbackRequired, Below, Map, Entry, Digest, Delta}
use Rattle.boot_rules.specs.Choosing.{decision_in}
use Rattle.boot_reasons.specs.declared.looks.UnitReport.{UnitReport}
use Rattle.boot_caveats.specs.ChoiceCaveats.{started_window}

-- of a row the slot size and whether flash boot is off alone, and 0 elsewhere
abbrev pub unread_row : List ℕ → ℕ → ℕ
unread_row otp row =
    if row == SLOT_SIZE_ROW then slice_index otp row
    else (if row == BOOT_FLAGS then 2 * (slice_index otp row / 2 % 2) else 0)

-- an OTP that has 0 in every row but row 0x055 and bit 1 of row 0x048
unfoldable pub unread_rows : List ℕ → List ℕ
unread_rows otp = map (unread_row otp) (range_with_len 0 (length otp))

abbrev pub unread_content : Content → Content
unread_content c = record { flash = c.flash; otp = unread_rows c.otp }

-- the window in which a boot starts that does not apply the rule
abbrev pub unread_window : Content → Cpu → BootKind → Option Window
unread_window c cpu kind = started_window (decision_in (unread_content c) cpu kind)

-- an image fails the rule on rollback rows
abbrev pub is_rollback : Why → Bool
is_rollback NoBlock = false
is_rollback (Loop fault) = false
is_rollback NoDefinition = false
is_rollback NotForProcessor = false
is_rollback (Items fault) = false
is_rollback Trial = false
is_rollback RollbackRequired = true
is_rollback (Below version count) = true
is_rollback (Map fault) = false
is_rollback (Entry fault) = false
is_rollback Digest = false
is_rollback Delta = false

abbrev pub fails_rollback : Result Started Why → Bool
fails_rollback (Ok s) = false
fails_rollback (Err why) = is_rollback why

-- a member of a unit that is looked at does
abbrev pub has_rollback_fault : UnitReport → Bool
has_rollback_fault look =
    fails_rollback look.first || option_map_or fails_rollback look.second false
