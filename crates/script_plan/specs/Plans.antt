-- The script by which a host writes an image into a window and starts the image. The window's
-- first sector is written last. This project's own.
use Rattle.std.specs.Prelude.{◌≡◌, ℕ, ◌+◌, ◌*◌, ◌/◌, ◌%◌, ◌≤◌, nat_lt, if◌then◌else◌, List, [], ◌∷◌, ◌++◌, length, take, drop}
use Rattle.std.specs.List.{flat_map}
use Rattle.pico_board.specs.declared.window.TheConstants.{MOST_FLASH_BYTES}
use Rattle.pico_board.specs.declared.window.Window.{Window}
use Rattle.pico_board.specs.declared.boot.BootKind.TheVariants.{Bootsel}
use Rattle.boot_script.specs.Events.{EventView, End, PowerOn, Reset}
use Rattle.boot_script.specs.Written.{written_event}
use Rattle.script_plan.specs.Commands.{erase_cmd, sent, update_cmd, write_cmd}

-- the number of bytes of as many whole sectors as n bytes need
abbrev pub in_sectors : ℕ → ℕ
in_sectors n = 4096 * ((n + 4095) / 4096)

-- a window of whole sectors that ends at or below the most bytes of a flash
pub record IsPlanned (w : Window) : Type 0 where
  pub start : w.start % 4096 ≡ 0
  pub len : w.len % 4096 ≡ 0
  pub low : w.start + w.len ≤ MOST_FLASH_BYTES

-- the rest of an image after its first sector: the sectors of the rest are erased, and the rest is
-- written
abbrev pub rest_events : ℕ → List ℕ → List EventView
rest_events at rest =
    sent (erase_cmd 2 at (in_sectors (length rest))) []
    ∷ sent (write_cmd 3 at (length rest)) rest ∷ []

-- the bytes of the first sector are written, and the board reboots into the update
abbrev pub last_events : ℕ → ℕ → List ℕ → List EventView
last_events token at first =
    sent (write_cmd token at (length first)) first ∷ sent (update_cmd (token + 1) at) [] ∷ []

-- what follows the erase of the first sector; tokens count from 1
abbrev pub write_events : ℕ → List ℕ → List EventView
write_events at image =
    if nat_lt 4096 (length image)
    then rest_events (at + 4096) (drop 4096 image) ++ last_events 4 at (take 4096 image)
    else last_events 2 at (take 4096 image)

-- the events that write an image at a flash offset: the power comes on; the board is reset to
-- BOOTSEL; the first sector is erased; the rest is erased and written; and the first sector is
-- written last
abbrev pub plan_events : ℕ → List ℕ → List EventView
plan_events at image =
    PowerOn ∷ Reset Bootsel ∷ sent (erase_cmd 1 at 4096) [] ∷ write_events at image

-- the script of these events, and then the end
abbrev pub plan_text : ℕ → List ℕ → List ℕ
plan_text at image = flat_map written_event (plan_events at image) ++ written_event End
