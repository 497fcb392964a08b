-- The script by which a host writes an image into a window in ascending order, sector by sector,
-- and starts the image. This project's own, modelled on what picotool's `load` sends.
use Rattle.std.specs.Prelude.{ℕ, ◌+◌, ◌-◌, ◌*◌, ◌/◌, List, [], ◌∷◌, ◌++◌, length, flat_map, replicate, slice_range}
use Rattle.std.specs.List.{range_with_len}
use Rattle.pico_board.specs.declared.boot.BootKind.TheVariants.{Bootsel}
use Rattle.boot_script.specs.Events.{EventView, End, PowerOn, Reset}
use Rattle.boot_script.specs.Written.{written_event}
use Rattle.script_plan.specs.Commands.{erase_cmd, exclusive_cmd, exit_cmd, sent, update_cmd, write_cmd}

-- how many sectors hold so many bytes
abbrev pub sector_count : ℕ → ℕ
sector_count n = (n + 4095) / 4096

-- a part of a sector, with 0 after its end
abbrev pub filled_sector : List ℕ → List ℕ
filled_sector part = part ++ replicate (4096 - length part) 0

-- sector number k of an image
abbrev pub sector_of : List ℕ → ℕ → List ℕ
sector_of image k = filled_sector (slice_range image (4096 * k) (4096 * k + 4096))

-- these bytes are written as sector number k: XIP is left, the sector is erased, and the bytes are
-- written; the tokens are 3 * k + 2 and the next two
abbrev pub sector_commands : ℕ → ℕ → List ℕ → List EventView
sector_commands at k sector =
    sent (exit_cmd (3 * k + 2)) []
    ∷ sent (erase_cmd (3 * k + 3) (at + 4096 * k) 4096) []
    ∷ sent (write_cmd (3 * k + 4) (at + 4096 * k) 4096) sector ∷ []

-- sector number k of an image is written at its place
abbrev pub sector_events : ℕ → List ℕ → ℕ → List EventView
sector_events at image k = sector_commands at k (sector_of image k)

-- the sectors of an image, in ascending order
abbrev pub sectors_events : ℕ → List ℕ → List EventView
sectors_events at image =
    flat_map (sector_events at image) (range_with_len 0 (sector_count (length image)))

-- the reboot into the update
abbrev pub boot_events : ℕ → ℕ → List EventView
boot_events token at = sent (update_cmd token at) [] ∷ []

-- the sectors, and then the reboot
abbrev pub writes_events : ℕ → List ℕ → List EventView
writes_events at image =
    sectors_events at image ++ boot_events (3 * sector_count (length image) + 2) at

-- the events that write an image at a flash offset: the power comes on; the board is reset to
-- BOOTSEL; the host asks for exclusive access, writes one sector after another, and reboots into
-- the update; tokens count from 1
abbrev pub load_events : ℕ → List ℕ → List EventView
load_events at image =
    PowerOn ∷ Reset Bootsel ∷ sent (exclusive_cmd 1) [] ∷ writes_events at image

-- the script of these events, and then the end
abbrev pub load_text : ℕ → List ℕ → List ℕ
load_text at image = flat_map written_event (load_events at image) ++ written_event End
