-- The script by which a host writes an image into a window with one page of the window's first
-- sector last, and starts the image. This project's own.
use Rattle.std.specs.Prelude.{◌≡◌, ℕ, ◌+◌, ◌*◌, ◌==◌, Bool, if◌then◌else◌, List, [], ◌∷◌, ◌++◌, length, slice_range, flat_map}
use Rattle.pico_board.specs.declared.boot.BootKind.TheVariants.{Bootsel, Normal}
use Rattle.boot_script.specs.Events.{EventView, Buy, End, PowerOn, Reset}
use Rattle.boot_script.specs.Written.{written_event}
use Rattle.script_plan.specs.Commands.{erase_cmd, sent, update_cmd, write_cmd}
use Rattle.script_plan.specs.Plans.{in_sectors}

-- a command that lacks its token
abbrev pub Call : Type 0
Call = ℕ → EventView

-- `size` bytes are erased at a flash offset
abbrev pub erase_call : ℕ → ℕ → Call
erase_call at size token = sent (erase_cmd token at size) []

-- bytes are written at a flash offset
abbrev pub write_call : ℕ → List ℕ → Call
write_call at bytes token = sent (write_cmd token at (length bytes)) bytes

-- the board reboots into an update of the region at a flash offset
abbrev pub update_call : ℕ → Call
update_call at token = sent (update_cmd token at) []

-- the commands with tokens one after another, from this one on
abbrev pub with_tokens : ℕ → List Call → List EventView
with_tokens token [] = []
with_tokens token (call ∷ calls) = call token ∷ with_tokens (token + 1) calls

-- the sectors of the bytes are erased, and the bytes are written; no bytes need no command
abbrev pub rest_calls : ℕ → List ℕ → List Call
rest_calls at bytes =
    if length bytes == 0 then []
    else erase_call at (in_sectors (length bytes)) ∷ write_call at bytes ∷ []

-- the bytes are written; no bytes need no command
abbrev pub part_calls : ℕ → List ℕ → List Call
part_calls at bytes = if length bytes == 0 then [] else write_call at bytes ∷ []

-- the bytes are written, whatever their number, and the board reboots into the update
abbrev pub last_calls : ℕ → ℕ → List ℕ → List Call
last_calls at place bytes = write_call place bytes ∷ update_call at ∷ []

-- the window at a flash offset: its first sector is erased; what the image has behind its first
-- 4096 bytes is erased and written; then come the pages of the first sector before this page and
-- those behind it, and the page itself last; and the board reboots into the update
abbrev pub stage_calls : ℕ → ℕ → List ℕ → List Call
stage_calls at page image =
    erase_call at 4096
    ∷ (rest_calls (at + 4096) (slice_range image 4096 (length image))
    ++ (part_calls at (slice_range image 0 (256 * page))
    ++ (part_calls (at + 256 * (page + 1)) (slice_range image (256 * (page + 1)) 4096)
    ++ last_calls at (at + 256 * page) (slice_range image (256 * page) (256 * (page + 1))))))

-- the image that runs is bought, and the board is reset to start it again
abbrev pub buy_events : Bool → List EventView
buy_events is_bought = if is_bought then Buy ∷ Reset Normal ∷ [] else []

-- the events that write an image at a flash offset with this page last: the power comes on; the
-- board is reset to BOOTSEL; the commands have tokens from 1 on; and the image may be bought
abbrev pub stage_events : ℕ → ℕ → Bool → List ℕ → List EventView
stage_events at page is_bought image =
    PowerOn ∷ Reset Bootsel ∷ (with_tokens 1 (stage_calls at page image) ++ buy_events is_bought)

-- the script of these events, and then the end
abbrev pub stage_text : ℕ → ℕ → Bool → List ℕ → List ℕ
stage_text at page is_bought image =
    flat_map written_event (stage_events at page is_bought image) ++ written_event End

-- the text behind the old one is that of these commands with tokens from the first on, and the next
-- token is the one behind theirs: whatever commands follow
abbrev pub Sends : List Call → ℕ → List ℕ → ℕ → List ℕ → Type 0
Sends calls token old next new = (more : List Call)
    → new ++ flat_map written_event (with_tokens next more)
    ≡ old ++ flat_map written_event (with_tokens token (calls ++ more))
