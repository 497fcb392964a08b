-- The event that stands at an offset of a list of bytes, or the fault.
use Rattle.std.specs.Prelude.{ℕ, Bool, Result, Ok, Err, Option, Some, None, List, [], ◌∷◌, ◌+◌, ◌==◌, ◌&&◌, false, nat_le, nat_lt, if◌then◌else◌, length, take, drop, slice_index}
use Rattle.byteorder.specs.Endian.{little_number}
use Rattle.pico_board.specs.declared.boot.BootKind.{BootKind}
use Rattle.pico_board.specs.declared.boot.BootKind.TheVariants.{Normal, Bootsel, Update}
use Rattle.boot_script.specs.declared.event.Event.{Event}
use Rattle.boot_script.specs.declared.event.ScriptFault.{ScriptFault}
use Rattle.boot_script.specs.declared.event.ScriptFault.TheVariants.{Kind, Short, Pattern}
use Rattle.boot_script.specs.declared.kinds.TheConstants.{END, COMMAND, UF2, CUT, POWER_ON, RESET, BUY, RESET_NORMAL, RESET_BOOTSEL, RESET_UPDATE}
use Rattle.boot_script.specs.Events.{EventView, End, Command, Uf2, Cut, PowerOn, Reset, Buy, event_from}
use Rattle.boot_script.specs.Written.{written_event}

-- the payload or the pattern, of this size, at the front of the bytes after the fixed ones
abbrev pub with_rest : ℕ → ℕ → List ℕ → (List ℕ → EventView) → Result EventView ScriptFault
with_rest at size rest event =
    if nat_lt (length rest) size then Err (Short at) else Ok (event (take size rest))

-- the payload of a command: its length in four bytes, and as many bytes
abbrev pub payload_in : ℕ → List ℕ → List ℕ → Result EventView ScriptFault
payload_in at command bs =
    if nat_lt (length bs) 4 then Err (Short at)
    else with_rest at (little_number 4 bs) (drop 4 bs) (Command command)

-- a command: 32 bytes and its payload
abbrev pub command_event_in : ℕ → List ℕ → Result EventView ScriptFault
command_event_in at bs =
    if nat_lt (length bs) 32 then Err (Short at) else payload_in at (take 32 bs) (drop 32 bs)

-- a UF2 block: 512 bytes
abbrev pub uf2_in : ℕ → List ℕ → Result EventView ScriptFault
uf2_in at bs = if nat_lt (length bs) 512 then Err (Short at) else Ok (Uf2 (take 512 bs))

-- a cut before its step has no pattern, and one within it has a pattern of 1 to 4096 bytes
abbrev pub is_cut : ℕ → ℕ → Bool
is_cut part size =
    if part == 0 then size == 0 else if part == 1 then nat_le 1 size && nat_le size 4096 else false

-- a cut: the steps in four bytes, the part in one, the length of the pattern in two, and the
-- pattern
abbrev pub cut_event_in : ℕ → List ℕ → Result EventView ScriptFault
cut_event_in at bs =
    if nat_lt (length bs) 7 then Err (Short at)
    else if is_cut (slice_index bs 4) (little_number 2 (drop 5 bs)) then
    with_rest at (little_number 2 (drop 5 bs)) (drop 7 bs)
    (Cut (little_number 4 bs) (slice_index bs 4 == 1))
    else Err (Pattern at)

-- the boot that a reset of this kind byte and this base is to; only an update boot has a base
abbrev pub reset_of : ℕ → ℕ → Option BootKind
reset_of kind base =
    if kind == RESET_UPDATE then Some (Update base)
    else if base == 0 then
    (if kind == RESET_NORMAL then Some Normal
    else if kind == RESET_BOOTSEL then Some Bootsel
    else None)
    else None

-- the event of that boot
abbrev pub reset_event : ℕ → Option BootKind → Result EventView ScriptFault
reset_event at None = Err (Kind at)
reset_event at (Some kind) = Ok (Reset kind)

-- a reset: its kind in a byte, and its base in four
abbrev pub reset_in : ℕ → List ℕ → Result EventView ScriptFault
reset_in at bs =
    if nat_lt (length bs) 5 then Err (Short at)
    else reset_event at (reset_of (slice_index bs 0) (little_number 4 (drop 1 bs)))

-- the event at the front of bytes that stand at the offset `at`, or its fault
abbrev pub event_in : ℕ → List ℕ → Result EventView ScriptFault
event_in at [] = Err (Short at)
event_in at (kind ∷ rest) =
    if kind == END then Ok End
    else if kind == COMMAND then command_event_in at rest
    else if kind == UF2 then uf2_in at rest
    else if kind == CUT then cut_event_in at rest
    else if kind == POWER_ON then Ok PowerOn
    else if kind == RESET then reset_in at rest
    else if kind == BUY then Ok Buy
    else Err (Kind at)

-- an event with the offset after it
abbrev pub and_next : ℕ → Result EventView ScriptFault → Result (EventView × ℕ) ScriptFault
and_next at (Ok e) = Ok (e, at + length (written_event e))
and_next at (Err fault) = Err fault

-- the event at the offset, and the offset after it
abbrev pub event_at : List ℕ → ℕ → Result (EventView × ℕ) ScriptFault
event_at bytes at = and_next at (event_in at (drop at bytes))

-- what the code answers, as plain data
abbrev pub read_from : Result Event ScriptFault → Result EventView ScriptFault
read_from (Ok e) = Ok (event_from e)
read_from (Err fault) = Err fault

abbrev pub read_next_from : Result (Event × ℕ) ScriptFault → Result (EventView × ℕ) ScriptFault
read_next_from (Ok r) = Ok (event_from r.0, r.1)
read_next_from (Err fault) = Err fault
