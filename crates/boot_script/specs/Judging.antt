-- Which bytes are a script within the limits, and the first reason why others are none.
use Rattle.std.specs.Prelude.{ℕ, ◌≡◌, zero, suc, ◌<◌, ◌≤◌, nat_lt, if◌then◌else◌, List, [], ◌∷◌, length, Option, Some, None, Result, Ok, Err, false}
use Rattle.boot_script.specs.declared.event.ScriptFault.{ScriptFault}
use Rattle.boot_script.specs.declared.event.ScriptError.{ScriptError}
use Rattle.boot_script.specs.declared.event.ScriptError.TheVariants.{TooLarge, Record, TooMany}
use Rattle.boot_script.specs.declared.limits.TheConstants.{SCRIPT_LIMIT, RECORD_LIMIT}
use Rattle.boot_script.specs.Events.{EventView, End}
use Rattle.boot_script.specs.Reading.{event_at}
use Rattle.boot_script.specs.Scripts.{is_end}

-- the records of these events stand one after another, from the first offset to the last one; none
-- of the events is an end
abbrev pub AreRecords : List ℕ → ℕ → List EventView → ℕ → Type 0
AreRecords bytes at [] last = last ≡ at
AreRecords bytes at (e ∷ es) last =
    (next : ℕ) × (event_at bytes at ≡ Ok (e, next)) × (is_end e ≡ false)
    × AreRecords bytes next es last

-- from the offset on, an end stands among so many records, and those before it have no fault
pub record IsEnded (most : ℕ) (bytes : List ℕ) (at : ℕ) : Type 0 where
  pub happened : List EventView
  pub last : ℕ
  pub next : ℕ
  pub few : length happened < most
  pub before : AreRecords bytes at happened last
  pub ends : event_at bytes last ≡ Ok (End, next)

-- from the offset on, the first fault stands among so many records, and no end stands before it
pub record IsUnread (most : ℕ) (bytes : List ℕ) (at : ℕ) (fault : ScriptFault) : Type 0 where
  pub happened : List EventView
  pub last : ℕ
  pub few : length happened < most
  pub before : AreRecords bytes at happened last
  pub wrong : event_at bytes last ≡ Err fault

-- from the offset on, so many records have no fault, and none of them is an end
pub record IsEndless (most : ℕ) (bytes : List ℕ) (at : ℕ) : Type 0 where
  pub happened : List EventView
  pub last : ℕ
  pub many : length happened ≡ most
  pub before : AreRecords bytes at happened last

-- a script within the limits: at most 67,108,864 bytes, with an end among the first 524,288
-- records and no fault before the end; what stands after the end is not read
pub record IsScript (bytes : List ℕ) : Type 0 where
  pub short : length bytes ≤ SCRIPT_LIMIT
  pub ended : IsEnded RECORD_LIMIT bytes 0

-- why bytes are no script: too many bytes come first
abbrev pub IsScriptError : List ℕ → ScriptError → Type 0
IsScriptError bytes TooLarge = SCRIPT_LIMIT < length bytes
IsScriptError bytes (Record fault) =
    (length bytes ≤ SCRIPT_LIMIT) × IsUnread RECORD_LIMIT bytes 0 fault
IsScriptError bytes TooMany = (length bytes ≤ SCRIPT_LIMIT) × IsEndless RECORD_LIMIT bytes 0

-- why bytes are no script, as a function: by the record that was read, or by those after it
abbrev pub record_error : Result (EventView × ℕ) ScriptFault → (ℕ → Option ScriptError)
    → Option ScriptError
record_error (Err fault) others = Some (Record fault)
record_error (Ok record_read) others =
    if is_end record_read.0 then None else others record_read.1

-- the first error of so many records from an offset on
unfoldable pub first_error : ℕ → List ℕ → ℕ → Option ScriptError
first_error zero bytes at = Some TooMany
first_error (suc most) bytes at = record_error (event_at bytes at) (first_error most bytes)

-- the first error of bytes
abbrev pub script_error : List ℕ → Option ScriptError
script_error bytes =
    if nat_lt SCRIPT_LIMIT (length bytes) then Some TooLarge else first_error RECORD_LIMIT bytes 0
