-- How the entries of a load map are read, and which of them are at fault. Source of the entries:
-- RP2350 Datasheet, chapter 5, Bootrom, "Load map"; the faults are this project's own.
use Rattle.std.specs.Prelude.{ℕ, ℤ, pos, negsuc, ◌+ℤ◌, ◌+◌, ◌-◌, ◌*◌, ◌==◌, ◌&&◌, ◌||◌, not, nat_le, nat_lt, min, max, Bool, false, if◌then◌else◌, List, length, filter_map, Option, None, Some, Result, Ok, Err}
use Rattle.std.specs.Option.{option_map}
use Rattle.std.specs.Int.{cast_signed, w32}
use Rattle.arrayvec.specs.ArrayVec.{ArrayVec}
use Rattle.block_codec.specs.Blocks.{BlockView, block_words, block_size}
use Rattle.block_codec.specs.FirstFault.{first_fault, ok_unless}
use Rattle.block_codec.specs.declared.items.Item.{Item}
use Rattle.load_map.specs.Addresses.{in_sram}
use Rattle.load_map.specs.Loads.{entries_of, is_absolute}
use Rattle.load_map.specs.declared.entry.Entry.{Entry}
use Rattle.load_map.specs.declared.load.Load.{Load}
use Rattle.load_map.specs.declared.load.MapFault.{MapFault}
use Rattle.load_map.specs.declared.load.MapFault.TheVariants.{Storage, Runtime, CoversBlock}
use Rattle.load_map.specs.declared.setting.Setting.{Setting}

-- the offset in a window of n bytes of a range of `size` bytes that begins at a signed offset;
-- None where the range leaves the window
abbrev pub offset_within : ℕ → ℤ → ℕ → Option ℕ
offset_within n (pos x) size = if nat_le (x + size) n then Some x else None
offset_within n (negsuc x) size = None

-- the entry as a load that is stored at this offset
abbrev pub stored_at : Entry → ℕ → ℕ → Load
stored_at entry size x = record { storage = Some x; runtime = entry.runtime; size = size }

-- a relative entry: its first word is the signed offset of its storage from the LOAD_MAP item's
-- first byte; its third word is its size
abbrev pub relative_load : Setting → Entry → Option Load
relative_load s entry =
    option_map (stored_at entry entry.extent)
    (offset_within s.len (pos s.item_at +ℤ cast_signed w32 entry.place) entry.extent)

-- an absolute entry: its storage starts at the address in its first word, and ends at the address
-- in its third word
abbrev pub absolute_load : Setting → Entry → Option Load
absolute_load s entry =
    if nat_le s.base entry.place && nat_le entry.place entry.extent && nat_le entry.extent
    (s.base + s.len)
    then Some (stored_at entry (entry.extent - entry.place) (entry.place - s.base))
    else None

-- a clear entry: its first word is 0, and its third word is its size in both forms
abbrev pub clear_load : Entry → Load
clear_load entry = record { storage = None; runtime = entry.runtime; size = entry.extent }

-- the load of an entry; None where its storage leaves the window, starts below the base or ends
-- before it starts
abbrev pub load_of : Setting → Bool → Entry → Option Load
load_of s absolute entry =
    if entry.place == 0 then Some (clear_load entry)
    else (if absolute then absolute_load s entry else relative_load s entry)

-- the load is used where it is stored: its runtime address is the one at which its storage is seen
abbrev pub is_used_in_place : ℕ → Option ℕ → ℕ → Bool
is_used_in_place base None runtime = false
is_used_in_place base (Some x) runtime = runtime == base + x

-- the load is used where it is stored; or it lies in SRAM as a whole, where the image may have
-- such loads
abbrev pub is_runtime_right : Setting → Load → Bool
is_runtime_right s load =
    is_used_in_place s.base load.storage load.runtime
    || (not s.in_place && in_sram load.runtime load.size)

-- the storage, of this size, shares a byte with the block; a clear entry has no storage
abbrev pub covers_block : BlockView → Option ℕ → ℕ → Bool
covers_block b None size = false
covers_block b (Some x) size = nat_lt (max x b.at) (min (x + size) (b.at + block_size b))

-- the fault of the entry at place i, whose load this is
abbrev pub load_fault : Setting → BlockView → ℕ → Option Load → Option MapFault
load_fault s b i None = Some (Storage i)
load_fault s b i (Some load) =
    if not (is_runtime_right s load) then Some (Runtime i)
    else (if covers_block b load.storage load.size then Some (CoversBlock i) else None)

-- the fault of an entry that stands after the entries `before`
abbrev pub entry_fault : Setting → BlockView → Bool → List Entry → Entry → Option MapFault
entry_fault s b absolute before entry = load_fault s b (length before) (load_of s absolute entry)

-- the loads where no entry has a fault, or the first fault
abbrev pub loads_or_fault : Setting → BlockView → Bool → List Entry → Result (List Load) MapFault
loads_or_fault s b absolute entries =
    ok_unless (first_fault (entry_fault s b absolute) entries)
    (filter_map (load_of s absolute) entries)

-- the setting of a LOAD_MAP item of a block in a window
abbrev pub setting_of : ℕ → Bool → ℕ → BlockView → Item → Setting
setting_of base in_place n b item =
    record { base = base; in_place = in_place; len = n; item_at = b.at + 4 * item.first }

-- the loads of a LOAD_MAP item of block b, or the fault of the first entry that has one; the
-- window has n bytes, and its first byte is seen at the address `base`
abbrev pub loads_of : ℕ → Bool → ℕ → BlockView → Item → Result (List Load) MapFault
loads_of base in_place n b item =
    loads_or_fault (setting_of base in_place n b item) b (is_absolute item)
    (entries_of (block_words b) item)

-- an answer of the code, which keeps the loads in an `ArrayVec`, with the loads as a list
abbrev pub loads_answered : Result (ArrayVec Load) MapFault → Result (List Load) MapFault
loads_answered (Ok loads) = Ok loads.items
loads_answered (Err fault) = Err fault
