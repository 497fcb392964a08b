-- The windows of a flash by what they are, in address order, as a function.
use Rattle.std.specs.Prelude.{ℕ, zero, suc, ◌+◌, ◌-◌, ◌*◌, ◌==◌, ◌&&◌, nat_le, nat_lt, Bool, true, if◌then◌else◌, List, [], ◌∷◌, ◌++◌, length, position, Option, Some, None}
use Rattle.std.specs.Option.{option_map_or}
use Rattle.pico_board.specs.declared.window.Window.{Window}
use Rattle.part_table.specs.declared.partition.Partition.{Partition}
use Rattle.part_table.specs.declared.table.Table.{Table}
use Rattle.part_table.specs.Partitions.{part_at}
use Rattle.part_table.specs.Windows.{part_window}
use Rattle.boot_rules.specs.Tables.{slot_window}
use Rattle.boot_map.specs.declared.places.MapWindow.{MapWindow}
use Rattle.boot_map.specs.declared.places.MapPlace.TheVariants.{Slot, Partition as Part, Whole, Free}

-- the partitions of a table, and none where there is none
abbrev pub parts_of : Option Table → List Partition
parts_of None = []
parts_of (Some t) = t.parts.items

-- a flash has its two slots as windows where it has a table, or the slot size is above 4096
abbrev pub has_slots : Option Table → ℕ → Bool
has_slots None z = nat_lt 4096 z
has_slots (Some t) z = true

-- the end of a window
abbrev pub window_end : Window → ℕ
window_end w = w.start + w.len

-- the window of slot 0 or 1, of a partition, of what is free from one offset to another, and of
-- the whole flash
abbrev pub slot_place : ℕ → ℕ → MapWindow
slot_place z number = record { place = Slot number; window = slot_window z number }

abbrev pub part_place : List Partition → ℕ → MapWindow
part_place parts i = record { place = Part i; window = part_window (part_at parts i) }

abbrev pub free_place : ℕ → ℕ → MapWindow
free_place at end = record { place = Free; window = record { start = at; len = end - at } }

abbrev pub whole_place : ℕ → MapWindow
whole_place n = record { place = Whole; window = record { start = 0; len = n } }

-- what is free from one offset to another, if it is anything
abbrev pub free_between : ℕ → ℕ → List MapWindow
free_between at end = if nat_lt at end then free_place at end ∷ [] else []

-- of two offsets the first is taken where it lies at or past `at` and is the lower one
abbrev pub nearer_start : ℕ → ℕ → ℕ → ℕ
nearer_start at start least = if nat_le at start && nat_lt start least then start else least

-- the lowest offset at or past `at` at which a partition starts; `least` where no such offset is
-- below `least`
abbrev pub next_start : ℕ → List Partition → ℕ → ℕ
next_start at [] least = least
next_start at (p ∷ ps) least = next_start at ps (nearer_start at (part_window p).start least)

-- a partition starts at an offset
abbrev pub starts_at : ℕ → Partition → Bool
starts_at at p = (part_window p).start == at

-- the partition that starts first at or past `at`, before `end`
abbrev pub next_part : ℕ → List Partition → ℕ → Option ℕ
next_part at parts end = position (starts_at (next_start at parts end)) parts

-- from `at` to `end`: what is free before the next partition, that partition, and so on, up to so
-- many partitions; then what is free after them
abbrev pub part_windows : List Partition → ℕ → ℕ → ℕ → List MapWindow
part_windows parts end zero at = free_between at end
part_windows parts end (suc count) at =
    free_between at (next_start at parts end)
    ++ option_map_or
    (λ i. part_place parts i
    ∷ part_windows parts end count (window_end (part_window (part_at parts i))))
    (next_part at parts end) []

-- the windows of a flash of n bytes with slots of z bytes, with or without a table
abbrev pub map_windows : Option Table → ℕ → ℕ → List MapWindow
map_windows t n z =
    if has_slots t z
    then
    slot_place z 0
    ∷ slot_place z 1
    ∷ part_windows (parts_of t) n (length (parts_of t)) (2 * z)
    else (whole_place n ∷ [])
