-- What the tables of the slots say that the model does not read or judges otherwise, as functions.
use Rattle.std.specs.Prelude.{ℕ, ◌+◌, ◌*◌, ◌/◌, ◌%◌, ◌^◌, ◌==◌, ◌&&◌, not, nat_lt, bytes_eq, Bool, true, false, if◌then◌else◌, List, [], ◌++◌, length, Option, Some, None, option_map, option_to_list, Result, Ok, Err}
use Rattle.std.specs.List.{filter_map, range_with_len}
use lib.Pointwise.{pointwise}
use Rattle.arrayvec.specs.ArrayVec.{ArrayVec}
use Rattle.pico_board.specs.declared.window.TheConstants.{MOST_FLASH_BYTES}
use Rattle.block_codec.specs.declared.versions.Version.{Version}
use Rattle.part_table.specs.declared.partition.Partition.{Partition}
use Rattle.part_table.specs.declared.table.Table.{Table}
use Rattle.part_table.specs.declared.table.TableFault.{TableFault}
use Rattle.part_table.specs.declared.table.TableFault.TheVariants.{Range}
use Rattle.part_table.specs.Fields.{has_bit}
use Rattle.part_table.specs.Partitions.{part_at}
use Rattle.boot_rules.specs.declared.slots.SlotFault.{SlotFault}
use Rattle.boot_rules.specs.declared.slots.SlotFault.TheVariants.{Loop, NoTable, Table as Faulty}
use Rattle.slot_caveats.specs.declared.caveat.Caveat.{Caveat}
use Rattle.slot_caveats.specs.declared.caveat.Caveat.TheVariants.{ShortFlash, UnreadTargets, UnreadSide, TableTie}
use Rattle.slot_caveats.specs.Listing.{caveat_if}

-- the partition that is out of range in the table of a slot
abbrev pub range_in : TableFault → Option ℕ
range_in (Range i) = Some i
range_in _ = None

abbrev pub range_of : Result Table SlotFault → Option ℕ
range_of (Ok t) = None
range_of (Err (Loop fault)) = None
range_of (Err NoTable) = None
range_of (Err (Faulty fault)) = range_in fault

-- a slot's table has a partition that leaves a flash of n bytes; the flash is shorter than 16 MiB
abbrev pub short_flash : ℕ → ℕ → Result Table SlotFault → Option Caveat
short_flash n number answer =
    if nat_lt n MOST_FLASH_BYTES then option_map (ShortFlash number) (range_of answer) else None

-- the bits of an unpartitioned word that are not read: bits 14 and 16 to 19, those of the families
-- but the absolute one
abbrev pub unread_families : ℕ → ℕ
unread_families word = 2 ^ 14 * (word / 2 ^ 14 % 2) + 2 ^ 16 * (word / 2 ^ 16 % 2 ^ 4)

abbrev pub unread_targets : Table → Option Caveat
unread_targets t =
    caveat_if (not (unread_families t.unpartitioned == 0))
    (UnreadTargets (unread_families t.unpartitioned))

-- a partition of a table has flag bit 11, which is not read
abbrev pub unread_side : List Partition → ℕ → Option Caveat
unread_side parts i = caveat_if (has_bit (part_at parts i).flags 11) (UnreadSide i)

-- what is not read of the table of the flash, where there is one
abbrev pub unread_caveats : Option Table → List Caveat
unread_caveats None = []
unread_caveats (Some t) =
    option_to_list (unread_targets t)
    ++ filter_map (unread_side t.parts.items) (range_with_len 0 (length t.parts.items))

-- two tables are the same
abbrev pub is_same_id : Option ℕ → Option ℕ → Bool
is_same_id None None = true
is_same_id None (Some y) = false
is_same_id (Some x) None = false
is_same_id (Some x) (Some y) = x == y

abbrev pub is_same_name : Option (ArrayVec ℕ) → Option (ArrayVec ℕ) → Bool
is_same_name None None = true
is_same_name None (Some y) = false
is_same_name (Some x) None = false
is_same_name (Some x) (Some y) = bytes_eq x.items y.items

abbrev pub is_same_part : Partition → Partition → Bool
is_same_part p q =
    p.location == q.location && p.flags == q.flags && is_same_id p.id q.id
    && bytes_eq p.families.items q.families.items && is_same_name p.name q.name

abbrev pub is_same_version : Version → Version → Bool
is_same_version v w = v.major == w.major && v.minor == w.minor

abbrev pub is_same_flag : Bool → Bool → Bool
is_same_flag true b = b
is_same_flag false b = not b

abbrev pub is_same_table : Table → Table → Bool
is_same_table t u =
    is_same_version t.version u.version && is_same_flag t.singleton u.singleton
    && t.unpartitioned == u.unpartitioned && pointwise is_same_part t.parts.items u.parts.items

-- two tables of one version differ, and the first is no singleton
abbrev pub are_tied : Table → Table → Bool
are_tied t u =
    not t.singleton && is_same_version t.version u.version && not (is_same_table t u)

abbrev pub table_tie : Result Table SlotFault → Result Table SlotFault → Option Caveat
table_tie (Ok t) (Ok u) = caveat_if (are_tied t u) TableTie
table_tie (Ok t) (Err fault) = None
table_tie (Err fault) answer = None
