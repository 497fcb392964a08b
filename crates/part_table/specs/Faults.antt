-- The faults of a table's partitions: of each kind, the fault of the lowest partition that has
-- one.
use Rattle.std.specs.Prelude.{ℕ, Bool, true, ◌+◌, ◌==◌, ◌&&◌, ◌||◌, not, List, length, drop, slice_get, nat_lt, nat_le, if◌then◌else◌, position}
use Rattle.std.specs.Prelude.{Option, None, Some, option_map}
use Rattle.std.specs.Option.{option_or, option_map_or}
use Rattle.std.specs.List.{list_any}
use Rattle.block_codec.specs.FirstFault.{first_fault}
use Rattle.part_table.specs.declared.partition.Partition.{Partition}
use Rattle.part_table.specs.declared.table.Table.{Table}
use Rattle.part_table.specs.declared.table.TableFault.{TableFault}
use Rattle.part_table.specs.declared.table.TableFault.TheVariants.{Permissions, Range, Overlap, Link}
use Rattle.part_table.specs.Fields.{first_sector, last_sector, permissions_of, link_type, link_value}
use Rattle.part_table.specs.Windows.{shares_sector}
use Rattle.part_table.specs.Links.{is_second, is_second_of}

-- a partition has a fault of permissions where its two permission fields differ (RP2350 Datasheet,
-- chapter 5, Bootrom)
abbrev pub judge_permissions : List Partition → Partition → Option TableFault
judge_permissions before p =
    if permissions_of p.location == permissions_of p.flags then None
    else Some (Permissions (length before))

-- a partition is out of range where its first sector is below m or above its last, or its last is
-- not below n; the flash has n sectors, and m of them stand before the first free one
abbrev pub is_out_of_range : ℕ → ℕ → Partition → Bool
is_out_of_range n m p =
    nat_lt (first_sector p) m || nat_lt (last_sector p) (first_sector p) || nat_le n (last_sector p)

-- a partition has a fault of range where it is out of range
abbrev pub judge_range : ℕ → ℕ → List Partition → Partition → Option TableFault
judge_range n m before p = if is_out_of_range n m p then Some (Range (length before)) else None

-- a partition overlaps with the first later one that shares a sector with it (RP2350 Datasheet,
-- chapter 5, Bootrom)
abbrev pub judge_overlap : List Partition → List Partition → Partition → Option TableFault
judge_overlap parts before p =
    option_map (λ k. Overlap (length before) (length before + 1 + k))
    (position (shares_sector p) (drop (length before + 1) parts))

-- a link "A is" is wrong where it names one of these: no partition; the partition itself; a
-- partition that has such a link too; the A of a partition before
abbrev pub is_wrong_pair : List Partition → List Partition → Partition → Bool
is_wrong_pair parts before p =
    option_map_or is_second (slice_get parts (link_value p)) true
    || link_value p == length before
    || list_any (is_second_of (link_value p)) before

-- an owner link is wrong where it names no partition, or the partition itself, or a partition that
-- has a link
abbrev pub is_wrong_owner : List Partition → List Partition → Partition → Bool
is_wrong_owner parts before p =
    option_map_or (λ q. not (link_type q == 0)) (slice_get parts (link_value p)) true
    || link_value p == length before

-- a link is wrong where its type is 3, or it is a wrong link "A is" or a wrong owner link
abbrev pub is_wrong_link : List Partition → List Partition → Partition → Bool
is_wrong_link parts before p =
    link_type p == 3
    || link_type p == 1 && is_wrong_pair parts before p
    || link_type p == 2 && is_wrong_owner parts before p

-- a partition has a fault of its link where that link is wrong
abbrev pub judge_link : List Partition → List Partition → Partition → Option TableFault
judge_link parts before p =
    if is_wrong_link parts before p then Some (Link (length before)) else None

-- the first fault of permissions is that of the lowest partition that has one
abbrev pub permissions_fault : List Partition → Option TableFault
permissions_fault parts = first_fault judge_permissions parts

-- the first fault of range is that of the lowest partition that has one
abbrev pub range_fault : ℕ → ℕ → List Partition → Option TableFault
range_fault n m parts = first_fault (judge_range n m) parts

-- the first overlap is that of the lowest partition that has one
abbrev pub overlap_fault : List Partition → Option TableFault
overlap_fault parts = first_fault (judge_overlap parts) parts

-- the first fault of a link is that of the lowest partition that has one
abbrev pub link_fault : List Partition → Option TableFault
link_fault parts = first_fault (judge_link parts) parts

-- the first fault of a table's partitions in a flash of n sectors with m sectors before the first
-- free one: it is sought over the whole table for permissions, then range, then overlaps, then
-- links
abbrev pub parts_fault : List Partition → ℕ → ℕ → Option TableFault
parts_fault parts n m =
    option_or (permissions_fault parts)
    (option_or (range_fault n m parts) (option_or (overlap_fault parts) (link_fault parts)))

-- the first fault of a table is that of its partitions
abbrev pub table_fault : Table → ℕ → ℕ → Option TableFault
table_fault t n m = parts_fault t.parts.items n m
