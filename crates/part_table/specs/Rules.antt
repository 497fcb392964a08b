-- The faults of a table's partitions as rules; Faults says the same as functions. Partitions are
-- numbered from 0. This project's own where the public source is open.
use Rattle.std.specs.Prelude.{◌≡◌, ◌≢◌, ℕ, ◌<◌, ◌≤◌, ◌⊎◌, Bool, true, false, List, length, Option, None, Some, Result, Ok, Err}
use Rattle.block_codec.specs.Blocks.{BlockView, block_words}
use Rattle.block_codec.specs.Items.{items_of}
use Rattle.part_table.specs.declared.partition.Partition.{Partition}
use Rattle.part_table.specs.declared.table.Table.{Table}
use Rattle.part_table.specs.declared.table.TableFault.{TableFault}
use Rattle.part_table.specs.declared.table.TableFault.TheVariants.{BadItem, Permissions, Range, Overlap, Link, Hash}
use Rattle.part_table.specs.Contents.{table_of_items, has_wrong_hash}
use Rattle.part_table.specs.Fields.{first_sector, last_sector, permissions_of, link_type, link_value}
use Rattle.part_table.specs.Partitions.{part_at}

-- partition i has two permission fields that differ (RP2350 Datasheet, chapter 5, Bootrom)
abbrev pub HasTwoPermissions : List Partition → ℕ → Type 0
HasTwoPermissions parts i =
    permissions_of (part_at parts i).location ≢ permissions_of (part_at parts i).flags

-- the first sector of partition i is below m or above its last sector, or its last is not below n
abbrev pub IsOutOfRange : ℕ → ℕ → List Partition → ℕ → Type 0
IsOutOfRange n m parts i =
    (first_sector (part_at parts i) < m)
    ⊎ (last_sector (part_at parts i) < first_sector (part_at parts i))
    ⊎ (n ≤ last_sector (part_at parts i))

-- partition i has the sector s (RP2350 Datasheet, chapter 5, Bootrom)
abbrev pub HasSector : List Partition → ℕ → ℕ → Type 0
HasSector parts i s = (first_sector (part_at parts i) ≤ s) × (s ≤ last_sector (part_at parts i))

-- partition j is the lowest above i that shares a sector with i
pub record IsSharedFirst (parts : List Partition) (i j : ℕ) : Type 0 where
  pub above : i < j
  pub inside : j < length parts
  pub shared : (s : ℕ) × HasSector parts i s × HasSector parts j s
  pub least : (k s : ℕ) → i < k → k < j → HasSector parts i s → HasSector parts k s → ⊥

-- the link "A is v" of partition i is wrong: v is no partition, or i itself, or has such a link
-- itself, or is the A of a lower partition than i
abbrev pub IsWrongPair : List Partition → ℕ → ℕ → Type 0
IsWrongPair parts i v =
    (length parts ≤ v)
    ⊎ (v ≡ i)
    ⊎ (link_type (part_at parts v) ≡ 1)
    ⊎ ((k : ℕ) × (k < i) × (link_type (part_at parts k) ≡ 1) × (link_value (part_at parts k) ≡ v))

-- the owner link v of partition i is wrong: v is no partition, is i itself, or has a link
abbrev pub IsWrongOwner : List Partition → ℕ → ℕ → Type 0
IsWrongOwner parts i v = (length parts ≤ v) ⊎ (v ≡ i) ⊎ (link_type (part_at parts v) ≢ 0)

-- the link of partition i is of type 3, or a wrong link "A is", or a wrong owner link
abbrev pub HasWrongLink : List Partition → ℕ → Type 0
HasWrongLink parts i =
    (link_type (part_at parts i) ≡ 3)
    ⊎ ((link_type (part_at parts i) ≡ 1) × IsWrongPair parts i (link_value (part_at parts i)))
    ⊎ ((link_type (part_at parts i) ≡ 2) × IsWrongOwner parts i (link_value (part_at parts i)))

-- the fault f that partition i has, of each kind
abbrev pub PermissionsFault : List Partition → ℕ → TableFault → Type 0
PermissionsFault parts i f = (f ≡ Permissions i) × HasTwoPermissions parts i

abbrev pub RangeFault : ℕ → ℕ → List Partition → ℕ → TableFault → Type 0
RangeFault n m parts i f = (f ≡ Range i) × IsOutOfRange n m parts i

abbrev pub OverlapFault : List Partition → ℕ → TableFault → Type 0
OverlapFault parts i f = (j : ℕ) × (f ≡ Overlap i j) × IsSharedFirst parts i j

abbrev pub LinkFault : List Partition → ℕ → TableFault → Type 0
LinkFault parts i f = (f ≡ Link i) × HasWrongLink parts i

-- no partition has a fault of a kind
abbrev pub HasNo : List Partition → (ℕ → TableFault → Type 0) → Type 0
HasNo parts Has = (i : ℕ) (f : TableFault) → i < length parts → Has i f → ⊥

-- f is the fault of the lowest partition that has one of a kind
pub record IsLeast (parts : List Partition) (Has : ℕ → TableFault → Type 0)
    (f : TableFault) : Type 0 where
  pub place : ℕ
  pub inside : place < length parts
  pub here : Has place f
  pub before : (j : ℕ) (g : TableFault) → j < place → Has j g → ⊥

-- f is the first fault of a table's partitions in a flash of n sectors with m sectors before the
-- first free one: of permissions, else of range, else of overlap, else of a link
abbrev pub IsFirstTableFault : List Partition → ℕ → ℕ → TableFault → Type 0
IsFirstTableFault parts n m f =
    IsLeast parts (PermissionsFault parts) f
    ⊎ (HasNo parts (PermissionsFault parts) × IsLeast parts (RangeFault n m parts) f)
    ⊎ (HasNo parts (PermissionsFault parts) × HasNo parts (RangeFault n m parts)
    × IsLeast parts (OverlapFault parts) f)
    ⊎ (HasNo parts (PermissionsFault parts) × HasNo parts (RangeFault n m parts)
    × HasNo parts (OverlapFault parts)
    × IsLeast parts (LinkFault parts) f)

-- a table's partitions have no fault at all
pub record HasNoFault (parts : List Partition) (n m : ℕ) : Type 0 where
  pub permissions : HasNo parts (PermissionsFault parts)
  pub range : HasNo parts (RangeFault n m parts)
  pub overlap : HasNo parts (OverlapFault parts)
  pub links : HasNo parts (LinkFault parts)

-- the answer to what a block's items and its hash say: BadItem where the items say no table; else
-- the first fault of the table's partitions; else Hash where the hash is wrong; else the table
abbrev pub IsTableAnswer : Option Table → Bool → ℕ → ℕ → Result Table TableFault → Type 0
IsTableAnswer says wrong_hash n m (Ok t) = (says ≡ Some t) × HasNoFault t.parts.items n m
    × (wrong_hash ≡ false)
IsTableAnswer says wrong_hash n m (Err f) =
    ((says ≡ None) × (f ≡ BadItem))
    ⊎ ((t : Table) × (says ≡ Some t) × IsFirstTableFault t.parts.items n m f)
    ⊎ ((t : Table) × (says ≡ Some t) × HasNoFault t.parts.items n m × (wrong_hash ≡ true)
    × (f ≡ Hash))

-- a block is answered with what its items and its hash say
abbrev pub IsReadTo : BlockView → ℕ → ℕ → Result Table TableFault → Type 0
IsReadTo b n m result =
    IsTableAnswer (table_of_items (block_words b) (items_of b.items))
    (has_wrong_hash (block_words b) (items_of b.items)) n m result
