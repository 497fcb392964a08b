-- Data partitions that follow the choice of their owner.
use Rattle.std.specs.Prelude.{◌≡◌, ℕ, Bool, true, false, ◌==◌, ◌&&◌, List, map, if◌then◌else◌}
use Rattle.std.specs.Prelude.{Option, None, Some, option_map, unwrap_or}
use Rattle.part_table.specs.declared.partition.Partition.{Partition}
use Rattle.part_table.specs.Fields.{link_value}
use Rattle.part_table.specs.Links.{is_owned, owner_of, pair_of}
use Rattle.part_table.specs.Partitions.{part_at}
use Rattle.slot_choice.specs.Units.{parts_where}

-- the owner of a partition, if it has one, and the owner's B, if that has one
abbrev pub owner_pair : List Partition → ℕ → Option (ℕ × Option ℕ)
owner_pair parts i = option_map (λ owner. (owner, pair_of parts owner)) (owner_of (part_at parts i))

-- a partition has a certain owner where its owner link names that one
abbrev pub is_owned_by : ℕ → Partition → Bool
is_owned_by owner p = is_owned p && link_value p == owner

-- of a pair of data the B is taken where the second is asked for; a partition without a B is
-- always taken itself
abbrev pub taken_part : List Partition → Bool → ℕ → ℕ
taken_part parts second i = if second then unwrap_or (pair_of parts i) i else i

-- the data of an owner: what is taken of each partition that has this owner, in table order
abbrev pub data_parts : List Partition → ℕ → Bool → List ℕ
data_parts parts owner second =
    map (taken_part parts second) (parts_where (is_owned_by owner) parts)

-- partition j is data of an owner, by a partition i that has this owner: where the second is asked
-- for and i has a B, j is the B of i; otherwise j is i itself
pub record IsDataOf (parts : List Partition) (owner : ℕ) (second : Bool) (i j : ℕ) : Type 0 where
  pub owned : owner_of (part_at parts i) ≡ Some owner
  pub first : second ≡ false → j ≡ i
  pub other : (b : ℕ) → second ≡ true → pair_of parts i ≡ Some b → j ≡ b
  pub alone : pair_of parts i ≡ None → j ≡ i
