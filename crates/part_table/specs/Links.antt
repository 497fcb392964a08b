-- Links between partitions.
use Rattle.std.specs.Prelude.{ℕ, Bool, ◌==◌, ◌&&◌, List, if◌then◌else◌, position}
use Rattle.std.specs.Prelude.{Option, None, Some}
use Rattle.part_table.specs.declared.partition.Partition.{Partition}
use Rattle.part_table.specs.Fields.{link_type, link_value}

-- a partition is the B of a pair where its link type is 1, "A is" (RP2350 Datasheet, chapter 5,
-- Bootrom)
abbrev pub is_second : Partition → Bool
is_second p = link_type p == 1

-- a partition has an owner where its link type is 2 (RP2350 Datasheet, chapter 5, Bootrom)
abbrev pub is_owned : Partition → Bool
is_owned p = link_type p == 2

-- a partition is the B of the partition a where its link "A is" names a (RP2350 Datasheet, chapter
-- 5, Bootrom)
abbrev pub is_second_of : ℕ → Partition → Bool
is_second_of a p = is_second p && link_value p == a

-- the B of the partition a is the partition whose link "A is" names a, if there is one (RP2350
-- Datasheet, chapter 5, Bootrom)
abbrev pub pair_of : List Partition → ℕ → Option ℕ
pair_of parts a = position (is_second_of a) parts

-- the owner of a partition is the partition that its owner link names, if there is such a link
-- (RP2350 Datasheet, chapter 5, Bootrom)
abbrev pub owner_of : Partition → Option ℕ
owner_of p = if is_owned p then Some (link_value p) else None
