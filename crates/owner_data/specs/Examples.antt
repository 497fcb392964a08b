-- Worked examples of owners and their data, with their answers worked out by hand from the rules.
use Rattle.std.specs.Prelude.{ℕ, ◌+◌, List, [], ◌∷◌}
use Rattle.part_table.specs.declared.partition.Partition.{Partition}
use Rattle.part_table.specs.Examples.{plain_partition, sectors}

-- a partition of two sectors with this flag word below its permissions
abbrev pub linked : ℕ → ℕ → Partition
linked first link = plain_partition (sectors first (first + 1)) (0xfc000000 + link)

-- two owners: partition 0, with the B 6, and partition 2, without a B; 1 and 4 are data of 0, and
-- 5 is the B of 4; 3 is data of 2
abbrev pub two_owners : List Partition
two_owners =
    linked 2 0x00 ∷ linked 4 0x04 ∷ linked 6 0x00 ∷ linked 8 0x14 ∷ linked 10 0x04 ∷ linked 12 0x22
    ∷ linked 14 0x02 ∷ []

-- fifteen partitions: the last owns all others
abbrev pub full_owner : List Partition
full_owner =
    linked 2 0x74 ∷ linked 4 0x74 ∷ linked 6 0x74 ∷ linked 8 0x74 ∷ linked 10 0x74 ∷ linked 12 0x74
    ∷ linked 14 0x74
    ∷ linked 16 0x74
    ∷ linked 18 0x74
    ∷ linked 20 0x74
    ∷ linked 22 0x74
    ∷ linked 24 0x74
    ∷ linked 26 0x74
    ∷ linked 28 0x74
    ∷ linked 30 0x00 ∷ []
