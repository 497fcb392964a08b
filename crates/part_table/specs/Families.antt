-- UF2 families, by number and by name, and what a table accepts.
use Rattle.std.specs.Prelude.{ℕ, Bool, ◌+◌, ◌-◌, ◌==◌, ◌&&◌, ◌||◌, nat_le, List, [], ◌∷◌, Option, option_map, codes, bytes_eq, position}
use Rattle.std.specs.List.{list_any}
use Rattle.part_table.specs.declared.partition.Partition.{Partition}
use Rattle.part_table.specs.declared.table.Table.{Table}
use Rattle.part_table.specs.Fields.{has_bit}

-- the family rp2040 has this number (picotool's documentation, UF2 families)
abbrev pub rp2040_family : ℕ
rp2040_family = 0xe48bff56

-- the family of blocks at absolute addresses has this number (picotool's documentation, UF2
-- families)
abbrev pub absolute_family : ℕ
absolute_family = 0xe48bff57

-- the family of data has this number (picotool's documentation, UF2 families)
abbrev pub data_family : ℕ
data_family = 0xe48bff58

-- the family rp2350-arm-s has this number (picotool's documentation, UF2 families)
abbrev pub arm_s_family : ℕ
arm_s_family = 0xe48bff59

-- the family rp2350-riscv has this number (picotool's documentation, UF2 families)
abbrev pub riscv_family : ℕ
riscv_family = 0xe48bff5a

-- the family rp2350-arm-ns has this number (picotool's documentation, UF2 families)
abbrev pub arm_ns_family : ℕ
arm_ns_family = 0xe48bff5b

-- the names of the six families, in the order of their numbers, which follow each other (picotool's
-- documentation, UF2 families)
abbrev pub family_names : List (List ℕ)
family_names =
    codes "rp2040" ∷ codes "absolute" ∷ codes "data" ∷ codes "rp2350-arm-s"
    ∷ codes "rp2350-riscv" ∷ codes "rp2350-arm-ns" ∷ []

-- the family of a name; None where no family has it
abbrev pub family_of : List ℕ → Option ℕ
family_of name = option_map (λ i. rp2040_family + i) (position (bytes_eq name) family_names)

-- the six families have the bits 14 to 19 of a flag word, in the order of their numbers
abbrev pub has_family_bit : ℕ → ℕ → Bool
has_family_bit flags family =
    nat_le rp2040_family family && nat_le family arm_ns_family && has_bit flags
    (14 + (family - rp2040_family))

-- a partition accepts a family by the family's bit or among its extra families (RP2350 Datasheet,
-- chapter 5, Bootrom; the places of the bits are this project's own)
abbrev pub accepts : Partition → ℕ → Bool
accepts p family =
    has_family_bit p.flags family || list_any (λ extra. extra == family) p.families.items

-- a table accepts the absolute family where bit 15 of its unpartitioned word is set
abbrev pub accepts_absolute : Table → Bool
accepts_absolute t = has_bit t.unpartitioned 15
