-- The texts of partitions, as `explain` prints them.
use Rattle.std.specs.Prelude.{ℕ, ◌+◌, ◌==◌, ◌&&◌, nat_le, not, if◌then◌else◌, Bool, true, false, List, [], ◌∷◌, ◌++◌, Option, Some, None, codes, decimal}
use Rattle.std.specs.List.{flat_map}
use Rattle.pico_board.specs.declared.boot.Cpu.TheVariants.{Arm, Riscv}
use Rattle.arrayvec.specs.ArrayVec.{ArrayVec}
use Rattle.part_table.specs.declared.partition.Partition.{Partition}
use Rattle.part_table.specs.Families.{has_family_bit, rp2040_family, family_names}
use Rattle.part_table.specs.Fields.{has_bit, is_ignored, is_staying, link_type, link_value}
use Rattle.part_table.specs.Windows.{part_window}
use Rattle.text_words.specs.Writing.{hex_digits, hex_word, yes_or_no}
use Rattle.text_lines.specs.Texts.{window_text}
use Rattle.cli_course.specs.Outcomes.{line}

-- a byte of a name stands as it is from 0x20 to 0x7e, but for the quote and the backslash
abbrev pub is_plain : ℕ → Bool
is_plain b = nat_le 0x20 b && nat_le b 0x7e && not (b == 0x22) && not (b == 0x5c)

-- another byte of a name is written as a backslash, an x and two digits
abbrev pub name_byte : ℕ → List ℕ
name_byte b = if is_plain b then b ∷ [] else 0x5c ∷ 0x78 ∷ [] ++ hex_digits 2 b

-- the name of a partition between quotes, or `none`
abbrev pub name_text : Option (ArrayVec ℕ) → List ℕ
name_text None = codes "none"
name_text (Some name) = 0x22 ∷ [] ++ flat_map name_byte name.items ++ 0x22 ∷ []

-- the id of a partition, or `none`
abbrev pub id_text : Option ℕ → List ℕ
id_text None = codes "none"
id_text (Some id) = codes "0x" ++ hex_digits 16 id

-- a word more after words, with a comma where there are any
abbrev pub added : List ℕ → List ℕ → List ℕ
added [] word = word
added (x ∷ text) word = (x ∷ text) ++ (codes "," ++ word)

-- a family by its name, where the flag word has its bit
abbrev pub with_bit : ℕ → ℕ → List ℕ → List ℕ → List ℕ
with_bit flags family name text = if has_family_bit flags family then added text name else text

-- a text, and after it each of these names whose family's bit the flag word has; the first name is
-- that of this family, the next that of the next number
abbrev pub with_bits : ℕ → ℕ → List (List ℕ) → List ℕ → List ℕ
with_bits flags family [] text = text
with_bits flags family (name ∷ names) text =
    with_bits flags (family + 1) names (with_bit flags family name text)

-- the families of the bits of a flag word by name, in numeric order
abbrev pub named_families : ℕ → List ℕ
named_families flags = with_bits flags rp2040_family family_names []

-- further families by number, in their order
abbrev pub with_families : List ℕ → List ℕ → List ℕ
with_families text [] = text
with_families text (family ∷ families) = with_families (added text (hex_word family)) families

-- words, or `none` where there are none
abbrev pub or_none : List ℕ → List ℕ
or_none [] = codes "none"
or_none (x ∷ text) = x ∷ text

-- the families of a partition: those of its bits, and then the extra ones
abbrev pub families_text : Partition → List ℕ
families_text p = or_none (with_families (named_families p.flags) p.families.items)

-- the rights to read and to write
abbrev pub right_text : Bool → Bool → List ℕ
right_text true true = codes "rw"
right_text true false = codes "r"
right_text false true = codes "w"
right_text false false = codes "none"

-- the rights in a location word: of secure code, of non-secure code and of the bootloader
abbrev pub rights_text : ℕ → List ℕ
rights_text word =
    codes "secure="
    ++ (right_text (has_bit word 26) (has_bit word 27) ++ (codes ",nonsecure="
    ++ (right_text (has_bit word 28) (has_bit word 29) ++ (codes ",bootloader="
    ++ right_text (has_bit word 30) (has_bit word 31)))))

-- the link of a partition
abbrev pub link_text : Partition → List ℕ
link_text p =
    if link_type p == 1 then codes "a=" ++ decimal (link_value p)
    else (if link_type p == 2 then codes "owner=" ++ decimal (link_value p) else codes "none")

-- the processors in whose boots a partition is ignored
abbrev pub processors_text : Bool → Bool → List ℕ
processors_text true true = codes "both"
processors_text true false = codes "arm"
processors_text false true = codes "riscv"
processors_text false false = codes "none"

abbrev pub ignored_text : Partition → List ℕ
ignored_text p = processors_text (is_ignored Arm p) (is_ignored Riscv p)

-- a partition's window, name, id and families
abbrev pub partition_fields_text : Partition → List ℕ
partition_fields_text p =
    window_text (part_window p)
    ++ (codes " name=" ++ (name_text p.name ++ (codes " id=" ++ (id_text p.id
    ++ (codes " families=" ++ families_text p)))))

-- a partition's rights, its link, which processors ignore it, and whether a boot follows a
-- download into it
abbrev pub flags_text : Partition → List ℕ
flags_text p =
    codes "rights="
    ++ (rights_text p.location ++ (codes " link=" ++ (link_text p ++ (codes " ignored="
    ++ (ignored_text p ++ (codes " reboot=" ++ yes_or_no (not (is_staying p))))))))

-- the partition of a number
unfoldable pub partition_text : ℕ → Partition → List ℕ
partition_text i p =
    codes "partition "
    ++ (decimal i ++ (codes " " ++ (partition_fields_text p ++ (codes " " ++ flags_text p))))

-- the lines of partitions, numbered from i on
abbrev pub partition_lines : ℕ → List Partition → List ℕ
partition_lines i [] = []
partition_lines i (p ∷ parts) = line (partition_text i p) ++ partition_lines (i + 1) parts
