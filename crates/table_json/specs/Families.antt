-- Lists of UF2 families. The places of their bits are this project's own.
use Rattle.std.specs.Prelude.{ℕ, Bool, false, ◌+◌, ◌^◌, ◌||◌, ◌==◌, if◌then◌else◌, List, [], length, nat_le, is_some, filter_map}
use Rattle.std.specs.Prelude.{Option, None, Some, option_map, option_and_then}
use Rattle.std.specs.Option.{option_map_or}
use Rattle.std.specs.List.{list_any, list_all}
use Rattle.arrayvec.specs.ArrayVec.{ArrayVec}
use Rattle.serde_json.specs.Data.{Data}
use Rattle.serde_json.specs.Find.{as_str}
use Rattle.part_table.specs.Families.{family_of, rp2040_family, absolute_family, data_family, arm_s_family, riscv_family, arm_ns_family}
use Rattle.table_json.specs.declared.families.Families.{Families}
use Rattle.table_json.specs.Forms.{number_below, values_in}

-- the family that a value names
abbrev pub named_family : Data → Option ℕ
named_family d = option_and_then family_of (as_str d)

-- whether a value is the name of a family
abbrev pub is_family_name : Data → Bool
is_family_name d = is_some (named_family d)

-- the number of another family
abbrev pub family_number : Data → Option ℕ
family_number d = number_below (2 ^ 32) d

-- whether a value is a family
abbrev pub is_family : Data → Bool
is_family d = is_family_name d || is_some (family_number d)

-- whether a value names this family
abbrev pub names_family : ℕ → Data → Bool
names_family family d = option_map_or (λ named. named == family) (named_family d) false

-- a bit is set where a list names its family
abbrev pub bit_if : Bool → ℕ → ℕ
bit_if set bit = if set then bit else 0

-- the six bits of a list
abbrev pub family_bits : List Data → ℕ
family_bits ds =
    bit_if (list_any (names_family rp2040_family) ds) 1
    + bit_if (list_any (names_family absolute_family) ds) 2
    + bit_if (list_any (names_family data_family) ds) 4
    + bit_if (list_any (names_family arm_s_family) ds) 8
    + bit_if (list_any (names_family riscv_family) ds) 16
    + bit_if (list_any (names_family arm_ns_family) ds) 32

-- the numbers of a list, in its order, at most three
abbrev pub family_numbers : List Data → List ℕ
family_numbers ds = filter_map family_number ds

abbrev pub few_numbers : List Data → Option (ArrayVec ℕ)
few_numbers ds =
    if nat_le (length (family_numbers ds)) 3 then Some (record { items = family_numbers ds })
    else None

-- a list of names
abbrev pub names_in : List Data → Option ℕ
names_in ds = if list_all is_family_name ds then Some (family_bits ds) else None

abbrev pub names_form : Data → Option ℕ
names_form d = option_and_then names_in (values_in d)

-- a list of names and numbers
abbrev pub families_with : ℕ → ArrayVec ℕ → Families
families_with six others = record { bits = six; numbers = others }

abbrev pub families_in : List Data → Option Families
families_in ds =
    if list_all is_family ds then option_map (families_with (family_bits ds)) (few_numbers ds)
    else None

abbrev pub families_form : Data → Option Families
families_form d = option_and_then families_in (values_in d)

-- no family
abbrev pub no_families : Families
no_families = families_with 0 (record { items = [] })
