-- The forms of the values of members: a form reads a value, or refuses it.
use Rattle.std.specs.Prelude.{ℕ, ◌+◌, ◌*◌, ◌&&◌, if◌then◌else◌, List, [], ◌∷◌, length, nat_lt, nat_le, codes, bytes_eq}
use Rattle.std.specs.Prelude.{Option, None, Some, option_map, option_and_then}
use Rattle.std.specs.Option.{option_or}
use Rattle.arrayvec.specs.ArrayVec.{ArrayVec}
use Rattle.block_codec.specs.declared.versions.Version.{Version}
use Rattle.serde_json.specs.Data.{Data, Items, no_items, item, Members}
use Rattle.serde_json.specs.Find.{get, as_number, as_u64, as_str, as_array, as_object}
use Rattle.table_json.specs.declared.members.Shape.TheVariants.{OfPermissions}
use Rattle.table_json.specs.Members.{has_unknown}
use Rattle.text_words.specs.Reading.{behind_word, hex_value}

-- the values of a list, in its order
abbrev pub values_of : Items → List Data
values_of no_items = []
values_of (item d ds) = d ∷ values_of ds

abbrev pub values_in : Data → Option (List Data)
values_in d = option_map values_of (as_array d)

-- a number is an unsigned whole number to the reader, so it is below 2^64
abbrev pub number_in : Data → Option ℕ
number_in d = option_and_then as_u64 (as_number d)

-- a number below a bound
abbrev pub if_below : ℕ → ℕ → Option ℕ
if_below bound n = if nat_lt n bound then Some n else None

abbrev pub number_below : ℕ → Data → Option ℕ
number_below bound d = option_and_then (if_below bound) (number_in d)

-- a text names a number by 0x and 1 to 6 hexadecimal digits of either case
abbrev pub number_of_digits : List ℕ → Option ℕ
number_of_digits digits =
    if nat_le 1 (length digits) && nat_le (length digits) 6 then hex_value 0 digits else None

abbrev pub number_of_text : List ℕ → Option ℕ
number_of_text text = option_and_then number_of_digits (behind_word (codes "0x") text)

-- a number, or a text that names one
abbrev pub number_or_text : Data → Option ℕ
number_or_text d = option_or (number_in d) (option_and_then number_of_text (as_str d))

-- a version is a list of two numbers below 65,536, major first
abbrev pub version_of_numbers : Option ℕ → Option ℕ → Option Version
version_of_numbers (Some high) (Some low) = Some (record { major = high; minor = low })
version_of_numbers _ _ = None

abbrev pub version_in_list : List Data → Option Version
version_in_list (high ∷ low ∷ []) = version_of_numbers (number_below 65536 high)
    (number_below 65536 low)
version_in_list _ = None

abbrev pub version_form : Data → Option Version
version_form d = option_and_then version_in_list (values_in d)

-- a name is a text of at most 127 bytes
abbrev pub name_of_text : List ℕ → Option (ArrayVec ℕ)
name_of_text text = if nat_le (length text) 127 then Some (record { items = text }) else None

abbrev pub name_form : Data → Option (ArrayVec ℕ)
name_form d = option_and_then name_of_text (as_str d)

-- the type of a link, by its word: 1 is "A is", 2 is the owner
abbrev pub link_type_of : List ℕ → Option ℕ
link_type_of word =
    if bytes_eq word (codes "a") then Some 1
    else if bytes_eq word (codes "owner") then Some 2
    else None

-- a link is a list of its word and the number of a partition, below 16; the link is read as bits 1
-- to 6 of a flag word
abbrev pub link_of : Option ℕ → Option ℕ → Option ℕ
link_of (Some kind) (Some value) = Some (2 * kind + 8 * value)
link_of _ _ = None

abbrev pub link_in : List Data → Option ℕ
link_in (word ∷ which ∷ []) =
    link_of (option_and_then link_type_of (as_str word)) (number_below 16 which)
link_in _ = None

abbrev pub link_form : Data → Option ℕ
link_form d = option_and_then link_in (values_in d)

-- the rights of a reader and a writer: 1 to read, 2 to write
abbrev pub rights_of : List ℕ → Option ℕ
rights_of text =
    if bytes_eq text (codes "") then Some 0
    else if bytes_eq text (codes "r") then Some 1
    else if bytes_eq text (codes "w") then Some 2
    else if bytes_eq text (codes "rw") then Some 3
    else None

abbrev pub rights_form : Data → Option ℕ
rights_form d = option_and_then rights_of (as_str d)

-- the rights that an object gives to the party of this name
abbrev pub rights_for : List ℕ → Data → Option ℕ
rights_for name d = option_and_then rights_form (get name d)

-- six bits of rights: secure, then nonsecure, then bootloader
abbrev pub permissions_from_rights : Option ℕ → Option ℕ → Option ℕ → Option ℕ
permissions_from_rights (Some secure) (Some nonsecure) (Some bootloader) =
    Some (secure + 4 * nonsecure + 16 * bootloader)
permissions_from_rights _ _ _ = None

abbrev pub permissions_in : Data → Option ℕ
permissions_in d =
    permissions_from_rights (rights_for (codes "secure") d) (rights_for (codes "nonsecure") d)
    (rights_for (codes "bootloader") d)

-- permissions are an object with exactly these three members
abbrev pub permissions_by : Data → Option Members → Option ℕ
permissions_by d None = None
permissions_by d (Some ms) = if has_unknown OfPermissions ms then None else permissions_in d

abbrev pub permissions_form : Data → Option ℕ
permissions_form d = permissions_by d (as_object d)
