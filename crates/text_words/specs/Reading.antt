-- Numbers and bytes as they are read.
use Rattle.std.specs.Prelude.{ℕ, ◌+◌, ◌-◌, ◌*◌, ◌^◌, ◌==◌, ◌&&◌, ◌||◌, Bool, nat_le, nat_lt, if◌then◌else◌, List, [], ◌∷◌, Option, Some, None, option_map, option_and_then, length, take, drop, slice_index, codes, bytes_eq}
use Rattle.std.specs.List.{list_all}
use Rattle.std.specs.Result.{result_ok}
use Rattle.byteorder.specs.Endian.{big_number}
use Rattle.hex.specs.Hex.{decode_of, decode_sized, hex_digit_value}

-- ---- decimal numbers

-- the value of a decimal digit, by its code
abbrev pub decimal_digit : ℕ → Option ℕ
decimal_digit code = if nat_le 48 code && nat_le code 57 then Some (code - 48) else None

-- the number of these digits behind those of a first number
abbrev pub decimal_value : ℕ → List ℕ → Option ℕ
decimal_value first [] = Some first
decimal_value first (code ∷ text) =
    option_and_then (λ digit. decimal_value (10 * first + digit) text) (decimal_digit code)

-- a number that fits into 32 bits
abbrev pub in_32_bits : ℕ → Option ℕ
in_32_bits n = if nat_lt n (2 ^ 32) then Some n else None

-- the number below 2^32 of decimal digits
abbrev pub value_in : List ℕ → Option ℕ
value_in text = option_and_then in_32_bits (decimal_value 0 text)

-- the number that 1 to 10 decimal digits are, of which the first ones may be 0
abbrev pub number_of : List ℕ → Option ℕ
number_of text = if nat_le 1 (length text) && nat_le (length text) 10 then value_in text else None

-- one to ten bytes, of which the first is 0 only where it is the only one
abbrev pub is_short : List ℕ → Bool
is_short text =
    nat_le 1 (length text) && nat_le (length text) 10
    && (length text == 1 || nat_lt 48 (slice_index text 0))

-- the number that 1 to 10 decimal digits are, without a leading zero: its one spelling
abbrev pub number_in : List ℕ → Option ℕ
number_in text = if is_short text then value_in text else None

-- ---- hexadecimal numbers, in either case

-- the number of these digits behind those of a first number
abbrev pub hex_value : ℕ → List ℕ → Option ℕ
hex_value first [] = Some first
hex_value first (code ∷ text) =
    option_and_then (λ digit. hex_value (16 * first + digit) text) (hex_digit_value code)

-- ---- bytes and words, in lower case: their one spelling

-- a lower-case hexadecimal digit
abbrev pub is_digit : ℕ → Bool
is_digit code = (nat_le 48 code && nat_le code 57) || (nat_le 97 code && nat_le code 102)

abbrev pub are_digits : List ℕ → Bool
are_digits text = list_all is_digit text

-- the bytes of two lower-case digits each
abbrev pub bytes_in : List ℕ → Option (List ℕ)
bytes_in text = if are_digits text then result_ok (decode_of text) else None

-- n bytes of two lower-case digits each
abbrev pub array_in : ℕ → List ℕ → Option (List ℕ)
array_in n text = if are_digits text then result_ok (decode_sized text n) else None

-- what follows this word at the front of a text
abbrev pub behind_word : List ℕ → List ℕ → Option (List ℕ)
behind_word word text =
    if bytes_eq (take (length word) text) word then Some (drop (length word) text) else None

-- the number of 0x and eight digits
abbrev pub word_in : List ℕ → Option ℕ
word_in text =
    option_and_then (λ digits. option_map (big_number 4) (array_in 4 digits))
    (behind_word (codes "0x") text)
