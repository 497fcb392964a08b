-- Numbers and answers as they are written. This project's own; a number in decimal is std's.
use Rattle.std.specs.Prelude.{ℕ, ◌-◌, ◌^◌, Bool, true, false, List, [], ◌∷◌, ◌++◌, codes}
use Rattle.std.specs.Fmt.{digits, padded_integral, format_spec}

-- lower-case hexadecimal digits, at least so many, as `{:08x}` prints eight
abbrev pub hex_digits : ℕ → ℕ → List ℕ
hex_digits width n =
    padded_integral (format_spec 32 0 4 width (2 ^ 64 - 1)) false [] (digits 16 false n)

-- a number as 0x and at least eight digits
abbrev pub hex_word : ℕ → List ℕ
hex_word n = codes "0x" ++ hex_digits 8 n

-- a byte as 0x and two digits
abbrev pub hex_byte : ℕ → List ℕ
hex_byte n = codes "0x" ++ hex_digits 2 n

-- the number of an OTP row as 0x and at least three digits
abbrev pub hex_row : ℕ → List ℕ
hex_row n = codes "0x" ++ hex_digits 3 n

abbrev pub yes_or_no : Bool → List ℕ
yes_or_no true = codes "yes"
yes_or_no false = codes "no"

-- a line ends with one line feed
abbrev pub line : List ℕ → List ℕ
line text = text ++ (10 ∷ [])
