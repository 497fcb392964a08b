-- What a word says, by its form.
use Rattle.std.specs.Prelude.{ℕ, ◌==◌, ◌&&◌, nat_le, if◌then◌else◌, List, [], ◌∷◌, Option, Some, None, option_map, option_and_then, length, map, codes, bytes_eq}
use Rattle.std.specs.Option.{option_or}
use Rattle.std.specs.Result.{result_ok}
use Rattle.hex.specs.Hex.{decode_of}
use Rattle.part_table.specs.Families.{family_of}
use Rattle.text_words.specs.Reading.{behind_word, hex_value, number_of}
use Rattle.script_words.specs.declared.forms.Form.{Form}
use Rattle.script_words.specs.declared.forms.Form.TheVariants as forms
use Rattle.script_words.specs.declared.rows.Row.{Row}
use Rattle.script_words.specs.declared.values.Value.{Value}
use Rattle.script_words.specs.declared.values.Value.TheVariants as rust
use Rattle.script_words.specs.declared.values.Line.{Line}
use Rattle.script_words.specs.Splitting.{before_mark, behind_mark}
use Rattle.script_words.specs.Forms.{keyword_text}

-- what a word says: nothing but itself, a number, a start and a size, or bytes
pub data ValueView : Type 0 where
  Plain : ValueView
  Number : (number : ℕ) → ValueView
  Span : (start size : ℕ) → ValueView
  Bytes : (bytes : List ℕ) → ValueView

-- a value of the code as plain data
abbrev pub value_from : Value → ValueView
value_from rust.Plain = Plain
value_from (rust.Number number) = Number number
value_from (rust.Span start size) = Span start size
value_from (rust.Bytes bytes) = Bytes bytes.items

-- what a line says: a row, what its words behind the first say, and its token, where it has one
pub record LineView : Type 0 where
  pub row : Row
  pub values : List ValueView
  pub token : Option ℕ

abbrev pub said : Row → List ValueView → Option ℕ → LineView
said row values token = record { row = row; values = values; token = token }

abbrev pub line_from : Line → LineView
line_from line = said line.row (map value_from line.values.items) line.token

-- ---- words

-- a number, where it is at most this one
abbrev pub at_most : ℕ → ℕ → Option ℕ
at_most most n = if nat_le n most then Some n else None

-- 1 to 10 decimal digits, of which the first ones may be 0: a number that is at most this one, and
-- below 2^32
abbrev pub number_within : ℕ → List ℕ → Option ℕ
number_within most word = option_and_then (at_most most) (number_of word)

-- so many hexadecimal digits of either case at most, and at least one
abbrev pub digits_in : ℕ → List ℕ → Option ℕ
digits_in most digits =
    if nat_le 1 (length digits) && nat_le (length digits) most then hex_value 0 digits else None

-- 0x and 1 to 8 hexadecimal digits
abbrev pub hex_word_in : List ℕ → Option ℕ
hex_word_in word = option_and_then (digits_in 8) (behind_word (codes "0x") word)

-- 0x and 1 to 3 hexadecimal digits: the number of an OTP row
abbrev pub row_in : List ℕ → Option ℕ
row_in word = option_and_then (digits_in 3) (behind_word (codes "0x") word)

abbrev pub both : Option ℕ → Option ℕ → Option (ℕ × ℕ)
both None second = None
both (Some first) None = None
both (Some first) (Some second) = Some (first, second)

-- a start and a size, with `+` between them
abbrev pub span_in : List ℕ → Option (ℕ × ℕ)
span_in word =
    both (hex_word_in (before_mark 43 word)) (option_and_then hex_word_in (behind_mark 43 word))

-- a range of at least one byte
abbrev pub some_range : ℕ × ℕ → Option (ℕ × ℕ)
some_range (start, size) = if size == 0 then None else Some (start, size)

abbrev pub some_span_in : List ℕ → Option (ℕ × ℕ)
some_span_in word = option_and_then some_range (span_in word)

-- a start, where nothing follows its `+`
abbrev pub open_start : ℕ → List ℕ → Option ℕ
open_start start [] = Some start
open_start start (b ∷ rest) = None

-- a start and `+`
abbrev pub rest_in : List ℕ → Option ℕ
rest_in word =
    option_and_then (λ start. option_and_then (open_start start) (behind_mark 43 word))
    (hex_word_in (before_mark 43 word))

-- the family of 0x and 1 to 8 hexadecimal digits, or of a name, behind `family=`
abbrev pub family_word : List ℕ → Option ℕ
family_word word =
    option_and_then (λ text. option_or (hex_word_in text) (family_of text))
    (behind_word (codes "family=") word)

-- bytes, where there are so many at least and so many at most
abbrev pub sized : ℕ → ℕ → List ℕ → Option (List ℕ)
sized least most bytes =
    if nat_le least (length bytes) && nat_le (length bytes) most then Some bytes else None

-- the bytes of two hexadecimal digits of either case each, so many at least and so many at most
abbrev pub bytes_word : ℕ → ℕ → List ℕ → Option (List ℕ)
bytes_word least most word = option_and_then (sized least most) (result_ok (decode_of word))

abbrev pub span_value : ℕ × ℕ → ValueView
span_value (start, size) = Span start size

-- what a word of a form other than bytes says
abbrev pub short_in : Form → List ℕ → Option ValueView
short_in (forms.Is text) word =
    if bytes_eq word (keyword_text text) then Some Plain else None
short_in (forms.Number most) word = option_map Number (number_within most word)
short_in (forms.NumberBehind front) word =
    option_map Number (option_and_then number_of (behind_word (keyword_text front) word))
short_in forms.Hex word = option_map Number (hex_word_in word)
short_in (forms.HexBehind front) word =
    option_map Number (option_and_then hex_word_in (behind_word (keyword_text front) word))
short_in forms.OtpRow word = option_map Number (row_in word)
short_in forms.Span word = option_map span_value (span_in word)
short_in (forms.SpanBehind front) word =
    option_map span_value (option_and_then span_in (behind_word (keyword_text front) word))
short_in forms.SomeSpan word = option_map span_value (some_span_in word)
short_in forms.Rest word = option_map Number (rest_in word)
short_in (forms.Bytes least most) word = None
short_in forms.Family word = option_map Number (family_word word)

-- what a word of a form says; None where it is not of the form
abbrev pub value_in : Form → List ℕ → Option ValueView
value_in (forms.Bytes least most) word = option_map Bytes (bytes_word least most word)
value_in form word = short_in form word
