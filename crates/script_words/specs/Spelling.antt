-- The words of what a line says, in the one spelling that `list` gives them.
use Rattle.std.specs.Prelude.{ℕ, ◌+◌, ◌==◌, if◌then◌else◌, List, [], ◌∷◌, ◌++◌, Option, Some, None, codes, decimal}
use Rattle.std.specs.List.{flat_map}
use Rattle.hex.specs.Hex.{encode_lower}
use Rattle.part_table.specs.Families.{rp2040_family, absolute_family, data_family, arm_s_family, riscv_family, arm_ns_family}
use Rattle.text_words.specs.Writing.{hex_row, hex_word}
use Rattle.script_words.specs.declared.forms.Form.{Form}
use Rattle.script_words.specs.declared.forms.Form.TheVariants as forms
use Rattle.script_words.specs.declared.rows.Row.{Row}
use Rattle.script_words.specs.Forms.{keyword_text}
use Rattle.script_words.specs.Rows.{first_word, form_at}
use Rattle.script_words.specs.Values.{LineView, ValueView, Plain, Number, Span, Bytes}

-- the name of a family, where it has one (picotool's documentation, UF2 families)
abbrev pub family_name : ℕ → Option (List ℕ)
family_name family =
    if family == rp2040_family then Some (codes "rp2040")
    else if family == absolute_family then Some (codes "absolute")
    else if family == data_family then Some (codes "data")
    else if family == arm_s_family then Some (codes "rp2350-arm-s")
    else if family == riscv_family then Some (codes "rp2350-riscv")
    else if family == arm_ns_family then Some (codes "rp2350-arm-ns")
    else None

abbrev pub name_or_number : ℕ → Option (List ℕ) → List ℕ
name_or_number family None = codes "family=" ++ hex_word family
name_or_number family (Some name) = codes "family=" ++ name

-- the word of a family: its name where it has one, and otherwise its number
abbrev pub family_text : ℕ → List ℕ
family_text family = name_or_number family (family_name family)

-- the word of a form that says a number
abbrev pub number_text : Form → ℕ → List ℕ
number_text (forms.Number most) number = decimal number
number_text (forms.NumberBehind front) number = keyword_text front ++ decimal number
number_text (forms.HexBehind front) number = keyword_text front ++ hex_word number
number_text forms.OtpRow number = hex_row number
number_text forms.Rest number = hex_word number ++ codes "+"
number_text forms.Family number = family_text number
number_text form number = hex_word number

abbrev pub range_text : ℕ → ℕ → List ℕ
range_text start size = hex_word start ++ (codes "+" ++ hex_word size)

-- the word of a form that says a start and a size
abbrev pub span_text : Form → ℕ → ℕ → List ℕ
span_text (forms.SpanBehind front) start size = keyword_text front ++ range_text start size
span_text form start size = range_text start size

-- the word that stands as it is
abbrev pub plain_text : Form → List ℕ
plain_text (forms.Is word) = keyword_text word
plain_text form = []

-- the word of a form that says a value
abbrev pub spelled : Form → ValueView → List ℕ
spelled form Plain = plain_text form
spelled form (Number number) = number_text form number
spelled form (Span start size) = span_text form start size
spelled form (Bytes bytes) = encode_lower bytes

-- the words of a row that say values, from this place behind the first on
abbrev pub value_words : Row → ℕ → List ValueView → List (List ℕ)
value_words row place [] = []
value_words row place (value ∷ values) =
    spelled (form_at row place) value ∷ value_words row (place + 1) values

-- a word of a token
abbrev pub token_words : Option ℕ → List (List ℕ)
token_words None = []
token_words (Some token) = (codes "token=" ++ hex_word token) ∷ []

-- the words behind the first of what a line says
abbrev pub further_words : LineView → List (List ℕ)
further_words line = value_words line.row 0 line.values ++ token_words line.token

-- words, each after a blank
abbrev pub after_blanks : List (List ℕ) → List ℕ
after_blanks words = flat_map (λ word. 32 ∷ word) words

abbrev pub value_texts : Row → ℕ → List ValueView → List ℕ
value_texts row place values = after_blanks (value_words row place values)

abbrev pub token_text : Option ℕ → List ℕ
token_text token = after_blanks (token_words token)

-- the words of what a line says, and one blank between each two
abbrev pub line_text : LineView → List ℕ
line_text line =
    first_word line.row ++ (value_texts line.row 0 line.values ++ token_text line.token)
