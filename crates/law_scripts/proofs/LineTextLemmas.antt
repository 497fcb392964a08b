-- The words of a line that is spelled are those that were spelled.
use Rattle.std.proofs.Common.{◌≡◌, ◌≢◌, ℕ, zero, suc, ◌+◌, ◌^◌, ◌<◌, ◌≤◌, ◌==◌, Bool, true, false, List, [], ◌∷◌, ◌++◌, length, get_or, Option, Some, None, refl, sym, ap, ◌∙◌, arith, decimal, append_assoc}
use Rattle.std.specs.Prelude.{Ok, if◌then◌else◌, nat_le, codes}
use Rattle.script_words.specs.Finding.{line_in}
use Rattle.law_scripts.specs.Listed.{is_listed}
use Rattle.law_scripts.proofs.TokenBackLemmas.{line-back}
use Rattle.std.specs.List.{list_all}
use Rattle.std.proofs.lemmas.Bool.{and_parts, leb-true, ne_eqb}
use Rattle.std.proofs.lemmas.Grind.{flat_map-append}
use Rattle.hex.specs.Hex.{encode_lower, encode_with}
use Rattle.part_table.specs.Families.{absolute_family, arm_ns_family, arm_s_family, data_family, riscv_family, rp2040_family}
use Rattle.text_words.specs.Reading.{number_of}
use Rattle.text_words.specs.Writing.{hex_row, hex_word}
use Rattle.text_words.proofs.NumberBackLemmas.{zeros-back}
use Rattle.script_words.specs.declared.forms.Form.{Form}
use Rattle.script_words.specs.declared.forms.Form.TheVariants as forms
use Rattle.script_words.specs.declared.forms.Keyword.{Keyword}
use Rattle.script_words.specs.declared.forms.Keyword.TheVariants as keys
use Rattle.script_words.specs.declared.rows.Row.{Row}
use Rattle.script_words.specs.declared.rows.Row.TheVariants as rows
use Rattle.script_words.specs.Forms.{keyword_text}
use Rattle.script_words.specs.Rows.{first_word, form_at, forms_of}
use Rattle.script_words.specs.Values.{LineView, ValueView, Plain, Number, Span, Bytes}
use Rattle.script_words.specs.Spelling.{after_blanks, family_text, further_words, line_text, name_or_number, range_text, spelled, token_words, value_words}
use Rattle.script_words.specs.Splitting.{before_mark, blank_words, has_byte, words_in}
use Rattle.script_words.specs.Saying.{HasToken, IsLine, MaySay, MaySayAll, line_words}
use Rattle.law_scripts.proofs.CleanLemmas.{all_clean, are_words, clean-append, clean-bytes, clean-decimal, clean-hex, clean-row, is_clean, is_word, words-added, words-back}
use Rattle.script_words.proofs.MarkLemmas.{free-append, is_free, is_other, mark-before, other-ne}

-- ---- each word is one

word-of : (w : List ℕ) → has_byte w ≡ true → all_clean w ≡ true → is_word w ≡ true
word-of w some clean = rw (some, clean) refl

some-front : (w t : List ℕ) → has_byte w ≡ true → has_byte (w ++ t) ≡ true
some-front [] t some = absurd (cc some)
some-front (b ∷ w) t some = refl

some-digits : (text : List ℕ) (n : ℕ) → number_of text ≡ Some n → has_byte text ≡ true
some-digits [] n is = absurd (cc is)
some-digits (c ∷ text) n is = refl

decimal-word : (n : ℕ) → n < 2 ^ 32 → is_word (decimal n) ≡ true
decimal-word n small =
    word-of (decimal n) (some-digits (decimal n) n (zeros-back n small)) (clean-decimal n (omega (arith, small)))

hex-is_word : (n : ℕ) → n < 2 ^ 32 → is_word (hex_word n) ≡ true
hex-is_word n small = word-of (hex_word n) refl (clean-hex n small)

row-word : (n : ℕ) → n < 4096 → is_word (hex_row n) ≡ true
row-word n small = word-of (hex_row n) refl (clean-row n small)

range-word : (start size : ℕ) → start < 2 ^ 32 → size < 2 ^ 32 → is_word (range_text start size) ≡ true
range-word start size first second =
    word-of (range_text start size) refl
    (clean-append (hex_word start) (codes "+" ++ hex_word size) (clean-hex start first)
    (clean-append (codes "+") (hex_word size) refl (clean-hex size second)))

some-bytes : (bytes : List ℕ) → 1 ≤ length bytes → has_byte (encode_lower bytes) ≡ true
unfolding encode_with
some-bytes [] some = absurd (omega (arith, some))
some-bytes (b ∷ bytes) some = refl

key-word : (key : Keyword) → is_word (keyword_text key) ≡ true
key-word keys.Normal = refl
key-word keys.Bootsel = refl
key-word keys.Update = refl
key-word keys.Ram = refl
key-word keys.Before = refl
key-word keys.Within = refl
key-word keys.Table = refl
key-word keys.Target = refl
key-word keys.Device = refl
key-word keys.Partition = refl
key-word keys.Of = refl
key-word keys.At = refl
key-word keys.Image = refl
key-word keys.Family = refl
key-word keys.Token = refl

behind-key : (key : Keyword) (w : List ℕ) → is_word w ≡ true → is_word (keyword_text key ++ w) ≡ true
behind-key key w is =
    let first = and_parts (has_byte (keyword_text key)) (all_clean (keyword_text key)) (key-word key) in
    let second = and_parts (has_byte w) (all_clean w) is in
    word-of (keyword_text key ++ w) (some-front (keyword_text key) w first.0)
    (clean-append (keyword_text key) w first.1 second.1)

if-name : (family : ℕ) (t : Bool) (x y : Option (List ℕ)) → is_word (name_or_number family x) ≡ true
    → is_word (name_or_number family y) ≡ true → is_word (name_or_number family (if t then x else y)) ≡ true
if-name family true x y first second = first
if-name family false x y first second = second

family-word : (family : ℕ) → family < 2 ^ 32 → is_word (family_text family) ≡ true
family-word family small =
    if-name family (family == rp2040_family) _ _ refl
    (if-name family (family == absolute_family) _ _ refl
    (if-name family (family == data_family) _ _ refl
    (if-name family (family == arm_s_family) _ _ refl
    (if-name family (family == riscv_family) _ _ refl
    (if-name family (family == arm_ns_family) _ _ refl
    (behind-key keys.Family (hex_word family) (hex-is_word family small)))))))

-- a form of bytes asks for one at least
abbrev is_some_form : Form → Bool
is_some_form (forms.Bytes least most) = nat_le 1 least
is_some_form form = true

spelled-word : (form : Form) (value : ValueView) → is_some_form form ≡ true → MaySay form value
    → is_word (spelled form value) ≡ true
spelled-word (forms.Is key) Plain some may = key-word key
spelled-word (forms.Number most) (Number n) some may = decimal-word n may.1
spelled-word (forms.NumberBehind key) (Number n) some may = behind-key key (decimal n) (decimal-word n may)
spelled-word forms.Hex (Number n) some may = hex-is_word n may
spelled-word (forms.HexBehind key) (Number n) some may = behind-key key (hex_word n) (hex-is_word n may)
spelled-word forms.OtpRow (Number n) some may = row-word n may
spelled-word forms.Span (Span start size) some may = range-word start size may.0 may.1
spelled-word (forms.SpanBehind key) (Span start size) some may =
    behind-key key (range_text start size) (range-word start size may.0 may.1)
spelled-word (forms.Bytes least most) (Bytes bytes) some may =
    word-of (encode_lower bytes) (some-bytes bytes (omega (arith, may.1, leb-true 1 least some)))
    (clean-bytes bytes may.0)
spelled-word forms.Family (Number n) some may = family-word n may
spelled-word (forms.Is key) (Number n) some may = absurd may
spelled-word (forms.Is key) (Span a b) some may = absurd may
spelled-word (forms.Is key) (Bytes bs) some may = absurd may
spelled-word (forms.Number most) Plain some may = absurd may
spelled-word (forms.Number most) (Span a b) some may = absurd may
spelled-word (forms.Number most) (Bytes bs) some may = absurd may
spelled-word (forms.NumberBehind key) Plain some may = absurd may
spelled-word (forms.NumberBehind key) (Span a b) some may = absurd may
spelled-word (forms.NumberBehind key) (Bytes bs) some may = absurd may
spelled-word forms.Hex Plain some may = absurd may
spelled-word forms.Hex (Span a b) some may = absurd may
spelled-word forms.Hex (Bytes bs) some may = absurd may
spelled-word (forms.HexBehind key) Plain some may = absurd may
spelled-word (forms.HexBehind key) (Span a b) some may = absurd may
spelled-word (forms.HexBehind key) (Bytes bs) some may = absurd may
spelled-word forms.OtpRow Plain some may = absurd may
spelled-word forms.OtpRow (Span a b) some may = absurd may
spelled-word forms.OtpRow (Bytes bs) some may = absurd may
spelled-word forms.Span Plain some may = absurd may
spelled-word forms.Span (Number n) some may = absurd may
spelled-word forms.Span (Bytes bs) some may = absurd may
spelled-word (forms.SpanBehind key) Plain some may = absurd may
spelled-word (forms.SpanBehind key) (Number n) some may = absurd may
spelled-word (forms.SpanBehind key) (Bytes bs) some may = absurd may
spelled-word (forms.Bytes least most) Plain some may = absurd may
spelled-word (forms.Bytes least most) (Number n) some may = absurd may
spelled-word (forms.Bytes least most) (Span a b) some may = absurd may
spelled-word forms.Family Plain some may = absurd may
spelled-word forms.Family (Span a b) some may = absurd may
spelled-word forms.Family (Bytes bs) some may = absurd may
spelled-word forms.SomeSpan value some may = absurd may
spelled-word forms.Rest value some may = absurd may

form-some : (fs : List Form) (place : ℕ) → list_all is_some_form fs ≡ true
    → is_some_form (get_or fs place forms.Hex) ≡ true
form-some [] place all = refl
form-some (f ∷ fs) zero all = (and_parts (is_some_form f) (list_all is_some_form fs) all).0
form-some (f ∷ fs) (suc place) all =
    form-some fs place (and_parts (is_some_form f) (list_all is_some_form fs) all).1

forms-some : (row : Row) → list_all is_some_form (forms_of row) ≡ true
forms-some rows.Power = refl
forms-some rows.ResetNormal = refl
forms-some rows.ResetBootsel = refl
forms-some rows.ResetUpdate = refl
forms-some rows.CutBefore = refl
forms-some rows.CutWithin = refl
forms-some rows.Buy = refl
forms-some rows.Exclusive = refl
forms-some rows.Erase = refl
forms-some rows.Read = refl
forms-some rows.Write = refl
forms-some rows.WriteRange = refl
forms-some rows.WriteRest = refl
forms-some rows.ExitXip = refl
forms-some rows.EnterXip = refl
forms-some rows.RebootNormal = refl
forms-some rows.RebootBootsel = refl
forms-some rows.RebootUpdate = refl
forms-some rows.RebootRam = refl
forms-some rows.OtpRead = refl
forms-some rows.OtpWrite = refl
forms-some rows.InfoTable = refl
forms-some rows.InfoTarget = refl
forms-some rows.InfoDevice = refl
forms-some rows.InfoPartition = refl
forms-some rows.Block = refl
forms-some rows.ImageBlock = refl
forms-some rows.RawCommand = refl
forms-some rows.RawPayload = refl
forms-some rows.RawBlock = refl
forms-some rows.End = refl

values-words : (row : Row) (place : ℕ) (values : List ValueView) → MaySayAll row place values
    → are_words (value_words row place values) ≡ true
values-words row place [] may = refl
values-words row place (value ∷ values) may =
    rw (spelled-word (form_at row place) value (form-some (forms_of row) place (forms-some row)) may.0)
    (values-words row (place + 1) values may.1)

tokens-words : (row : Row) (token : Option ℕ) → HasToken row token → are_words (token_words token) ≡ true
tokens-words row None has = refl
tokens-words row (Some token) has =
    rw (behind-key keys.Token (hex_word token) (hex-is_word token has.1)) refl

words-append : (xs ys : List (List ℕ)) → are_words xs ≡ true → are_words ys ≡ true → are_words (xs ++ ys) ≡ true
words-append [] ys first second = second
words-append (x ∷ xs) ys first second =
    let parts = and_parts (is_word x) (are_words xs) first in
    rw parts.0 (words-append xs ys parts.1 second)

further-words : (line : LineView) → IsLine line → are_words (further_words line) ≡ true
further-words line is =
    words-append (value_words line.row 0 line.values) (token_words line.token)
    (values-words line.row 0 line.values is.values) (tokens-words line.row line.token is.token)

first-is_word : (row : Row) → is_word (first_word row) ≡ true
first-is_word rows.Power = refl
first-is_word rows.ResetNormal = refl
first-is_word rows.ResetBootsel = refl
first-is_word rows.ResetUpdate = refl
first-is_word rows.CutBefore = refl
first-is_word rows.CutWithin = refl
first-is_word rows.Buy = refl
first-is_word rows.Exclusive = refl
first-is_word rows.Erase = refl
first-is_word rows.Read = refl
first-is_word rows.Write = refl
first-is_word rows.WriteRange = refl
first-is_word rows.WriteRest = refl
first-is_word rows.ExitXip = refl
first-is_word rows.EnterXip = refl
first-is_word rows.RebootNormal = refl
first-is_word rows.RebootBootsel = refl
first-is_word rows.RebootUpdate = refl
first-is_word rows.RebootRam = refl
first-is_word rows.OtpRead = refl
first-is_word rows.OtpWrite = refl
first-is_word rows.InfoTable = refl
first-is_word rows.InfoTarget = refl
first-is_word rows.InfoDevice = refl
first-is_word rows.InfoPartition = refl
first-is_word rows.Block = refl
first-is_word rows.ImageBlock = refl
first-is_word rows.RawCommand = refl
first-is_word rows.RawPayload = refl
first-is_word rows.RawBlock = refl
first-is_word rows.End = refl

-- ---- the line

text-words : (line : LineView) → line_text line ≡ first_word line.row ++ after_blanks (further_words line)
text-words line =
    ap (λ t. first_word line.row ++ t)
    (sym (flat_map-append (λ word. 32 ∷ word) (value_words line.row 0 line.values) (token_words line.token)))

free-clean : (mark : ℕ) (w : List ℕ) → mark < 36 → all_clean w ≡ true → is_free mark w ≡ true
free-clean mark [] low clean = refl
free-clean mark (b ∷ w) low clean =
    let parts = and_parts (is_clean b) (all_clean w) clean in
    let above = leb-true 36 b parts.0 in
    rw (ne_eqb b mark (omega (arith, low, above))) (free-clean mark w low parts.1)

free-words : (mark : ℕ) (ws : List (List ℕ)) → mark < 36 → 32 ≢ mark → are_words ws ≡ true
    → is_free mark (after_blanks ws) ≡ true
free-words mark [] low other are = refl
free-words mark (w ∷ ws) low other are =
    let parts = and_parts (is_word w) (are_words ws) are in
    let word = and_parts (has_byte w) (all_clean w) parts.0 in
    rw (ne_eqb 32 mark other)
    (free-append mark w (after_blanks ws) (free-clean mark w low word.1) (free-words mark ws low other parts.1))

-- no byte of a line is a mark below `$` other than a blank
pub free-text : (mark : ℕ) (line : LineView) → mark < 36 → 32 ≢ mark → IsLine line
    → is_free mark (line_text line) ≡ true
free-text mark line low other is =
    let first = and_parts (has_byte (first_word line.row)) (all_clean (first_word line.row)) (first-is_word line.row) in
    ap (is_free mark) (text-words line)
    ∙ free-append mark (first_word line.row) (after_blanks (further_words line))
    (free-clean mark (first_word line.row) low first.1)
    (free-words mark (further_words line) low other (further-words line is))

before-whole : (mark : ℕ) (bs : List ℕ) → is_free mark bs ≡ true → before_mark mark bs ≡ bs
before-whole mark [] free = refl
before-whole mark (b ∷ bs) free =
    let parts = and_parts (is_other mark b) (is_free mark bs) free in
    rw (other-ne mark b parts.0) (ap (λ xs. b ∷ xs) (before-whole mark bs parts.1))

text-back : (line : LineView) → IsLine line → blank_words (line_text line) ≡ line_words line
text-back line is =
    ap blank_words (text-words line)
    ∙ words-back (first_word line.row) (further_words line) (first-is_word line.row) (further-words line is)

not-mark : ◌≢◌ {A = ℕ} 32 35
not-mark is = absurd (omega (arith, is))

-- the words of a line are those that were spelled
pub line-words : (line : LineView) → IsLine line → words_in (line_text line) ≡ line_words line
line-words line is =
    ap blank_words (before-whole 35 (line_text line) (free-text 35 line (omega arith) not-mark is))
    ∙ text-back line is

-- and so are those of a line with a comment behind it
pub noted-words : (line : LineView) (note : List ℕ) → IsLine line
    → words_in (line_text line ++ (codes " # " ++ note)) ≡ line_words line
noted-words line note is =
    ap (λ t. blank_words (before_mark 35 t))
    (sym (append_assoc (line_text line) (32 ∷ []) (35 ∷ (32 ∷ note))))
    ∙ ap blank_words
    (mark-before 35 (line_text line ++ (32 ∷ [])) (32 ∷ note)
    (free-append 35 (line_text line) (32 ∷ []) (free-text 35 line (omega arith) not-mark is) refl))
    ∙ words-added (line_text line) ∙ text-back line is

pub line-read : (line : LineView) → is_listed line.row ≡ true → IsLine line
    → line_in (words_in (line_text line)) ≡ Ok line
line-read line listed is = ap line_in (line-words line is) ∙ line-back line listed is

pub noted-read : (line : LineView) (note : List ℕ) → is_listed line.row ≡ true → IsLine line
    → line_in (words_in (line_text line ++ (codes " # " ++ note))) ≡ Ok line
noted-read line note listed is = ap line_in (noted-words line note is) ∙ line-back line listed is
