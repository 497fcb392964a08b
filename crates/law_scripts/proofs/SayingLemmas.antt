-- What a line says that is read, and takes no bytes of an image, a line may say.
use Rattle.std.proofs.Common.{◌≡◌, ℕ, zero, suc, ◌+◌, ◌-◌, ◌*◌, ◌^◌, ◌<◌, ◌≤◌, ◌==◌, Bool, true, false, not, List, [], ◌∷◌, length, get_or, Option, Some, None, refl, sym, ap, subst, ◌∙◌, arith}
use Rattle.std.specs.Prelude.{Result, Ok, Err, if◌then◌else◌, ◌&&◌, nat_le, nat_lt, bytes_eq, codes, option_and_then, option_map, position}
use Rattle.std.specs.List.{list_all}
use Rattle.std.specs.Option.{option_or}
use Rattle.std.specs.Result.{result_ok}
use Rattle.std.proofs.lemmas.Bool.{and_parts, leb-true, ltb-true}
use Rattle.std.proofs.lemmas.List.Quantifiers.{position-Some}
use Rattle.hex.specs.Hex.{IsBytes, decode_of, hex_digit_value}
use Rattle.hex.specs.declared.error.FromHexError.{FromHexError}
use Rattle.hex.proofs.HexLemmas.{decode_of-ok}
use Rattle.part_table.specs.Families.{family_names, family_of, rp2040_family}
use Rattle.text_words.specs.Reading.{behind_word, decimal_value, hex_value, in_32_bits, number_of}
use Rattle.text_words.proofs.BytesLemmas.{same-text}
use Rattle.script_words.specs.declared.fault.LineFault.{LineFault}
use Rattle.script_words.specs.declared.fault.LineFault.TheVariants as faults
use Rattle.script_words.specs.declared.forms.Form.{Form}
use Rattle.script_words.specs.declared.forms.Form.TheVariants as forms
use Rattle.script_words.specs.declared.forms.Keyword.TheVariants.{Token}
use Rattle.script_words.specs.declared.rows.Row.{Row}
use Rattle.script_words.specs.declared.rows.Row.TheVariants as rows
use Rattle.script_words.specs.declared.rows.TheConstants.{ROWS}
use Rattle.script_words.specs.Forms.{keyword_text}
use Rattle.script_words.specs.Rows.{first_word, form_at, forms_of, has_words, is_command}
use Rattle.script_words.specs.Splitting.{before_mark, behind_mark}
use Rattle.script_words.specs.Values.{LineView, ValueView, Plain, Number, Span, Bytes, at_most, both, digits_in, family_word, hex_word_in, number_within, row_in, said, sized, span_in, span_value, value_in}
use Rattle.script_words.specs.Finding.{add_token, begins_command, begins_record, command_in, has_token, last_word, line_found, line_in, or_in, read_row, read_rows, record_in, said_in, values_in, with_token, with_value, without_last}
use Rattle.script_words.specs.Saying.{HasToken, IsLine, MaySay, MaySayAll}
use Rattle.law_scripts.specs.Listed.{is_in_words, is_listed}

-- ---- options

record Then {A B : Type 0} (f : A → Option B) (o : Option A) (b : B) : Type 0 where
  first : A
  is : o ≡ Some first
  gives : f first ≡ Some b

then-of : {A B : Type 0} (f : A → Option B) (o : Option A) (b : B) → option_and_then f o ≡ Some b → Then f o b
then-of f None b same = absurd (cc same)
then-of f (Some a) b same = record { first = a; is = refl; gives = same }

record Mapped {A B : Type 0} (f : A → B) (o : Option A) (b : B) : Type 0 where
  first : A
  is : o ≡ Some first
  gives : b ≡ f first

mapped-of : {A B : Type 0} (f : A → B) (o : Option A) (b : B) → option_map f o ≡ Some b → Mapped f o b
mapped-of f None b same = absurd (cc same)
mapped-of f (Some a) b same = record { first = a; is = refl; gives = cc same }

same-number : (a b : ℕ) → Some a ≡ Some b → a ≡ b
same-number a b same = cc same

-- ---- numbers

digit-small : (c d : ℕ) → hex_digit_value c ≡ Some d → d < 16
digit-small c d is = by_upper (nat_le 65 c && nat_le c 70) refl is
  where
    by_digit : (t : Bool) → (nat_le 48 c && nat_le c 57) ≡ t → (if t then Some (c - 48) else None) ≡ Some d → d < 16
    by_digit true inside same =
        let high = leb-true c 57 (and_parts (nat_le 48 c) (nat_le c 57) inside).1 in
        let e = same-number (c - 48) d same in omega (arith, high, e)
    by_digit false inside same = absurd (cc same)

    by_lower : (t : Bool) → (nat_le 97 c && nat_le c 102) ≡ t
        → (if t then Some (c - 87) else if nat_le 48 c && nat_le c 57 then Some (c - 48) else None) ≡ Some d → d < 16
    by_lower true inside same =
        let high = leb-true c 102 (and_parts (nat_le 97 c) (nat_le c 102) inside).1 in
        let e = same-number (c - 87) d same in omega (arith, high, e)
    by_lower false inside same = by_digit (nat_le 48 c && nat_le c 57) refl same

    by_upper : (t : Bool) → (nat_le 65 c && nat_le c 70) ≡ t
        → (if t then Some (c - 55) else if nat_le 97 c && nat_le c 102 then Some (c - 87)
        else if nat_le 48 c && nat_le c 57 then Some (c - 48) else None) ≡ Some d → d < 16
    by_upper true inside same =
        let high = leb-true c 70 (and_parts (nat_le 65 c) (nat_le c 70) inside).1 in
        let e = same-number (c - 55) d same in omega (arith, high, e)
    by_upper false inside same = by_lower (nat_le 97 c && nat_le c 102) refl same

-- the greatest number that so many digits say behind a first one
abbrev greatest : ℕ → ℕ → ℕ
greatest zero first = first
greatest (suc k) first = greatest k (16 * first + 15)

above : (k first : ℕ) → first ≤ greatest k first
above zero first = omega arith
above (suc k) first = let more = above k (16 * first + 15) in omega (arith, more)

value-small : (k first top : ℕ) (ds : List ℕ) (n : ℕ) → first ≤ top → length ds ≤ k
    → hex_value first ds ≡ Some n → n ≤ greatest k top
value-small k first top [] n low few is =
    let e = same-number first n is in
    let high = above k top in omega (arith, low, e, high)
value-small zero first top (c ∷ ds) n low few is = absurd (omega (arith, few))
value-small (suc k) first top (c ∷ ds) n low few is =
    let t = then-of (λ digit. hex_value (16 * first + digit) ds) (hex_digit_value c) n is in
    let small = digit-small c t.first t.is in
    value-small k (16 * first + t.first) (16 * top + 15) ds n (omega (arith, low, small)) (omega (arith, few)) t.gives

digits-small : (most : ℕ) (ds : List ℕ) (n : ℕ) → digits_in most ds ≡ Some n → n ≤ greatest most 0
digits-small most ds n is = by_tests (nat_le 1 (length ds)) (nat_le (length ds) most) refl is
  where
    by_tests : (t u : Bool) → nat_le (length ds) most ≡ u
        → (if t && u then hex_value 0 ds else None) ≡ Some n → n ≤ greatest most 0
    by_tests true true few same = value-small most 0 0 ds n (omega arith) (leb-true (length ds) most few) same
    by_tests true false few same = absurd (cc same)
    by_tests false u few same = absurd (cc same)

eight : greatest 8 0 ≡ 0xffffffff
eight = refl

three : greatest 3 0 ≡ 0xfff
three = refl

hex-small : (word : List ℕ) (n : ℕ) → hex_word_in word ≡ Some n → n < 2 ^ 32
hex-small word n is =
    let t = then-of (digits_in 8) (behind_word (codes "0x") word) n is in
    let low = digits-small 8 t.first n t.gives in omega (arith, low, eight)

row-small : (word : List ℕ) (n : ℕ) → row_in word ≡ Some n → n < 4096
row-small word n is =
    let t = then-of (digits_in 3) (behind_word (codes "0x") word) n is in
    let low = digits-small 3 t.first n t.gives in omega (arith, low, three)

bits-small : (m n : ℕ) → in_32_bits m ≡ Some n → n < 2 ^ 32
bits-small m n is = by_test (nat_lt m (2 ^ 32)) refl is
  where
    by_test : (t : Bool) → nat_lt m (2 ^ 32) ≡ t → (if t then Some m else None) ≡ Some n → n < 2 ^ 32
    by_test true low same =
        let e = same-number m n same in
        let small = ltb-true m (2 ^ 32) low in omega (arith, small, e)
    by_test false low same = absurd (cc same)

number-small : (word : List ℕ) (n : ℕ) → number_of word ≡ Some n → n < 2 ^ 32
number-small word n is = by_tests (nat_le 1 (length word) && nat_le (length word) 10) is
  where
    by_tests : (t : Bool)
        → (if t then option_and_then in_32_bits (decimal_value 0 word) else None) ≡ Some n → n < 2 ^ 32
    by_tests true same =
        let t = then-of in_32_bits (decimal_value 0 word) n same in bits-small t.first n t.gives
    by_tests false same = absurd (cc same)

most-small : (most m n : ℕ) → at_most most m ≡ Some n → (n ≤ most) × (m ≡ n)
most-small most m n is = by_test (nat_le m most) refl is
  where
    by_test : (t : Bool) → nat_le m most ≡ t → (if t then Some m else None) ≡ Some n → (n ≤ most) × (m ≡ n)
    by_test true low same =
        let e = same-number m n same in
        let few = leb-true m most low in (omega (arith, few, e), e)
    by_test false low same = absurd (cc same)

family-small : (name : List ℕ) (n : ℕ) → family_of name ≡ Some n → n < 2 ^ 32
family-small name n is =
    let m = mapped-of (λ i. rp2040_family + i) (position (bytes_eq name) family_names) n is in
    let low = (position-Some (bytes_eq name) family_names m.first [] m.is).0 in
    let e = m.gives in omega (arith, low, e)

word-family : (word : List ℕ) (n : ℕ) → family_word word ≡ Some n → n < 2 ^ 32
word-family word n is =
    let t = then-of (λ text. option_or (hex_word_in text) (family_of text)) (behind_word (codes "family=") word) n is in
    by_found t.first (hex_word_in t.first) refl t.gives
  where
    by_found : (text : List ℕ) (found : Option ℕ) → hex_word_in text ≡ found
        → option_or found (family_of text) ≡ Some n → n < 2 ^ 32
    by_found text None none same = family-small text n same
    by_found text (Some m) some same = hex-small text n (some ∙ same)

-- ---- a start and a size

abbrev IsSpan : ℕ × ℕ → Type 0
IsSpan (start, size) = (start < 2 ^ 32) × (size < 2 ^ 32)

both-small : (a b : Option ℕ) (p : ℕ × ℕ) → ((n : ℕ) → a ≡ Some n → n < 2 ^ 32)
    → ((n : ℕ) → b ≡ Some n → n < 2 ^ 32) → both a b ≡ Some p → IsSpan p
both-small None b p first second same = absurd (cc same)
both-small (Some m) None p first second same = absurd (cc same)
both-small (Some m) (Some n) p first second same =
    let e : (m, n) ≡ p = cc same in subst IsSpan e (first m refl, second n refl)

span-small : (word : List ℕ) (p : ℕ × ℕ) → span_in word ≡ Some p → IsSpan p
span-small word p is =
    both-small (hex_word_in (before_mark 43 word)) (option_and_then hex_word_in (behind_mark 43 word)) p
    (λ n found. hex-small (before_mark 43 word) n found)
    (λ n found. let t = then-of hex_word_in (behind_mark 43 word) n found in hex-small t.first n t.gives)
    is

-- ---- words

abbrev takes_none : Form → Bool
takes_none forms.SomeSpan = false
takes_none forms.Rest = false
takes_none form = true

span-says : (o : Option (ℕ × ℕ)) (v : ValueView) → ((p : ℕ × ℕ) → o ≡ Some p → IsSpan p)
    → option_map span_value o ≡ Some v → MaySay forms.Span v
span-says o v small is = by_span (mapped-of span_value o v is)
  where
    by_pair : (p : ℕ × ℕ) → IsSpan p → MaySay forms.Span (span_value p)
    by_pair (start, size) low = low

    by_span : Mapped span_value o v → MaySay forms.Span v
    by_span m = subst (MaySay forms.Span) (sym m.gives) (by_pair m.first (small m.first m.is))

number-says : (o : Option ℕ) (v : ValueView) → ((n : ℕ) → o ≡ Some n → n < 2 ^ 32)
    → option_map Number o ≡ Some v → MaySay forms.Hex v
number-says o v small is =
    let m = mapped-of Number o v is in subst (MaySay forms.Hex) (sym m.gives) (small m.first m.is)

bytes-says : (least most : ℕ) (word : List ℕ) (v : ValueView) → value_in (forms.Bytes least most) word ≡ Some v
    → MaySay (forms.Bytes least most) v
bytes-says least most word v is = by_decoded (decode_of word) refl is
  where
    by_size : (bytes : List ℕ) (t u : Bool) → IsBytes bytes → nat_le least (length bytes) ≡ t
        → nat_le (length bytes) most ≡ u → option_map Bytes (if t && u then Some bytes else None) ≡ Some v
        → MaySay (forms.Bytes least most) v
    by_size bytes true true are low high same =
        let e : Bytes bytes ≡ v = cc same in
        subst (MaySay (forms.Bytes least most)) e
        (are, leb-true least (length bytes) low, leb-true (length bytes) most high)
    by_size bytes true false are low high same = absurd (cc same)
    by_size bytes false u are low high same = absurd (cc same)

    by_decoded : (r : Result (List ℕ) FromHexError) → decode_of word ≡ r
        → option_map Bytes (option_and_then (sized least most) (result_ok r)) ≡ Some v
        → MaySay (forms.Bytes least most) v
    by_decoded (Ok bytes) found same =
        by_size bytes (nat_le least (length bytes)) (nat_le (length bytes) most)
        (decode_of-ok word bytes found).3 refl refl same
    by_decoded (Err error) found same = absurd (cc same)

-- what a word of a form says, such a word may say
word-says : (form : Form) (word : List ℕ) (v : ValueView) → takes_none form ≡ true → value_in form word ≡ Some v
    → MaySay form v
word-says (forms.Is key) word v own is = by_test (bytes_eq word (keyword_text key)) is
  where
    by_test : (t : Bool) → (if t then Some Plain else None) ≡ Some v → MaySay (forms.Is key) v
    by_test true same = let e : Plain ≡ v = cc same in subst (MaySay (forms.Is key)) e tt
    by_test false same = absurd (cc same)
word-says (forms.Number most) word v own is =
    let m = mapped-of Number (number_within most word) v is in
    let t = then-of (at_most most) (number_of word) m.first m.is in
    let few = most-small most t.first m.first t.gives in
    subst (MaySay (forms.Number most)) (sym m.gives)
    (few.0, number-small word m.first (t.is ∙ ap (λ n. Some n) few.1))
word-says (forms.NumberBehind key) word v own is =
    let m = mapped-of Number (option_and_then number_of (behind_word (keyword_text key) word)) v is in
    let t = then-of number_of (behind_word (keyword_text key) word) m.first m.is in
    subst (MaySay (forms.NumberBehind key)) (sym m.gives) (number-small t.first m.first t.gives)
word-says forms.Hex word v own is = number-says (hex_word_in word) v (hex-small word) is
word-says (forms.HexBehind key) word v own is =
    let m = mapped-of Number (option_and_then hex_word_in (behind_word (keyword_text key) word)) v is in
    let t = then-of hex_word_in (behind_word (keyword_text key) word) m.first m.is in
    subst (MaySay (forms.HexBehind key)) (sym m.gives) (hex-small t.first m.first t.gives)
word-says forms.OtpRow word v own is =
    let m = mapped-of Number (row_in word) v is in
    subst (MaySay forms.OtpRow) (sym m.gives) (row-small word m.first m.is)
word-says forms.Span word v own is = span-says (span_in word) v (span-small word) is
word-says (forms.SpanBehind key) word v own is = by_span v
    (span-says (option_and_then span_in (behind_word (keyword_text key) word)) v
    (λ p found. let t = then-of span_in (behind_word (keyword_text key) word) p found in span-small t.first p t.gives)
    is)
  where
    by_span : (value : ValueView) → MaySay forms.Span value → MaySay (forms.SpanBehind key) value
    by_span Plain may = absurd may
    by_span (Number n) may = absurd may
    by_span (Span start size) may = may
    by_span (Bytes bytes) may = absurd may
word-says (forms.Bytes least most) word v own is = bytes-says least most word v is
word-says forms.Family word v own is =
    let m = mapped-of Number (family_word word) v is in
    subst (MaySay forms.Family) (sym m.gives) (word-family word m.first m.is)
word-says forms.SomeSpan word v own is = absurd (cc own)
word-says forms.Rest word v own is = absurd (cc own)

-- ---- the words of a row

form-in : (fs : List Form) (place : ℕ) → list_all takes_none fs ≡ true
    → takes_none (get_or fs place forms.Hex) ≡ true
form-in [] place all = refl
form-in (f ∷ fs) zero all = (and_parts (takes_none f) (list_all takes_none fs) all).0
form-in (f ∷ fs) (suc place) all = form-in fs place (and_parts (takes_none f) (list_all takes_none fs) all).1

forms-own : (row : Row) → is_listed row ≡ true → list_all takes_none (forms_of row) ≡ true
forms-own rows.Power listed = refl
forms-own rows.ResetNormal listed = refl
forms-own rows.ResetBootsel listed = refl
forms-own rows.ResetUpdate listed = refl
forms-own rows.CutBefore listed = refl
forms-own rows.CutWithin listed = refl
forms-own rows.Buy listed = refl
forms-own rows.Exclusive listed = refl
forms-own rows.Erase listed = refl
forms-own rows.Read listed = refl
forms-own rows.Write listed = refl
forms-own rows.WriteRange listed = absurd (cc listed)
forms-own rows.WriteRest listed = absurd (cc listed)
forms-own rows.ExitXip listed = refl
forms-own rows.EnterXip listed = refl
forms-own rows.RebootNormal listed = refl
forms-own rows.RebootBootsel listed = refl
forms-own rows.RebootUpdate listed = refl
forms-own rows.RebootRam listed = refl
forms-own rows.OtpRead listed = refl
forms-own rows.OtpWrite listed = refl
forms-own rows.InfoTable listed = refl
forms-own rows.InfoTarget listed = refl
forms-own rows.InfoDevice listed = refl
forms-own rows.InfoPartition listed = refl
forms-own rows.Block listed = refl
forms-own rows.ImageBlock listed = absurd (cc listed)
forms-own rows.RawCommand listed = refl
forms-own rows.RawPayload listed = refl
forms-own rows.RawBlock listed = refl
forms-own rows.End listed = refl

values-say : (row : Row) (place : ℕ) (words : List (List ℕ)) (values : List ValueView) → is_listed row ≡ true
    → values_in row place words ≡ Ok values → MaySayAll row place values × (length values ≡ length words)
values-say row place [] values listed is =
    let e : [] ≡ values = cc is in
    subst (λ (vs : List ValueView). MaySayAll row place vs × (length vs ≡ 0)) e (tt, refl)
values-say row place (word ∷ words) values listed is =
    by_value (value_in (form_at row place) word) refl (values_in row (place + 1) words) refl
    (λ rest others. values-say row (place + 1) words rest listed others) is
  where
    by_value : (o : Option ValueView) → value_in (form_at row place) word ≡ o → (r : Result (List ValueView) ℕ)
        → values_in row (place + 1) words ≡ r
        → ((rest : List ValueView) → values_in row (place + 1) words ≡ Ok rest
        → MaySayAll row (place + 1) rest × (length rest ≡ length words))
        → with_value (place + 2) o r ≡ Ok values
        → MaySayAll row place values × (length values ≡ length (word ∷ words))
    by_value None first r others more same = absurd (cc same)
    by_value (Some v) first (Ok rest) others more same =
        let e : (v ∷ rest) ≡ values = cc same in
        let m = more rest others in
        subst (λ (vs : List ValueView). MaySayAll row place vs × (length vs ≡ length (word ∷ words))) e (
          (word-says (form_at row place) word v (form-in (forms_of row) place (forms-own row listed)) first, m.0),
          ap suc m.1,
        )
    by_value (Some v) first (Err n) others more same = absurd (cc same)

-- ---- the line

abbrev TokenIn : List ℕ → Option ℕ → Type 0
TokenIn first None = Unit {0}
TokenIn first (Some token) = (begins_command first ≡ true) × (token < 2 ^ 32)

record IsOf (first : List ℕ) (line : LineView) : Type 0 where
  words : List (List ℕ)
  first_is : first_word line.row ≡ first
  count : has_words line.row (length words) ≡ true
  values : values_in line.row 0 words ≡ Ok line.values
  token : TokenIn first line.token

row-of : (row : Row) (first : List ℕ) (words : List (List ℕ)) (line : LineView)
    → read_row row first words ≡ Ok line → IsOf first line
row-of row first words line is =
    by_test (bytes_eq (first_word row) first) (has_words row (length words)) (values_in row 0 words) refl refl refl is
  where
    by_test : (t u : Bool) (r : Result (List ValueView) ℕ) → bytes_eq (first_word row) first ≡ t
        → has_words row (length words) ≡ u → values_in row 0 words ≡ r
        → (if t && u then said_in row r else Err 0) ≡ Ok line → IsOf first line
    by_test true true (Ok values) begins count gives same =
        let e : said row values None ≡ line = cc same in
        subst (IsOf first) e (record {
          words = words;
          first_is = same-text (first_word row) first begins;
          count = count;
          values = gives;
          token = tt;
        })
    by_test true true (Err n) begins count gives same = absurd (cc same)
    by_test true false r begins count gives same = absurd (cc same)
    by_test false u r begins count gives same = absurd (cc same)

rows-of : (rs : List Row) (first : List ℕ) (words : List (List ℕ)) (line : LineView)
    → read_rows rs first words ≡ Ok line → IsOf first line
rows-of [] first words line is = absurd (cc is)
rows-of (row ∷ rs) first words line is =
    by_first (read_row row first words) (read_rows rs first words) refl refl
    (λ same. rows-of rs first words line same) is
  where
    by_first : (r s : Result LineView ℕ) → read_row row first words ≡ r → read_rows rs first words ≡ s
        → (read_rows rs first words ≡ Ok line → IsOf first line) → or_in r s ≡ Ok line → IsOf first line
    by_first (Ok l) s this others rest same = row-of row first words line (this ∙ same)
    by_first (Err n) (Ok l) this others rest same = rest (others ∙ same)
    by_first (Err n) (Err m) this others rest same = absurd (cc same)

record-of : (first : List ℕ) (words : List (List ℕ)) (line : LineView) → record_in first words ≡ Ok line
    → IsOf first line
record-of first words line is = by_found (read_rows ROWS first words) refl is
  where
    by_number : (t : Bool) (n : ℕ) → (if t then Err faults.Words else Err (faults.Value n)) ≡ Ok line → IsOf first line
    by_number true n same = absurd (cc same)
    by_number false n same = absurd (cc same)

    by_found : (r : Result LineView ℕ) → read_rows ROWS first words ≡ r → line_found r ≡ Ok line → IsOf first line
    by_found (Ok l) found same =
        let e : l ≡ line = cc same in rows-of ROWS first words line (found ∙ ap (λ (x : LineView). Ok x) e)
    by_found (Err n) found same = by_number (n == 0) n same

token-of : (first : List ℕ) (count : ℕ) (token : List ℕ) (words : List (List ℕ)) (line : LineView)
    → begins_command first ≡ true → with_token count token (record_in first words) ≡ Ok line → IsOf first line
token-of first count token words line command is = by_record (record_in first words) refl is
  where
    by_value : (l : LineView) → IsOf first l → (v : Option ValueView) → value_in (forms.HexBehind Token) token ≡ v
        → add_token (count + 2) v l ≡ Ok line → IsOf first line
    by_value l of None says same = absurd (cc same)
    by_value l of (Some Plain) says same = absurd (cc same)
    by_value l of (Some (Span a b)) says same = absurd (cc same)
    by_value l of (Some (Bytes bs)) says same = absurd (cc same)
    by_value l of (Some (Number n)) says same =
        let e : said l.row l.values (Some n) ≡ line = cc same in
        subst (IsOf first) e (record {
          words = of.words;
          first_is = of.first_is;
          count = of.count;
          values = of.values;
          token = (command, word-says (forms.HexBehind Token) token (Number n) refl says);
        })

    by_record : (r : Result LineView LineFault) → record_in first words ≡ r → with_token count token r ≡ Ok line
        → IsOf first line
    by_record (Err fault) found same = absurd (cc same)
    by_record (Ok l) found same =
        by_value l (record-of first words l found) (value_in (forms.HexBehind Token) token) refl same

line-of : (first : List ℕ) (words : List (List ℕ)) (line : LineView) → line_in (first ∷ words) ≡ Ok line
    → IsOf first line
line-of first words line is = by_tests (begins_record first) (begins_command first) refl is
  where
    by_token : (t : Bool) → begins_command first ≡ true
        → (if t then with_token (length (without_last words)) (last_word words) (record_in first (without_last words))
        else record_in first words) ≡ Ok line → IsOf first line
    by_token true command same =
        token-of first (length (without_last words)) (last_word words) (without_last words) line command same
    by_token false command same = record-of first words line same

    by_tests : (t u : Bool) → begins_command first ≡ u
        → (if not t then Err faults.Word else if u then command_in first words else record_in first words) ≡ Ok line
        → IsOf first line
    by_tests false u command same = absurd (cc same)
    by_tests true true command same = by_token (has_token (last_word words)) command same
    by_tests true false command same = record-of first words line same

only-commands : (row : Row) → begins_command (first_word row) ≡ true → is_command row ≡ true
only-commands rows.Power is = absurd (cc is)
only-commands rows.ResetNormal is = absurd (cc is)
only-commands rows.ResetBootsel is = absurd (cc is)
only-commands rows.ResetUpdate is = absurd (cc is)
only-commands rows.CutBefore is = absurd (cc is)
only-commands rows.CutWithin is = absurd (cc is)
only-commands rows.Buy is = absurd (cc is)
only-commands rows.Exclusive is = refl
only-commands rows.Erase is = refl
only-commands rows.Read is = refl
only-commands rows.Write is = refl
only-commands rows.WriteRange is = refl
only-commands rows.WriteRest is = refl
only-commands rows.ExitXip is = refl
only-commands rows.EnterXip is = refl
only-commands rows.RebootNormal is = refl
only-commands rows.RebootBootsel is = refl
only-commands rows.RebootUpdate is = refl
only-commands rows.RebootRam is = refl
only-commands rows.OtpRead is = refl
only-commands rows.OtpWrite is = refl
only-commands rows.InfoTable is = refl
only-commands rows.InfoTarget is = refl
only-commands rows.InfoDevice is = refl
only-commands rows.InfoPartition is = refl
only-commands rows.Block is = absurd (cc is)
only-commands rows.ImageBlock is = absurd (cc is)
only-commands rows.RawCommand is = absurd (cc is)
only-commands rows.RawPayload is = absurd (cc is)
only-commands rows.RawBlock is = absurd (cc is)
only-commands rows.End is = absurd (cc is)

token-says : (row : Row) (first : List ℕ) (token : Option ℕ) → first_word row ≡ first → TokenIn first token
    → HasToken row token
token-says row first None begins has = tt
token-says row first (Some t) begins has = (only-commands row (ap begins_command begins ∙ has.0), has.1)

-- what a line says that is read, and takes no bytes of an image, a line may say
pub read-says : (words : List (List ℕ)) (line : LineView) → line_in words ≡ Ok line → is_listed line.row ≡ true
    → IsLine line
read-says [] line is listed = absurd (cc is)
read-says (first ∷ words) line is listed =
    let of = line-of first words line is in
    let say = values-say line.row 0 of.words line.values listed of.values in record {
      count = ap (has_words line.row) say.1 ∙ of.count;
      values = say.0;
      token = token-says line.row first line.token of.first_is of.token;
    }

-- a line in words takes no bytes of an image
pub words-listed : (row : Row) → is_in_words row ≡ true → is_listed row ≡ true
words-listed rows.Power is = refl
words-listed rows.ResetNormal is = refl
words-listed rows.ResetBootsel is = refl
words-listed rows.ResetUpdate is = refl
words-listed rows.CutBefore is = refl
words-listed rows.CutWithin is = refl
words-listed rows.Buy is = refl
words-listed rows.Exclusive is = refl
words-listed rows.Erase is = refl
words-listed rows.Read is = refl
words-listed rows.Write is = refl
words-listed rows.WriteRange is = absurd (cc is)
words-listed rows.WriteRest is = absurd (cc is)
words-listed rows.ExitXip is = refl
words-listed rows.EnterXip is = refl
words-listed rows.RebootNormal is = refl
words-listed rows.RebootBootsel is = refl
words-listed rows.RebootUpdate is = refl
words-listed rows.RebootRam is = refl
words-listed rows.OtpRead is = refl
words-listed rows.OtpWrite is = refl
words-listed rows.InfoTable is = refl
words-listed rows.InfoTarget is = refl
words-listed rows.InfoDevice is = refl
words-listed rows.InfoPartition is = refl
words-listed rows.Block is = refl
words-listed rows.ImageBlock is = absurd (cc is)
words-listed rows.RawCommand is = refl
words-listed rows.RawPayload is = refl
words-listed rows.RawBlock is = refl
words-listed rows.End is = refl
