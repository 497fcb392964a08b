-- The pattern of a cut that a line gives.
use Rattle.std.proofs.Common.{◌≡◌, ℕ, ◌+◌, ◌≤◌, ◌==◌, Bool, true, false, not, List, [], ◌∷◌, length, Option, Some, None, refl, sym, ap, subst, ◌∙◌, arith}
use Rattle.std.specs.Prelude.{Result, Ok, Err, if◌then◌else◌, ◌&&◌, nat_le, bytes_eq, option_and_then, option_map}
use Rattle.std.specs.Result.{result_ok}
use Rattle.std.proofs.lemmas.Bool.{eqb-true, leb-true}
use Rattle.hex.specs.Hex.{decode_of}
use Rattle.pico_board.specs.Cuts.{IsPattern}
use Rattle.boot_script.specs.Events.{EventView}
use Rattle.script_words.specs.declared.fault.LineFault.{LineFault}
use Rattle.script_words.specs.declared.fault.LineFault.TheVariants as faults
use Rattle.script_words.specs.declared.forms.Form.TheVariants as forms
use Rattle.script_words.specs.declared.forms.Form.TheVariants.{HexBehind}
use Rattle.script_words.specs.declared.forms.Keyword.TheVariants.{Token, Within}
use Rattle.script_words.specs.declared.rows.Row.{Row}
use Rattle.script_words.specs.declared.rows.Row.TheVariants as rows
use Rattle.script_words.specs.declared.rows.TheConstants.{ROWS}
use Rattle.script_words.specs.Rows.{any_number, first_word, has_words, is_command}
use Rattle.script_words.specs.Values.{LineView, ValueView, Plain, Number, Span, Bytes, said, sized, value_in}
use Rattle.script_words.specs.Finding.{add_token, begins_command, begins_record, command_in, has_token, last_word, line_found, line_in, or_in, read_row, read_rows, record_in, said_in, values_in, with_token, with_value, without_last}
use Rattle.script_words.specs.Made.{HasPattern, bytes_at, image_bytes, made, made_command, made_of_image, made_own, made_plain, own_payload}

-- the words behind the first of a line, which have the forms of its row
pub record HasForms (line : LineView) : Type 0 where
  pub words : List (List ℕ)
  pub count : has_words line.row (length words) ≡ true
  pub values : values_in line.row 0 words ≡ Ok line.values

forms-row : (row : Row) (first : List ℕ) (words : List (List ℕ)) (line : LineView)
    → read_row row first words ≡ Ok line → HasForms line
forms-row row first words line is =
    by_test (bytes_eq (first_word row) first) (has_words row (length words)) (values_in row 0 words) refl refl is
  where
    by_test : (t u : Bool) (r : Result (List ValueView) ℕ) → has_words row (length words) ≡ u
        → values_in row 0 words ≡ r
        → (if t && u then said_in row r else Err 0) ≡ Ok line → HasForms line
    by_test true true (Ok values) count gives same =
        let e : said row values None ≡ line = cc same in
        subst HasForms e (record { words = words; count = count; values = gives })
    by_test true true (Err number) count gives same = absurd (cc same)
    by_test true false r count gives same = absurd (cc same)
    by_test false u r count gives same = absurd (cc same)

forms-rows : (rs : List Row) (first : List ℕ) (words : List (List ℕ)) (line : LineView)
    → read_rows rs first words ≡ Ok line → HasForms line
forms-rows [] first words line is = absurd (cc is)
forms-rows (row ∷ rs) first words line is =
    by_first (read_row row first words) (read_rows rs first words) refl refl
    (λ same. forms-rows rs first words line same) is
  where
    by_first : (r s : Result LineView ℕ) → read_row row first words ≡ r → read_rows rs first words ≡ s
        → (read_rows rs first words ≡ Ok line → HasForms line) → or_in r s ≡ Ok line → HasForms line
    by_first (Ok l) s this others rest same = forms-row row first words line (this ∙ same)
    by_first (Err n) (Ok l) this others rest same = rest (others ∙ same)
    by_first (Err n) (Err m) this others rest same = absurd (cc same)

no-line : (line : LineView) (n : ℕ) (t : Bool)
    → (if t then Err faults.Words else Err (faults.Value n)) ≡ Ok line → HasForms line
no-line line n true same = absurd (cc same)
no-line line n false same = absurd (cc same)

forms-record : (first : List ℕ) (words : List (List ℕ)) (line : LineView) → record_in first words ≡ Ok line
    → HasForms line
forms-record first words line is = by_found (read_rows ROWS first words) refl is
  where
    by_found : (r : Result LineView ℕ) → read_rows ROWS first words ≡ r → line_found r ≡ Ok line → HasForms line
    by_found (Ok l) found same =
        let e : l ≡ line = cc same in forms-rows ROWS first words line (found ∙ ap Ok e)
    by_found (Err n) found same = no-line line n (n == 0) same

-- a token changes neither the row nor the values
same-forms : (line new : LineView) (token : Option ℕ) → new ≡ said line.row line.values token → HasForms line
    → HasForms new
same-forms line new token is forms = subst HasForms (sym is) (record {
  words = forms.words;
  count = forms.count;
  values = forms.values;
})

forms-token : (count : ℕ) (token : List ℕ) (r : Result LineView LineFault) (line : LineView)
    → ((l : LineView) → r ≡ Ok l → HasForms l) → with_token count token r ≡ Ok line → HasForms line
forms-token count token (Err fault) line forms is = absurd (cc is)
forms-token count token (Ok l) line forms is = by_value (value_in (HexBehind Token) token) is
  where
    by_value : (v : Option ValueView) → add_token (count + 2) v l ≡ Ok line → HasForms line
    by_value None same = absurd (cc same)
    by_value (Some Plain) same = absurd (cc same)
    by_value (Some (Span a b)) same = absurd (cc same)
    by_value (Some (Bytes bs)) same = absurd (cc same)
    by_value (Some (Number n)) same =
        let e : line ≡ said l.row l.values (Some n) = cc same in same-forms l line (Some n) e (forms l refl)

forms-command : (first : List ℕ) (words : List (List ℕ)) (line : LineView) (t : Bool)
    → (if t then with_token (length (without_last words)) (last_word words) (record_in first (without_last words))
    else record_in first words) ≡ Ok line → HasForms line
forms-command first words line true same =
    forms-token (length (without_last words)) (last_word words) (record_in first (without_last words)) line
    (λ l is_l. forms-record first (without_last words) l is_l) same
forms-command first words line false same = forms-record first words line same

-- what a line says are values of the forms of its row
pub forms-of-line : (words : List (List ℕ)) (line : LineView) → line_in words ≡ Ok line → HasForms line
forms-of-line [] line is = absurd (cc is)
forms-of-line (first ∷ words) line is =
    by_test (begins_record first) (begins_command first) is
  where
    by_test : (t u : Bool) → (if not t then Err faults.Word else if u then command_in first words
        else record_in first words) ≡ Ok line → HasForms line
    by_test false u same = absurd (cc same)
    by_test true true same = forms-command first words line (has_token (last_word words)) same
    by_test true false same = forms-record first words line same

-- ---- patterns

-- bytes of a form have its size
record AreSized (least most : ℕ) (v : ValueView) : Type 0 where
  bytes : List ℕ
  is : v ≡ Bytes bytes
  some : least ≤ length bytes
  few : length bytes ≤ most

sized-of : (least most : ℕ) (word : List ℕ) (v : ValueView) → value_in (forms.Bytes least most) word ≡ Some v
    → AreSized least most v
sized-of least most word v is = by_bytes (result_ok (decode_of word)) is
  where
    by_size : (bytes : List ℕ) (t u : Bool) → nat_le least (length bytes) ≡ t → nat_le (length bytes) most ≡ u
        → option_map Bytes (if t && u then Some bytes else None) ≡ Some v → AreSized least most v
    by_size bytes true true low high same = record {
      bytes = bytes;
      is = cc same;
      some = leb-true least (length bytes) low;
      few = leb-true (length bytes) most high;
    }
    by_size bytes true false low high same = absurd (cc same)
    by_size bytes false u low high same = absurd (cc same)

    by_bytes : (found : Option (List ℕ)) → option_map Bytes (option_and_then (sized least most) found) ≡ Some v
        → AreSized least most v
    by_bytes None same = absurd (cc same)
    by_bytes (Some bytes) same =
        by_size bytes (nat_le least (length bytes)) (nat_le (length bytes) most) refl refl same

-- the value at the front, and the others
record IsFront (n : ℕ) (found : Option ValueView) (others : Result (List ValueView) ℕ) (values : List ValueView)
    : Type 0 where
  value : ValueView
  rest : List ValueView
  first : found ≡ Some value
  more : others ≡ Ok rest
  all : values ≡ value ∷ rest

front-of : (n : ℕ) (found : Option ValueView) (others : Result (List ValueView) ℕ) (values : List ValueView)
    → with_value n found others ≡ Ok values → IsFront n found others values
front-of n None others values is = absurd (cc is)
front-of n (Some value) (Ok rest) values is =
    record { value = value; rest = rest; first = refl; more = refl; all = cc is }
front-of n (Some value) (Err other) values is = absurd (cc is)

-- a cut within a step has a pattern of its size
pattern-of : (words : List (List ℕ)) (values : List ValueView) → length words ≡ 3
    → values_in rows.CutWithin 0 words ≡ Ok values → IsPattern true (bytes_at values 2)
pattern-of (a ∷ b ∷ c ∷ []) values long is =
    let f = front-of 2 (value_in any_number a) (values_in rows.CutWithin 1 (b ∷ c ∷ [])) values is in
    let g = front-of 3 (value_in (forms.Is Within) b) (values_in rows.CutWithin 2 (c ∷ [])) f.rest f.more in
    let h = front-of 4 (value_in (forms.Bytes 1 4096) c) (Ok []) g.rest g.more in
    let s = sized-of 1 4096 c h.value h.first in
    let all : values ≡ f.value ∷ g.value ∷ Bytes s.bytes ∷ h.rest =
    f.all ∙ ap (λ vs. f.value ∷ vs) (g.all ∙ ap (λ vs. g.value ∷ vs) (h.all ∙ ap (λ v. v ∷ h.rest) s.is)) in
    subst (λ (vs : List ValueView). IsPattern true (bytes_at vs 2)) (sym all) (s.some, s.few)
pattern-of [] values long is = absurd (omega (arith, long))
pattern-of (a ∷ []) values long is = absurd (omega (arith, long))
pattern-of (a ∷ b ∷ []) values long is = absurd (omega (arith, long))
pattern-of (a ∷ b ∷ c ∷ d ∷ words) values long is = absurd (omega (arith, long))

abbrev CutFits : Row → List ValueView → Type 0
CutFits rows.CutWithin values = IsPattern true (bytes_at values 2)
CutFits row values = Unit {0}

cut-fits : (row : Row) (words : List (List ℕ)) (values : List ValueView) → has_words row (length words) ≡ true
    → values_in row 0 words ≡ Ok values → CutFits row values
cut-fits rows.CutWithin words values count is = pattern-of words values (eqb-true (length words) 3 count) is
cut-fits _ words values count is = tt

plain-pattern : (row : Row) (values : List ValueView) → CutFits row values → HasPattern (made_plain row values)
plain-pattern rows.CutWithin values fits = fits
plain-pattern rows.CutBefore values fits = refl
plain-pattern _ values fits = tt

image-pattern : (row : Row) (values : List ValueView) (token : ℕ) (bytes : List ℕ)
    → HasPattern (made_of_image row values token bytes)
image-pattern rows.ImageBlock values token bytes = tt
image-pattern _ values token bytes = tt

taken-pattern : (row : Row) (values : List ValueView) (token : ℕ) (found : Option (List ℕ)) (e : EventView)
    → option_map (made_of_image row values token) found ≡ Some e → HasPattern e
taken-pattern row values token None e is = absurd (cc is)
taken-pattern row values token (Some bytes) e is =
    let same : made_of_image row values token bytes ≡ e = cc is in
    subst HasPattern same (image-pattern row values token bytes)

own-pattern : (row : Row) (values : List ValueView) (token : ℕ) (t : Bool) → CutFits row values
    → HasPattern (if t then made_command row values token (own_payload row values) else made_plain row values)
own-pattern row values token true fits = tt
own-pattern row values token false fits = plain-pattern row values fits

own-is : (row : Row) (values : List ValueView) (token : ℕ) (image : List ℕ) (e : EventView)
    → Some (made_own row values token) ≡ Some e → made_own row values token ≡ e
own-is row values token image e is = cc is

made-pattern : (row : Row) (values : List ValueView) (token : ℕ) (image : List ℕ) (e : EventView)
    → CutFits row values → made row values token image ≡ Some e → HasPattern e
made-pattern rows.WriteRange values token image e fits is =
    taken-pattern rows.WriteRange values token (image_bytes rows.WriteRange values image) e is
made-pattern rows.WriteRest values token image e fits is =
    taken-pattern rows.WriteRest values token (image_bytes rows.WriteRest values image) e is
made-pattern rows.ImageBlock values token image e fits is =
    taken-pattern rows.ImageBlock values token (image_bytes rows.ImageBlock values image) e is
made-pattern row values token image e fits is =
    let same : made_own row values token ≡ e = own-is row values token image e is in
    subst HasPattern same (own-pattern row values token (is_command row) fits)

-- the event that a line gives has a pattern that goes with its part
pub line-pattern : (words : List (List ℕ)) (line : LineView) (token : ℕ) (image : List ℕ) (e : EventView)
    → line_in words ≡ Ok line → made line.row line.values token image ≡ Some e → HasPattern e
line-pattern words line token image e is gives =
    let forms = forms-of-line words line is in
    made-pattern line.row line.values token image e
    (cut-fits line.row forms.words line.values forms.count forms.values) gives
