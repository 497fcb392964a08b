-- The words of a line with or without its token are read as the line.
use Rattle.std.proofs.Common.{◌≡◌, ℕ, zero, suc, ◌+◌, ◌-◌, ◌^◌, ◌<◌, Bool, true, false, List, [], ◌∷◌, ◌++◌, length, take, get_or, Option, Some, None, refl, sym, ap, ◌∙◌, arith, decimal, append-nil, length-append}
use Rattle.std.specs.List.{list_all}
use Rattle.std.proofs.lemmas.Bool.{and_parts}
use Rattle.std.specs.Prelude.{Ok, IfSome, if◌then◌else◌, ◌&&◌, not, codes, is_some}
use Rattle.std.specs.Str.{all_ascii_digits}
use Rattle.hex.specs.Hex.{IsBytes, encode_lower}
use Rattle.text_words.specs.Reading.{are_digits, behind_word}
use Rattle.text_words.specs.Writing.{hex_word}
use Rattle.text_words.proofs.BytesLemmas.{digits-encode, word-follows}
use Rattle.text_words.proofs.NumberBackLemmas.{decimal-digits}
use Rattle.script_words.specs.declared.forms.Form.{Form}
use Rattle.script_words.specs.declared.forms.Form.TheVariants as forms
use Rattle.script_words.specs.declared.forms.Keyword.{Keyword}
use Rattle.script_words.specs.declared.forms.Keyword.TheVariants as keys
use Rattle.script_words.specs.declared.rows.Row.{Row}
use Rattle.script_words.specs.declared.rows.Row.TheVariants as rows
use Rattle.script_words.specs.Forms.{keyword_text}
use Rattle.script_words.specs.Rows.{first_word, form_at, forms_of, is_command}
use Rattle.script_words.specs.Values.{LineView, ValueView, Plain, Number, Span, Bytes, said}
use Rattle.script_words.specs.Finding.{add_token, begins_command, begins_record, has_token, last_word, line_in, record_in, with_token, without_last}
use Rattle.script_words.specs.Spelling.{family_name, name_or_number, range_text, spelled, token_words, value_words}
use Rattle.script_words.specs.Saying.{HasToken, IsLine, MaySay, MaySayAll, line_words}
use Rattle.law_scripts.specs.Listed.{is_listed}
use Rattle.law_scripts.proofs.WordBackLemmas.{value-back}
use Rattle.law_scripts.proofs.LineBackLemmas.{record-back}

-- ---- no other word is a token's

no-token : (w : List ℕ) → ((t : List ℕ) → w ≡ codes "token=" ++ t → ⊥) → has_token w ≡ false
no-token w other = by_behind (behind_word (codes "token=") w) (word-follows (codes "token=") w)
  where
    by_behind : (o : Option (List ℕ)) → IfSome o (λ text. w ≡ codes "token=" ++ text) → is_some o ≡ false
    by_behind None follows = refl
    by_behind (Some text) follows = absurd (other text follows)

decimal-other : (n : ℕ) → n < 2 ^ 32 → has_token (decimal n) ≡ false
decimal-other n small =
    no-token (decimal n) (λ t is. absurd (cc (sym (decimal-digits n (omega (arith, small))) ∙ ap all_ascii_digits is)))

bytes-other : (bytes : List ℕ) → IsBytes bytes → has_token (encode_lower bytes) ≡ false
bytes-other bytes are =
    no-token (encode_lower bytes) (λ t is. absurd (cc (sym (digits-encode bytes are) ∙ ap are_digits is)))

abbrev is_token_key : Keyword → Bool
is_token_key keys.Token = true
is_token_key key = false

abbrev is_token_form : Form → Bool
is_token_form (forms.Is key) = is_token_key key
is_token_form (forms.NumberBehind key) = is_token_key key
is_token_form (forms.HexBehind key) = is_token_key key
is_token_form (forms.SpanBehind key) = is_token_key key
is_token_form form = false

-- a word that begins with another keyword is none
key-other : (key : Keyword) (rest : List ℕ) → is_token_key key ≡ false → has_token (keyword_text key ++ rest) ≡ false
key-other keys.Normal rest other = refl
key-other keys.Bootsel rest other = refl
key-other keys.Update rest other = refl
key-other keys.Ram rest other = refl
key-other keys.Before rest other = refl
key-other keys.Within rest other = refl
key-other keys.Table rest other = refl
key-other keys.Target rest other = refl
key-other keys.Device rest other = refl
key-other keys.Partition rest other = refl
key-other keys.Of rest other = refl
key-other keys.At rest other = refl
key-other keys.Image rest other = refl
key-other keys.Family rest other = refl
key-other keys.Token rest other = absurd (cc other)

word-other : (form : Form) (value : ValueView) → is_token_form form ≡ false → MaySay form value
    → has_token (spelled form value) ≡ false
word-other (forms.Is key) Plain other may =
    ap has_token (sym (append-nil (keyword_text key))) ∙ key-other key [] other
word-other (forms.Number most) (Number n) other may = decimal-other n may.1
word-other (forms.NumberBehind key) (Number n) other may = key-other key (decimal n) other
word-other forms.Hex (Number n) other may = refl
word-other (forms.HexBehind key) (Number n) other may = key-other key (hex_word n) other
word-other forms.OtpRow (Number n) other may = refl
word-other forms.Span (Span start size) other may = refl
word-other (forms.SpanBehind key) (Span start size) other may = key-other key (range_text start size) other
word-other (forms.Bytes least most) (Bytes bytes) other may = bytes-other bytes may.0
word-other forms.Family (Number n) other may = by_name (family_name n)
  where
    by_name : (name : Option (List ℕ)) → has_token (name_or_number n name) ≡ false
    by_name None = refl
    by_name (Some name) = refl
word-other (forms.Is key) (Number n) other may = absurd may
word-other (forms.Is key) (Span m n) other may = absurd may
word-other (forms.Is key) (Bytes bs) other may = absurd may
word-other (forms.Number most) Plain other may = absurd may
word-other (forms.Number most) (Span m n) other may = absurd may
word-other (forms.Number most) (Bytes bs) other may = absurd may
word-other (forms.NumberBehind key) Plain other may = absurd may
word-other (forms.NumberBehind key) (Span m n) other may = absurd may
word-other (forms.NumberBehind key) (Bytes bs) other may = absurd may
word-other forms.Hex Plain other may = absurd may
word-other forms.Hex (Span m n) other may = absurd may
word-other forms.Hex (Bytes bs) other may = absurd may
word-other (forms.HexBehind key) Plain other may = absurd may
word-other (forms.HexBehind key) (Span m n) other may = absurd may
word-other (forms.HexBehind key) (Bytes bs) other may = absurd may
word-other forms.OtpRow Plain other may = absurd may
word-other forms.OtpRow (Span m n) other may = absurd may
word-other forms.OtpRow (Bytes bs) other may = absurd may
word-other forms.Span Plain other may = absurd may
word-other forms.Span (Number n) other may = absurd may
word-other forms.Span (Bytes bs) other may = absurd may
word-other (forms.SpanBehind key) Plain other may = absurd may
word-other (forms.SpanBehind key) (Number n) other may = absurd may
word-other (forms.SpanBehind key) (Bytes bs) other may = absurd may
word-other forms.SomeSpan value other may = absurd may
word-other forms.Rest value other may = absurd may
word-other (forms.Bytes least most) Plain other may = absurd may
word-other (forms.Bytes least most) (Number n) other may = absurd may
word-other (forms.Bytes least most) (Span m n) other may = absurd may
word-other forms.Family Plain other may = absurd may
word-other forms.Family (Span m n) other may = absurd may
word-other forms.Family (Bytes bs) other may = absurd may

-- ---- the last word

form-in : (fs : List Form) (place : ℕ) → list_all (λ f. not (is_token_form f)) fs ≡ true
    → is_token_form (get_or fs place forms.Hex) ≡ false
form-in [] place all = refl
form-in (f ∷ fs) zero all = by_form (is_token_form f) (and_parts (not (is_token_form f)) _ all).0
  where
    by_form : (t : Bool) → not t ≡ true → t ≡ false
    by_form true other = absurd (cc other)
    by_form false other = refl
form-in (f ∷ fs) (suc place) all = form-in fs place (and_parts (not (is_token_form f)) _ all).1

forms-other : (row : Row) → list_all (λ f. not (is_token_form f)) (forms_of row) ≡ true
forms-other rows.Power = refl
forms-other rows.ResetNormal = refl
forms-other rows.ResetBootsel = refl
forms-other rows.ResetUpdate = refl
forms-other rows.CutBefore = refl
forms-other rows.CutWithin = refl
forms-other rows.Buy = refl
forms-other rows.Exclusive = refl
forms-other rows.Erase = refl
forms-other rows.Read = refl
forms-other rows.Write = refl
forms-other rows.WriteRange = refl
forms-other rows.WriteRest = refl
forms-other rows.ExitXip = refl
forms-other rows.EnterXip = refl
forms-other rows.RebootNormal = refl
forms-other rows.RebootBootsel = refl
forms-other rows.RebootUpdate = refl
forms-other rows.RebootRam = refl
forms-other rows.OtpRead = refl
forms-other rows.OtpWrite = refl
forms-other rows.InfoTable = refl
forms-other rows.InfoTarget = refl
forms-other rows.InfoDevice = refl
forms-other rows.InfoPartition = refl
forms-other rows.Block = refl
forms-other rows.ImageBlock = refl
forms-other rows.RawCommand = refl
forms-other rows.RawPayload = refl
forms-other rows.RawBlock = refl
forms-other rows.End = refl

last-more : (v w : List ℕ) (ws : List (List ℕ)) → last_word (v ∷ w ∷ ws) ≡ last_word (w ∷ ws)
last-more v w ws =
    let e : length (v ∷ w ∷ ws) - 1 ≡ suc (length (w ∷ ws) - 1) = omega arith in
    ap (λ k. get_or (v ∷ w ∷ ws) k []) e

last-other : (row : Row) (place : ℕ) (values : List ValueView) → MaySayAll row place values
    → has_token (last_word (value_words row place values)) ≡ false
last-other row place [] may = refl
last-other row place (v ∷ []) may =
    word-other (form_at row place) v (form-in (forms_of row) place (forms-other row)) may.0
last-other row place (v ∷ w ∷ values) may =
    ap has_token (last-more (spelled (form_at row place) v) (spelled (form_at row (place + 1)) w)
    (value_words row (place + 1 + 1) values))
    ∙ last-other row (place + 1) (w ∷ values) may.1

last-added : (ws : List (List ℕ)) (w : List ℕ) → last_word (ws ++ (w ∷ [])) ≡ w
last-added [] w = refl
last-added (v ∷ []) w = last-more v w []
last-added (v ∷ u ∷ ws) w = last-more v u (ws ++ (w ∷ [])) ∙ last-added (u ∷ ws) w

before-added : (ws : List (List ℕ)) (w : List ℕ) → without_last (ws ++ (w ∷ [])) ≡ ws
before-added ws w =
    let e : length (ws ++ (w ∷ [])) - 1 ≡ length ws = omega (arith, length-append ws (w ∷ [])) in
    ap (λ k. take k (ws ++ (w ∷ []))) e ∙ front ws
  where
    front : (vs : List (List ℕ)) → take (length vs) (vs ++ (w ∷ [])) ≡ vs
    front [] = refl
    front (v ∷ vs) = ap (λ xs. v ∷ xs) (front vs)

-- ---- first words

pub begins : (row : Row) → begins_record (first_word row) ≡ true
begins rows.Power = refl
begins rows.ResetNormal = refl
begins rows.ResetBootsel = refl
begins rows.ResetUpdate = refl
begins rows.CutBefore = refl
begins rows.CutWithin = refl
begins rows.Buy = refl
begins rows.Exclusive = refl
begins rows.Erase = refl
begins rows.Read = refl
begins rows.Write = refl
begins rows.WriteRange = refl
begins rows.WriteRest = refl
begins rows.ExitXip = refl
begins rows.EnterXip = refl
begins rows.RebootNormal = refl
begins rows.RebootBootsel = refl
begins rows.RebootUpdate = refl
begins rows.RebootRam = refl
begins rows.OtpRead = refl
begins rows.OtpWrite = refl
begins rows.InfoTable = refl
begins rows.InfoTarget = refl
begins rows.InfoDevice = refl
begins rows.InfoPartition = refl
begins rows.Block = refl
begins rows.ImageBlock = refl
begins rows.RawCommand = refl
begins rows.RawPayload = refl
begins rows.RawBlock = refl
begins rows.End = refl

commands : (row : Row) → is_command row ≡ true → begins_command (first_word row) ≡ true
commands rows.Power is = absurd (cc is)
commands rows.ResetNormal is = absurd (cc is)
commands rows.ResetBootsel is = absurd (cc is)
commands rows.ResetUpdate is = absurd (cc is)
commands rows.CutBefore is = absurd (cc is)
commands rows.CutWithin is = absurd (cc is)
commands rows.Buy is = absurd (cc is)
commands rows.Exclusive is = refl
commands rows.Erase is = refl
commands rows.Read is = refl
commands rows.Write is = refl
commands rows.WriteRange is = refl
commands rows.WriteRest is = refl
commands rows.ExitXip is = refl
commands rows.EnterXip is = refl
commands rows.RebootNormal is = refl
commands rows.RebootBootsel is = refl
commands rows.RebootUpdate is = refl
commands rows.RebootRam is = refl
commands rows.OtpRead is = refl
commands rows.OtpWrite is = refl
commands rows.InfoTable is = refl
commands rows.InfoTarget is = refl
commands rows.InfoDevice is = refl
commands rows.InfoPartition is = refl
commands rows.Block is = absurd (cc is)
commands rows.ImageBlock is = absurd (cc is)
commands rows.RawCommand is = absurd (cc is)
commands rows.RawPayload is = absurd (cc is)
commands rows.RawBlock is = absurd (cc is)
commands rows.End is = absurd (cc is)

line-by : (first : List ℕ) (words : List (List ℕ)) (t : Bool) → begins_record first ≡ true
    → (begins_command first && has_token (last_word words)) ≡ t
    → line_in (first ∷ words)
    ≡ (if t then with_token (length (without_last words)) (last_word words) (record_in first (without_last words))
    else record_in first words)
line-by first words t record_is token = by_tests (begins_command first) (has_token (last_word words)) refl refl token
  where
    by_tests : (c h : Bool) → begins_command first ≡ c → has_token (last_word words) ≡ h → (c && h) ≡ t
        → line_in (first ∷ words)
        ≡ (if t then with_token (length (without_last words)) (last_word words) (record_in first (without_last words))
        else record_in first words)
    by_tests true true command_is token_is same = rw (record_is, command_is, token_is, ← same) refl
    by_tests true false command_is token_is same = rw (record_is, command_is, token_is, ← same) refl
    by_tests false h command_is token_is same = rw (record_is, command_is, ← same) refl

and-false : (t u : Bool) → u ≡ false → (t && u) ≡ false
and-false true u is = is
and-false false u is = refl

-- the words of what a line says are read as this
pub line-back : (line : LineView) → is_listed line.row ≡ true → IsLine line → line_in (line_words line) ≡ Ok line
line-back line listed is = by_token line.token refl is.token
  where
    by_token : (o : Option ℕ) → line.token ≡ o → HasToken line.row o → line_in (line_words line) ≡ Ok line
    by_token None none has =
        ap (λ o. line_in (first_word line.row ∷ (value_words line.row 0 line.values ++ token_words o))) none
        ∙ ap (λ ws. line_in (first_word line.row ∷ ws)) (append-nil (value_words line.row 0 line.values))
        ∙ line-by (first_word line.row) (value_words line.row 0 line.values) false (begins line.row)
        (and-false (begins_command (first_word line.row)) (has_token (last_word (value_words line.row 0 line.values)))
        (last-other line.row 0 line.values is.values))
        ∙ record-back line.row line.values listed is.count is.values
        ∙ ap (λ o. Ok (said line.row line.values o)) (sym none)
    by_token (Some t) some has =
        let word = codes "token=" ++ hex_word t in
        let last = last-added (value_words line.row 0 line.values) word in
        let before = before-added (value_words line.row 0 line.values) word in
        ap (λ o. line_in (first_word line.row ∷ (value_words line.row 0 line.values ++ token_words o))) some
        ∙ line-by (first_word line.row) (value_words line.row 0 line.values ++ (word ∷ [])) true (begins line.row)
        (ap (λ b. b && has_token (last_word (value_words line.row 0 line.values ++ (word ∷ [])))) (commands line.row has.0)
        ∙ ap has_token last)
        ∙ ap (λ w. with_token (length (without_last (value_words line.row 0 line.values ++ (word ∷ [])))) w
        (record_in (first_word line.row) (without_last (value_words line.row 0 line.values ++ (word ∷ []))))) last
        ∙ ap (λ ws. with_token (length ws) word (record_in (first_word line.row) ws)) before
        ∙ ap (with_token (length (value_words line.row 0 line.values)) word)
        (record-back line.row line.values listed is.count is.values)
        ∙ ap (λ o. add_token (length (value_words line.row 0 line.values) + 2) o (said line.row line.values None))
        (value-back (forms.HexBehind keys.Token) (Number t) has.1)
        ∙ ap (λ o. Ok (said line.row line.values o)) (sym some)
