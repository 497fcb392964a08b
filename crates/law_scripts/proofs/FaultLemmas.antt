-- The fault of a line's words is the first.
use Rattle.std.proofs.Common.{◌≡◌, ◌≢◌, ℕ, zero, suc, ◌+◌, ◌-◌, ◌<◌, ◌≤◌, ◌==◌, Bool, true, false, List, [], ◌∷◌, length, take, get_or, Option, Some, None, refl, sym, ap, subst, ◌∙◌, arith, inl, inr}
use Rattle.std.specs.Prelude.{◌⊎◌, Result, Ok, Err, if◌then◌else◌, ◌&&◌, bytes_eq, max, option_map, option_and_then}
use Rattle.std.specs.List.{AllByRecursion, list_any}
use Rattle.std.proofs.lemmas.Bool.{and_parts, cases_eq, cases_lt, eqb-true, or_cases}
use Rattle.text_words.specs.Reading.{behind_word}
use Rattle.text_words.proofs.BytesLemmas.{same-text}
use Rattle.pico_board.proofs.FileListLemmas.{bytes_eq-same}
use Rattle.script_words.specs.declared.fault.LineFault.{LineFault}
use Rattle.script_words.specs.declared.fault.LineFault.TheVariants as faults
use Rattle.script_words.specs.declared.forms.Form.TheVariants as forms
use Rattle.script_words.specs.declared.forms.Keyword.TheVariants as keys
use Rattle.script_words.specs.declared.rows.Row.{Row}
use Rattle.script_words.specs.declared.rows.TheConstants.{ROWS}
use Rattle.script_words.specs.Finding.{add_token, begins_command, begins_record, has_token, last_word, line_found, line_in, or_in, read_row, read_rows, record_in, said_in, values_in, with_token, with_value, without_last}
use Rattle.script_words.specs.Forms.{keyword_text}
use Rattle.script_words.specs.Rows.{first_word, form_at, has_words}
use Rattle.script_words.specs.Values.{LineView, ValueView, Number, hex_word_in, said, value_in}
use Rattle.law_scripts.specs.Faults.{HasRow, IsFirstWrong, IsOfForm, IsRowOf, IsTokenWrong, IsWordsFault, counted}
use Rattle.law_scripts.proofs.TableLemmas.{differing, of-row, same-form}
use Rattle.law_scripts.proofs.TokenBackLemmas.{begins}

-- ---- the words of a row

abbrev HasValue : Row → ℕ → List (List ℕ) → ℕ → Type 0
HasValue row place words i = (value : ValueView) × (value_in (form_at row (place + i)) (get_or words i []) ≡ Some value)

record WrongAt (row : Row) (place : ℕ) (words : List (List ℕ)) (number : ℕ) : Type 0 where
  at : ℕ
  inside : at < length words
  is : number ≡ place + at + 2
  before : (i : ℕ) → i < at → HasValue row place words i
  wrong : value_in (form_at row (place + at)) (get_or words at []) ≡ None

here : (row : Row) (place : ℕ) (word : List ℕ) (o : Option ValueView) → value_in (form_at row place) word ≡ o
    → value_in (form_at row (place + 0)) word ≡ o
here row place word o is = let e : place + 0 ≡ place = omega arith in ap (λ k. value_in (form_at row k) word) e ∙ is

there : (row : Row) (place i : ℕ) (word : List ℕ) (o : Option ValueView)
    → value_in (form_at row (place + 1 + i)) word ≡ o → value_in (form_at row (place + suc i)) word ≡ o
there row place i word o is =
    let e : place + suc i ≡ place + 1 + i = omega arith in ap (λ k. value_in (form_at row k) word) e ∙ is

abbrev ValuesOk : Row → ℕ → List (List ℕ) → Type 0
ValuesOk row place words = (i : ℕ) → i < length words → HasValue row place words i

more-ok : (row : Row) (place : ℕ) (word : List ℕ) (words : List (List ℕ)) (value : ValueView)
    → value_in (form_at row place) word ≡ Some value → (most : ℕ)
    → ((i : ℕ) → i < most → HasValue row (place + 1) words i)
    → (i : ℕ) → i < suc most → HasValue row place (word ∷ words) i
more-ok row place word words value is most others zero few = (value, here row place word (Some value) is)
more-ok row place word words value is most others (suc i) few =
    let other = others i (omega (arith, few)) in
    (other.0, there row place i (get_or words i []) (Some other.0) other.1)

values-ok : (row : Row) (place : ℕ) (words : List (List ℕ)) (values : List ValueView)
    → values_in row place words ≡ Ok values → ValuesOk row place words
values-ok row place [] values is = λ i few. absurd (omega (arith, few))
values-ok row place (word ∷ words) values is =
    by_value (λ rest others. values-ok row (place + 1) words rest others) (value_in (form_at row place) word) refl
    (values_in row (place + 1) words) refl is
  where
    by_value : ((rest : List ValueView) → values_in row (place + 1) words ≡ Ok rest → ValuesOk row (place + 1) words)
        → (o : Option ValueView) → value_in (form_at row place) word ≡ o → (r : Result (List ValueView) ℕ)
        → values_in row (place + 1) words ≡ r → with_value (place + 2) o r ≡ Ok values
        → ValuesOk row place (word ∷ words)
    by_value more None first r others same = absurd (cc same)
    by_value more (Some value) first (Ok rest) others same =
        more-ok row place word words value first (length words) (more rest others)
    by_value more (Some value) first (Err number) others same = absurd (cc same)

err-same : {T : Type 0} (m n : ℕ) → ◌≡◌ {A = Result T ℕ} (Err m) (Err n) → m ≡ n
err-same m n same = cc same

values-wrong : (row : Row) (place : ℕ) (words : List (List ℕ)) (number : ℕ)
    → values_in row place words ≡ Err number → WrongAt row place words number
values-wrong row place [] number is = absurd (cc is)
values-wrong row place (word ∷ words) number is =
    by_value (λ other others. values-wrong row (place + 1) words other others) (value_in (form_at row place) word) refl
    (values_in row (place + 1) words) refl is
  where
    by_value : ((other : ℕ) → values_in row (place + 1) words ≡ Err other → WrongAt row (place + 1) words other)
        → (o : Option ValueView) → value_in (form_at row place) word ≡ o → (r : Result (List ValueView) ℕ)
        → values_in row (place + 1) words ≡ r → with_value (place + 2) o r ≡ Err number
        → WrongAt row place (word ∷ words) number
    by_value more None first r others same =
        let e : place + 2 ≡ number = err-same (place + 2) number same in record {
          at = 0;
          inside = omega arith;
          is = omega (arith, e);
          before = λ i few. absurd (omega (arith, few));
          wrong = here row place word None first;
        }
    by_value more (Some value) first (Ok rest) others same = absurd (cc same)
    by_value more (Some value) first (Err other) others same =
        let e : other ≡ number = err-same other number same in
        let w = more other others in record {
          at = suc w.at;
          inside = omega (arith, w.inside);
          is = omega (arith, e, w.is);
          before = more-ok row place word words value first w.at w.before;
          wrong = there row place w.at (get_or words w.at []) None w.wrong;
        }

-- ---- a row

record IsReadBy (row : Row) (first : List ℕ) (words : List (List ℕ)) (r : Result (List ValueView) ℕ) : Type 0 where
  of_row : IsRowOf row first (length words)
  reads : values_in row 0 words ≡ r

row-tests : (row : Row) (first : List ℕ) (words : List (List ℕ))
    → (bytes_eq (first_word row) first && has_words row (length words)) ≡ true → IsRowOf row first (length words)
row-tests row first words tests =
    let parts = and_parts (bytes_eq (first_word row) first) (has_words row (length words)) tests in
    record { first_is = same-text (first_word row) first parts.0; count_is = parts.1 }

row-ok : (row : Row) (first : List ℕ) (words : List (List ℕ)) (line : LineView)
    → read_row row first words ≡ Ok line → IsReadBy row first words (Ok line.values)
row-ok row first words line is =
    by_tests (bytes_eq (first_word row) first && has_words row (length words)) refl is
  where
    by_values : (r : Result (List ValueView) ℕ) → values_in row 0 words ≡ r → said_in row r ≡ Ok line
        → values_in row 0 words ≡ Ok line.values
    by_values (Ok values) reads same =
        let e : said row values None ≡ line = cc same in reads ∙ ap (λ (l : LineView). Ok l.values) e
    by_values (Err number) reads same = absurd (cc same)

    by_tests : (t : Bool) → (bytes_eq (first_word row) first && has_words row (length words)) ≡ t
        → (if t then said_in row (values_in row 0 words) else Err 0) ≡ Ok line → IsReadBy row first words (Ok line.values)
    by_tests true tests same =
        record { of_row = row-tests row first words tests; reads = by_values (values_in row 0 words) refl same }
    by_tests false tests same = absurd (cc same)

said-err : (row : Row) (r : Result (List ValueView) ℕ) (number : ℕ) → said_in row r ≡ Err number → r ≡ Err number
said-err row (Ok values) number same = absurd (cc same)
said-err row (Err other) number same = ap Err (err-same other number same)

row-err : (row : Row) (first : List ℕ) (words : List (List ℕ)) (number : ℕ)
    → read_row row first words ≡ Err number
    → (number ≡ 0) ⊎ IsReadBy row first words (Err number)
row-err row first words number is =
    by_tests (bytes_eq (first_word row) first && has_words row (length words)) refl is
  where
    by_tests : (t : Bool) → (bytes_eq (first_word row) first && has_words row (length words)) ≡ t
        → (if t then said_in row (values_in row 0 words) else Err 0) ≡ Err number
        → (number ≡ 0) ⊎ IsReadBy row first words (Err number)
    by_tests true tests same =
        inr (record {
          of_row = row-tests row first words tests;
          reads = said-err row (values_in row 0 words) number same;
        })
    by_tests false tests same = inl (sym (err-same 0 number same))

row-read : (row : Row) (first : List ℕ) (words : List (List ℕ)) → IsRowOf row first (length words)
    → read_row row first words ≡ said_in row (values_in row 0 words)
row-read row first words is =
    rw (bytes_eq-same (first_word row) first is.first_is, is.count_is) refl

-- ---- the rows

record Both (a b : Result LineView ℕ) (number : ℕ) : Type 0 where
  one : ℕ
  other : ℕ
  first : a ≡ Err one
  second : b ≡ Err other
  is : max one other ≡ number

or-err : (a b : Result LineView ℕ) (number : ℕ) → or_in a b ≡ Err number → Both a b number
or-err (Ok line) b number same = absurd (cc same)
or-err (Err one) (Ok line) number same = absurd (cc same)
or-err (Err one) (Err other) number same = record {
  one = one;
  other = other;
  first = refl;
  second = refl;
  is = err-same (max one other) number same;
}

abbrev Below : List ℕ → List (List ℕ) → ℕ → Row → Type 0
Below first words number row = (k : ℕ) × (read_row row first words ≡ Err k) × (k ≤ number)

below-more : (first : List ℕ) (words : List (List ℕ)) (m n : ℕ) → m ≤ n → (rs : List Row)
    → AllByRecursion (Below first words m) rs → AllByRecursion (Below first words n) rs
below-more first words m n few [] all = tt
below-more first words m n few (r ∷ rs) all =
    ((all.0.0, all.0.1, omega (arith, all.0.2, few)), below-more first words m n few rs all.1)

rows-below : (rs : List Row) (first : List ℕ) (words : List (List ℕ)) (number : ℕ)
    → read_rows rs first words ≡ Err number → AllByRecursion (Below first words number) rs
rows-below [] first words number is = tt
rows-below (r ∷ rs) first words number is =
    let both = or-err (read_row r first words) (read_rows rs first words) number is in
    let top = both.is in (
      (both.one, both.first, omega (arith, top)),
      below-more first words both.other number (omega (arith, top)) rs
          (rows-below rs first words both.other both.second),
    )

rows-err : (rs : List Row) (first : List ℕ) (words : List (List ℕ)) (number : ℕ)
    → read_rows rs first words ≡ Err number
    → (number ≡ 0) ⊎ ((row : Row) × IsReadBy row first words (Err number))
rows-err [] first words number is = inl (sym (err-same 0 number is))
rows-err (r ∷ rs) first words number is =
    let both = or-err (read_row r first words) (read_rows rs first words) number is in
    elim (cases_lt both.one number) [
      | inl low ↦
          let e : both.other ≡ number = omega (arith, both.is, low) in
          rows-err rs first words number (both.second ∙ ap Err e)
      | inr high ↦
          let e : both.one ≡ number = omega (arith, both.is, high) in
          elim (row-err r first words number (both.first ∙ ap Err e)) [
            | inl none ↦ inl none
            | inr reads ↦ inr (r, reads)
          ]
    ]

record IsReadOk (first : List ℕ) (words : List (List ℕ)) : Type 0 where
  row : Row
  values : List ValueView
  reads : IsReadBy row first words (Ok values)

rows-ok : (rs : List Row) (first : List ℕ) (words : List (List ℕ)) (line : LineView)
    → read_rows rs first words ≡ Ok line → IsReadOk first words
rows-ok [] first words line is = absurd (cc is)
rows-ok (r ∷ rs) first words line is =
    by_rows (λ l other. rows-ok rs first words l other) (read_row r first words) refl (read_rows rs first words) refl is
  where
    by_rows : ((l : LineView) → read_rows rs first words ≡ Ok l → IsReadOk first words) → (a : Result LineView ℕ) → read_row r first words ≡ a → (b : Result LineView ℕ)
        → read_rows rs first words ≡ b → or_in a b ≡ Ok line → IsReadOk first words
    by_rows more (Ok l) one b other same = record { row = r; values = l.values; reads = row-ok r first words l one }
    by_rows more (Err n) one (Ok l) other same = more l other
    by_rows more (Err n) one (Err m) other same = absurd (cc same)

-- ---- the words that count

plain-form : (row : Row) (i : ℕ) (word : List ℕ) (o : Option ValueView) → value_in (form_at row (0 + i)) word ≡ o
    → value_in (form_at row i) word ≡ o
plain-form row i word o is = let e : i ≡ 0 + i = omega arith in ap (λ k. value_in (form_at row k) word) e ∙ is

of-form : (row : Row) (first : List ℕ) (words : List (List ℕ)) (i : ℕ) → IsRowOf row first (length words)
    → HasValue row 0 words i → IsOfForm first words i
of-form row first words i of_row has = record {
  row = row;
  of_row = of_row;
  value = has.0;
  says = plain-form row i (get_or words i []) (Some has.0) has.1;
}

not-both : (o : Option ValueView) (value : ValueView) → o ≡ None → o ≡ Some value → ⊥
not-both o value none some = cc (sym none ∙ some)

-- the number of the row that reads furthest is that of the first word of no form
furthest : (first : List ℕ) (words : List (List ℕ)) (number : ℕ) → read_rows ROWS first words ≡ Err number
    → (row : Row) → IsReadBy row first words (Err number)
    → (place : ℕ) × IsFirstWrong first words place × (number ≡ place + 2)
furthest first words number is row reads =
    let w = values-wrong row 0 words number reads.reads in (
      w.at,
      record {
        inside = w.inside;
        before = λ i few. of-form row first words i reads.of_row (w.before i few);
        wrong = other w;
      },
      omega (arith, w.is),
    )
  where
    apart : (w : WrongAt row 0 words number) (o : IsOfForm first words w.at) (k : ℕ) → k ≤ number
        → (v : WrongAt o.row 0 words k) → ⊥
    apart w o k few v = elim (cases_lt v.at w.at) [
      | inr high ↦
          let e : v.at ≡ w.at = omega (arith, high, few, v.is, w.is) in
          not-both (value_in (form_at o.row w.at) (get_or words w.at [])) o.value
          (subst (λ n. value_in (form_at o.row n) (get_or words n []) ≡ None) e
          (plain-form o.row v.at (get_or words v.at []) None v.wrong)) o.says
      | inl low ↦ elim (cases_eq v.at (differing first (length words))) [
        | inl e ↦
            let far : w.at ≢ differing first (length words) = λ same. absurd (omega (arith, low, e, same)) in
            not-both (value_in (form_at row w.at) (get_or words w.at [])) o.value
            (plain-form row w.at (get_or words w.at []) None w.wrong)
            (ap (λ form. value_in form (get_or words w.at []))
            (same-form row o.row first (length words) w.at reads.of_row o.of_row far) ∙ o.says)
        | inr ne ↦
            let has = w.before v.at low in
            not-both (value_in (form_at row v.at) (get_or words v.at [])) has.0
            (ap (λ form. value_in form (get_or words v.at []))
            (same-form row o.row first (length words) v.at reads.of_row o.of_row ne)
            ∙ plain-form o.row v.at (get_or words v.at []) None v.wrong)
            (plain-form row v.at (get_or words v.at []) (Some has.0) has.1)
      ]
    ]

    other : (w : WrongAt row 0 words number) → IsOfForm first words w.at → ⊥
    other w o =
        let low = of-row (Below first words number) o.row (rows-below ROWS first words number is) in
        apart w o low.0 low.2
        (values-wrong o.row 0 words low.0
        (said-err o.row (values_in o.row 0 words) low.0
        (sym (row-read o.row first words o.of_row) ∙ low.1)))

no-row : (first : List ℕ) (words : List (List ℕ)) → read_rows ROWS first words ≡ Err 0
    → HasRow first (length words) → ⊥
no-row first words is (row, of_row) =
    let low = of-row (Below first words 0) row (rows-below ROWS first words 0 is) in
    let w = values-wrong row 0 words low.0
    (said-err row (values_in row 0 words) low.0 (sym (row-read row first words of_row) ∙ low.1)) in
    absurd (omega (arith, low.2, w.is))

-- the fault of words without a token
abbrev IsRecordFault : List ℕ → List (List ℕ) → LineFault → Type 0
IsRecordFault first words faults.Word = ⊥
IsRecordFault first words faults.Words = HasRow first (length words) → ⊥
IsRecordFault first words (faults.Value number) = HasRow first (length words)
    × ((place : ℕ) × IsFirstWrong first words place × (number ≡ place + 2))

fault-same : {T : Type 0} (a b : LineFault) → ◌≡◌ {A = Result T LineFault} (Err a) (Err b) → a ≡ b
fault-same a b same = cc same

record-fault : (first : List ℕ) (words : List (List ℕ)) (fault : LineFault) → record_in first words ≡ Err fault
    → IsRecordFault first words fault
record-fault first words fault is = by_rows (read_rows ROWS first words) refl is
  where
    by_number : (number : ℕ) → read_rows ROWS first words ≡ Err number → (t : Bool) → (number == 0) ≡ t
        → ◌≡◌ {A = Result LineView LineFault} (if t then Err faults.Words else Err (faults.Value number)) (Err fault)
        → IsRecordFault first words fault
    by_number number read true zero_is same =
        subst (IsRecordFault first words) (fault-same faults.Words fault same)
        (no-row first words (read ∙ ap Err (eqb-true number 0 zero_is)))
    by_number number read false other same = elim (rows-err ROWS first words number read) [
      | inl none ↦ absurd (cc (sym other ∙ ap (λ n. n == 0) none))
      | inr reads ↦
          subst (IsRecordFault first words) (fault-same (faults.Value number) fault same)
          ((reads.0, reads.1.of_row), furthest first words number read reads.0 reads.1)
    ]

    by_rows : (r : Result LineView ℕ) → read_rows ROWS first words ≡ r → line_found r ≡ Err fault
        → IsRecordFault first words fault
    by_rows (Ok line) read same = absurd (cc same)
    by_rows (Err number) read same = by_number number read (number == 0) refl same

-- words without a fault
record IsRecordFine (first : List ℕ) (words : List (List ℕ)) : Type 0 where
  has : HasRow first (length words)
  all : (i : ℕ) → i < length words → IsOfForm first words i

record-fine : (first : List ℕ) (words : List (List ℕ)) (line : LineView) → record_in first words ≡ Ok line
    → IsRecordFine first words
record-fine first words line is = by_rows (read_rows ROWS first words) refl is
  where
    by_number : (t : Bool) (number : ℕ)
        → ◌≡◌ {A = Result LineView LineFault} (if t then Err faults.Words else Err (faults.Value number)) (Ok line)
        → IsRecordFine first words
    by_number true number same = absurd (cc same)
    by_number false number same = absurd (cc same)

    by_rows : (r : Result LineView ℕ) → read_rows ROWS first words ≡ r → line_found r ≡ Ok line
        → IsRecordFine first words
    by_rows (Ok l) read same =
        let ok = rows-ok ROWS first words l read in record {
          has = (ok.row, ok.reads.of_row);
          all = λ i few. of-form ok.row first words i ok.reads.of_row
              (values-ok ok.row 0 words ok.values ok.reads.reads i few);
        }
    by_rows (Err number) read same = by_number (number == 0) number same

-- ---- the line

any-row : (p : Row → Bool) (rs : List Row) → list_any p rs ≡ true → (row : Row) × (p row ≡ true)
any-row p [] is = absurd (cc is)
any-row p (r ∷ rs) is = elim (or_cases (p r) (list_any p rs) is) [
  | inl first ↦ (r, first)
  | inr others ↦ any-row p rs others
]

begun : (first : List ℕ) → begins_record first ≡ true → (row : Row) × (first_word row ≡ first)
begun first is =
    let found = any-row (λ row. bytes_eq (first_word row) first) ROWS is in
    (found.0, same-text (first_word found.0) first found.1)

not-begun : (first : List ℕ) → begins_record first ≡ false → (row : Row) → first_word row ≢ first
not-begun first none row is = absurd (cc (sym (begins row) ∙ ap begins_record is ∙ none))

token-none : (word : List ℕ) (number : ℕ) (line : LineView) (fault : LineFault)
    → add_token number (value_in (forms.HexBehind keys.Token) word) line ≡ Err fault
    → (value_in (forms.HexBehind keys.Token) word ≡ None) × (fault ≡ faults.Value number)
token-none word number line fault is =
    by_digits (option_and_then hex_word_in (behind_word (keyword_text keys.Token) word)) is
  where
    by_digits : (o : Option ℕ) → add_token number (option_map Number o) line ≡ Err fault
        → (option_map Number o ≡ None) × (fault ≡ faults.Value number)
    by_digits None same = (refl, sym (fault-same (faults.Value number) fault same))
    by_digits (Some t) same = absurd (cc same)

token-some : (word : List ℕ) (number : ℕ) (line other : LineView)
    → add_token number (value_in (forms.HexBehind keys.Token) word) line ≡ Ok other
    → value_in (forms.HexBehind keys.Token) word ≡ None → ⊥
token-some word number line other is none =
    absurd (cc (sym is ∙ ap (λ o. add_token number o line) none))

take-long : (n : ℕ) (words : List (List ℕ)) → n ≤ length words → length (take n words) ≡ n
take-long zero words few = refl
take-long (suc n) [] few = absurd (omega (arith, few))
take-long (suc n) (w ∷ words) few = ap suc (take-long n words (omega (arith, few)))

-- the token's number is that of the last word
last-number : (words : List (List ℕ)) → has_token (last_word words) ≡ true
    → length (without_last words) + 2 ≡ length words + 1
last-number [] has = absurd (cc has)
last-number (w ∷ words) has =
    let long = take-long (length (w ∷ words) - 1) (w ∷ words) (omega arith) in omega (arith, long)

counted-is : (first : List ℕ) (words : List (List ℕ)) (t : Bool)
    → (begins_command first && has_token (last_word words)) ≡ t
    → counted first words ≡ (if t then without_last words else words)
counted-is first words t tests = ap (λ b. if b then without_last words else words) tests

lift : (first : List ℕ) (words ws : List (List ℕ)) (fault : LineFault) → counted first words ≡ ws
    → (row : Row) × (first_word row ≡ first) → IsRecordFault first ws fault → IsWordsFault first words fault
lift first words ws faults.Word same begun_is f = absurd f
lift first words ws faults.Words same begun_is f =
    (begun_is, subst (λ (xs : List (List ℕ)). HasRow first (length xs) → ⊥) (sym same) f)
lift first words ws (faults.Value number) same begun_is f = (
  subst (λ (xs : List (List ℕ)). HasRow first (length xs)) (sym same) f.0,
  inl (f.1.0, subst (λ (xs : List (List ℕ)). IsFirstWrong first xs f.1.0) (sym same) f.1.1, f.1.2),
)

-- a line without a fault
record IsFineLine (first : List ℕ) (words : List (List ℕ)) : Type 0 where
  begun_is : (row : Row) × (first_word row ≡ first)
  has : HasRow first (length (counted first words))
  all : (i : ℕ) → i < length (counted first words) → IsOfForm first (counted first words) i
  token : IsTokenWrong first words → ⊥

abbrev IsAnswered : List ℕ → List (List ℕ) → Result LineView LineFault → Type 0
IsAnswered first words (Ok line) = IsFineLine first words
IsAnswered first words (Err fault) = IsWordsFault first words fault

fine-counted : (first : List ℕ) (words ws : List (List ℕ)) → counted first words ≡ ws
    → IsRecordFine first ws → IsRecordFine first (counted first words)
fine-counted first words ws same fine = subst (IsRecordFine first) (sym same) fine

-- a line without a token
bare-answered : (first : List ℕ) (words : List (List ℕ)) → (row : Row) × (first_word row ≡ first)
    → (begins_command first && has_token (last_word words)) ≡ false
    → (r : Result LineView LineFault) → record_in first words ≡ r → IsAnswered first words r
bare-answered first words begun_is tests (Err fault) read =
    lift first words words fault (counted-is first words false tests) begun_is
    (record-fault first words fault read)
bare-answered first words begun_is tests (Ok line) read =
    let fine = fine-counted first words words (counted-is first words false tests)
    (record-fine first words line read) in record {
      begun_is = begun_is;
      has = fine.has;
      all = fine.all;
      token = λ wrong. absurd (cc (sym tests ∙ wrong.has));
    }

-- a line with a token
token-answered : (first : List ℕ) (words : List (List ℕ)) → (row : Row) × (first_word row ≡ first)
    → (begins_command first && has_token (last_word words)) ≡ true
    → (r : Result LineView LineFault) → record_in first (without_last words) ≡ r
    → (answer : Result LineView LineFault)
    → with_token (length (without_last words)) (last_word words) r ≡ answer → IsAnswered first words answer
token-answered first words begun_is tests (Err fault) read (Ok line) same = absurd (cc same)
token-answered first words begun_is tests (Err fault) read (Err other) same =
    subst (IsWordsFault first words) (fault-same fault other same)
    (lift first words (without_last words) fault (counted-is first words true tests) begun_is
    (record-fault first (without_last words) fault read))
token-answered first words begun_is tests (Ok line) read (Ok other) same =
    let fine = fine-counted first words (without_last words) (counted-is first words true tests)
    (record-fine first (without_last words) line read) in record {
      begun_is = begun_is;
      has = fine.has;
      all = fine.all;
      token = λ wrong. token-some (last_word words) (length (without_last words) + 2) line other same wrong.wrong;
    }
token-answered first words begun_is tests (Ok line) read (Err fault) same =
    let fine = fine-counted first words (without_last words) (counted-is first words true tests)
    (record-fine first (without_last words) line read) in
    let none = token-none (last_word words) (length (without_last words) + 2) line fault same in
    let has = (and_parts (begins_command first) (has_token (last_word words)) tests).1 in
    let number = last-number words has in
    subst (IsWordsFault first words) (sym none.1)
    (fine.has, inr (record { has = tests; before = fine.all; wrong = none.0 }, number))

token-line : (first : List ℕ) (words : List (List ℕ)) → begins_record first ≡ true → begins_command first ≡ true
    → has_token (last_word words) ≡ true
    → line_in (first ∷ words)
    ≡ with_token (length (without_last words)) (last_word words) (record_in first (without_last words))
token-line first words record_is command_is token_is = rw (record_is, command_is, token_is) refl

bare-line : (first : List ℕ) (words : List (List ℕ)) (c h : Bool) → begins_record first ≡ true
    → begins_command first ≡ c → has_token (last_word words) ≡ h → (c && h) ≡ false
    → line_in (first ∷ words) ≡ record_in first words
bare-line first words true true record_is command_is token_is none = absurd (cc none)
bare-line first words true false record_is command_is token_is none = rw (record_is, command_is, token_is) refl
bare-line first words false h record_is command_is token_is none = rw (record_is, command_is) refl

answered : (first : List ℕ) (words : List (List ℕ)) (r : Result LineView LineFault)
    → line_in (first ∷ words) ≡ r → IsAnswered first words r
answered first words r is = by_begun (begins_record first) refl
  where
    by_token : begins_record first ≡ true → (t : Bool)
        → (begins_command first && has_token (last_word words)) ≡ t → IsAnswered first words r
    by_token record_is true tests =
        let parts = and_parts (begins_command first) (has_token (last_word words)) tests in
        token-answered first words (begun first record_is) tests (record_in first (without_last words)) refl r
        (sym (token-line first words record_is parts.0 parts.1) ∙ is)
    by_token record_is false tests =
        bare-answered first words (begun first record_is) tests r
        (sym (bare-line first words (begins_command first) (has_token (last_word words)) record_is refl refl tests) ∙ is)

    no-record : (s : Result LineView LineFault) → ◌≡◌ {A = Result LineView LineFault} (Err faults.Word) s
        → begins_record first ≡ false → IsAnswered first words s
    no-record (Ok line) same none = absurd (cc same)
    no-record (Err fault) same none =
        subst (IsWordsFault first words) (fault-same faults.Word fault same) (not-begun first none)

    not-in : begins_record first ≡ false → line_in (first ∷ words) ≡ Err faults.Word
    not-in none = rw none refl

    by_begun : (b : Bool) → begins_record first ≡ b → IsAnswered first words r
    by_begun true record_is = by_token record_is (begins_command first && has_token (last_word words)) refl
    by_begun false none = no-record r (sym (not-in none) ∙ is) none

-- ---- one fault

place-same : (first : List ℕ) (words : List (List ℕ)) (p q : ℕ) → IsFirstWrong first words p
    → IsFirstWrong first words q → p ≡ q
place-same first words p q one other = elim (cases_lt p q) [
  | inl low ↦ absurd (one.wrong (other.before p low))
  | inr high ↦ elim (cases_lt q p) [
    | inl low ↦ absurd (other.wrong (one.before q low))
    | inr more ↦ omega (arith, high, more)
  ]
]

abbrev IsNumber : List ℕ → List (List ℕ) → ℕ → Type 0
IsNumber first words number =
    ((place : ℕ) × IsFirstWrong first (counted first words) place × (number ≡ place + 2))
    ⊎ (IsTokenWrong first words × (number ≡ length words + 1))

number-same : (first : List ℕ) (words : List (List ℕ)) (m n : ℕ) → IsNumber first words m → IsNumber first words n
    → m ≡ n
number-same first words m n (inl one) (inl other) =
    let e = place-same first (counted first words) one.0 other.0 one.1 other.1 in
    let a = one.2 in let b = other.2 in omega (arith, e, a, b)
number-same first words m n (inl one) (inr other) = absurd (one.1.wrong (other.0.before one.0 one.1.inside))
number-same first words m n (inr one) (inl other) = absurd (other.1.wrong (one.0.before other.0 other.1.inside))
number-same first words m n (inr one) (inr other) = one.1 ∙ sym other.1

one-fault : (first : List ℕ) (words : List (List ℕ)) (a b : LineFault) → IsWordsFault first words a
    → IsWordsFault first words b → a ≡ b
one-fault first words faults.Word faults.Word f g = refl
one-fault first words faults.Word faults.Words f g = absurd (f g.0.0 g.0.1)
one-fault first words faults.Word (faults.Value n) f g = absurd (f g.0.0 g.0.1.first_is)
one-fault first words faults.Words faults.Word f g = absurd (g f.0.0 f.0.1)
one-fault first words faults.Words faults.Words f g = refl
one-fault first words faults.Words (faults.Value n) f g = absurd (f.1 g.0)
one-fault first words (faults.Value m) faults.Word f g = absurd (g f.0.0 f.0.1.first_is)
one-fault first words (faults.Value m) faults.Words f g = absurd (g.1 f.0)
one-fault first words (faults.Value m) (faults.Value n) f g =
    ap faults.Value (number-same first words m n f.1 g.1)

not-fine : (first : List ℕ) (words : List (List ℕ)) (fault : LineFault) → IsFineLine first words
    → IsWordsFault first words fault → ⊥
not-fine first words faults.Word fine f = f fine.begun_is.0 fine.begun_is.1
not-fine first words faults.Words fine f = f.1 fine.has
not-fine first words (faults.Value n) fine (has, inl wrong) = wrong.1.wrong (fine.all wrong.0 wrong.1.inside)
not-fine first words (faults.Value n) fine (has, inr wrong) = fine.token wrong.0

pub line-fault : (first : List ℕ) (words : List (List ℕ)) (fault : LineFault) → line_in (first ∷ words) ≡ Err fault
    → IsWordsFault first words fault
line-fault first words fault is = answered first words (Err fault) is

pub fault-line : (first : List ℕ) (words : List (List ℕ)) (fault : LineFault) → IsWordsFault first words fault
    → line_in (first ∷ words) ≡ Err fault
fault-line first words fault is = by_answer (line_in (first ∷ words)) refl
  where
    by_answer : (r : Result LineView LineFault) → line_in (first ∷ words) ≡ r → r ≡ Err fault
    by_answer (Ok line) read = absurd (not-fine first words fault (answered first words (Ok line) read) is)
    by_answer (Err other) read =
        ap Err (one-fault first words other fault (answered first words (Err other) read) is)
