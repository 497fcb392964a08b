-- What a line says, word by word and row by row.
use Rattle.std.proofs.Common.{◌≡◌, ℕ, ◌+◌, ◌<◌, List, [], ◌∷◌, ◌++◌, drop, get_or, length, map, Some, None, refl, sym, ap, ◌∙◌, arith, append-nil, append_assoc}
use Rattle.std.specs.Prelude.{Result, Ok, Err, max}
use Rattle.std.proofs.lemmas.List.{drop_more, map-append}
use Rattle.script_words.specs.declared.forms.Form.{Form}
use Rattle.script_words.specs.declared.values.Value.{Value}
use Rattle.script_words.specs.declared.rows.Row.{Row}
use Rattle.script_words.specs.declared.splitting.Word.{Word}
use Rattle.script_words.specs.Splitting.{word_bytes}
use Rattle.script_words.specs.Values.{LineView, ValueView, value_from, value_in}
use Rattle.script_words.specs.Rows.{form_at}
use Rattle.script_words.specs.Finding.{or_in, read_row, read_rows, values_in, with_value}

-- values and then those of the others
abbrev pub with_values : List ValueView → Result (List ValueView) ℕ → Result (List ValueView) ℕ
with_values values (Ok others) = Ok (values ++ others)
with_values values (Err number) = Err number

pub values-none : (r : Result (List ValueView) ℕ) → with_values [] r ≡ r
values-none (Ok others) = refl
values-none (Err number) = refl

pub values-more : (values : List ValueView) (value : ValueView) (r : Result (List ValueView) ℕ)
    → with_values (values ++ value ∷ []) r ≡ with_values values (with_value 0 (Some value) r)
values-more values value (Ok others) = ap Ok (simp append_assoc)
values-more values value (Err number) = refl

pub value-some : (n m : ℕ) (value : ValueView) (r : Result (List ValueView) ℕ)
    → with_value n (Some value) r ≡ with_value m (Some value) r
value-some n m value (Ok others) = refl
value-some n m value (Err number) = refl

-- the greater number of three is that of two and the third
pub or-both : (a b : ℕ) (r : Result LineView ℕ) → or_in (Err a) (or_in (Err b) r) ≡ or_in (Err (max a b)) r
or-both a b (Ok line) = refl
or-both a b (Err c) = ap Err (omega arith)

pub or-none : (a : ℕ) → or_in (Err a) (Err 0) ≡ Err a
or-none a = ap Err (omega arith)

-- ---- the words that are left

pub values-step : (row : Row) (i : ℕ) (left rest : List Word) (w : Word) (values : List ValueView) (v : ValueView)
    → left ≡ w ∷ rest → value_in (form_at row i) (word_bytes w) ≡ Some v
    → with_values values (values_in row i (map word_bytes left))
    ≡ with_values (values ++ v ∷ []) (values_in row (i + 1) (map word_bytes rest))
values-step row i left rest w values v is says =
    ap (λ ws. with_values values (values_in row i (map word_bytes ws))) is
    ∙ ap (λ o. with_values values (with_value (i + 2) o (values_in row (i + 1) (map word_bytes rest)))) says
    ∙ ap (with_values values) (value-some (i + 2) 0 v (values_in row (i + 1) (map word_bytes rest)))
    ∙ sym (values-more values v (values_in row (i + 1) (map word_bytes rest)))

pub values-stop : (row : Row) (i : ℕ) (left rest : List Word) (w : Word) (values : List ValueView)
    → left ≡ w ∷ rest → value_in (form_at row i) (word_bytes w) ≡ None
    → with_values values (values_in row i (map word_bytes left)) ≡ Err (i + 2)
values-stop row i left rest w values is says =
    ap (λ ws. with_values values (values_in row i (map word_bytes ws))) is
    ∙ ap (λ o. with_values values (with_value (i + 2) o (values_in row (i + 1) (map word_bytes rest)))) says

pub values-end : (row : Row) (i : ℕ) (left : List Word) (values : List ValueView) → left ≡ []
    → with_values values (values_in row i (map word_bytes left)) ≡ Ok values
values-end row i left values none =
    ap (λ ws. with_values values (values_in row i (map word_bytes ws))) none ∙ ap Ok (append-nil values)

-- one word more that is of its form
pub values-next : (row : Row) (i place : ℕ) (form : Form) (words : List Word) (d : Word) (old new : List Value)
    (v : Value) → i < length words → form ≡ form_at row place → place ≡ i
    → Some (value_from v) ≡ value_in form (word_bytes (get_or words i d)) → new ≡ old ++ v ∷ []
    → values_in row 0 (map word_bytes words)
    ≡ with_values (map value_from old) (values_in row i (map word_bytes (drop i words)))
    → values_in row 0 (map word_bytes words)
    ≡ with_values (map value_from new) (values_in row (i + 1) (map word_bytes (drop (i + 1) words)))
values-next row i place form words d old new v inside is_form here says added so_far =
    so_far
    ∙ values-step row i (drop i words) (drop (i + 1) words) (get_or words i d) (map value_from old) (value_from v)
    (drop_more words i d inside)
    (ap (λ (k : ℕ). value_in (form_at row k) (word_bytes (get_or words i d))) (sym here)
    ∙ ap (λ (f : Form). value_in f (word_bytes (get_or words i d))) (sym is_form) ∙ sym says)
    ∙ ap (λ (vs : List ValueView). with_values vs (values_in row (i + 1) (map word_bytes (drop (i + 1) words))))
    (sym (ap (λ (vs : List Value). map value_from vs) added ∙ map-append value_from old (v ∷ [])))

-- ---- the rows that are left

pub rows-step : (number other : ℕ) (left rest : List Row) (row : Row) (first : List ℕ) (words : List (List ℕ))
    → left ≡ row ∷ rest → read_row row first words ≡ Err other
    → or_in (Err number) (read_rows left first words) ≡ or_in (Err (max number other)) (read_rows rest first words)
rows-step number other left rest row first words is fails =
    ap (λ rs. or_in (Err number) (read_rows rs first words)) is
    ∙ ap (λ r. or_in (Err number) (or_in r (read_rows rest first words))) fails
    ∙ or-both number other (read_rows rest first words)

pub rows-found : (number : ℕ) (left rest : List Row) (row : Row) (first : List ℕ) (words : List (List ℕ))
    (line : LineView) → left ≡ row ∷ rest → read_row row first words ≡ Ok line
    → or_in (Err number) (read_rows left first words) ≡ Ok line
rows-found number left rest row first words line is finds =
    ap (λ rs. or_in (Err number) (read_rows rs first words)) is
    ∙ ap (λ r. or_in (Err number) (or_in r (read_rows rest first words))) finds

pub rows-end : (number : ℕ) (left : List Row) (first : List ℕ) (words : List (List ℕ)) → left ≡ []
    → or_in (Err number) (read_rows left first words) ≡ Err number
rows-end number left first words none =
    ap (λ rs. or_in (Err number) (read_rows rs first words)) none ∙ or-none number
