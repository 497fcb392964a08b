-- Words behind the first 4100 of a line change nothing, since no record has as many.
use Rattle.std.proofs.Common.{◌≡◌, ℕ, zero, suc, ◌-◌, ◌<◌, ◌≤◌, ◌==◌, Bool, true, false, not, List, [], ◌∷◌, length, take, refl, sym, ap, ◌∙◌, arith, inl, inr, length-take}
use Rattle.std.specs.Prelude.{Err, if◌then◌else◌, ◌&&◌, nat_le, bytes_eq}
use Rattle.std.proofs.lemmas.Bool.{and_parts, cases_lt, eqb-true, leb-true}
use Rattle.std.proofs.lemmas.List.{take_all}
use Rattle.script_words.specs.declared.fault.LineFault.TheVariants as faults
use Rattle.script_words.specs.declared.rows.Row.{Row}
use Rattle.script_words.specs.declared.rows.Row.TheVariants as rows
use Rattle.script_words.specs.declared.rows.TheConstants.{ROWS}
use Rattle.script_words.specs.Rows.{first_word, has_words}
use Rattle.script_words.specs.Finding.{begins_command, begins_record, command_in, has_token, last_word, line_found, line_in, read_row, read_rows, record_in, said_in, values_in, with_token, without_last}

-- ---- how many words a record has

few-other : (n k : ℕ) → (n == k) ≡ true → k ≤ 8 → n ≤ 4097
few-other n k is few = let e = eqb-true n k is in omega (arith, e, few)

few-values : (row : Row) (n : ℕ) → has_words row n ≡ true → n ≤ 4097
few-values rows.Power n is = few-other n 0 is (omega arith)
few-values rows.ResetNormal n is = few-other n 1 is (omega arith)
few-values rows.ResetBootsel n is = few-other n 1 is (omega arith)
few-values rows.ResetUpdate n is = few-other n 1 is (omega arith)
few-values rows.CutBefore n is = few-other n 2 is (omega arith)
few-values rows.CutWithin n is = few-other n 3 is (omega arith)
few-values rows.Buy n is = few-other n 0 is (omega arith)
few-values rows.Exclusive n is = few-other n 1 is (omega arith)
few-values rows.Erase n is = few-other n 1 is (omega arith)
few-values rows.Read n is = few-other n 1 is (omega arith)
few-values rows.Write n is = few-other n 2 is (omega arith)
few-values rows.WriteRange n is = few-other n 3 is (omega arith)
few-values rows.WriteRest n is = few-other n 3 is (omega arith)
few-values rows.ExitXip n is = few-other n 0 is (omega arith)
few-values rows.EnterXip n is = few-other n 0 is (omega arith)
few-values rows.RebootNormal n is = few-other n 1 is (omega arith)
few-values rows.RebootBootsel n is = few-other n 1 is (omega arith)
few-values rows.RebootUpdate n is = few-other n 1 is (omega arith)
few-values rows.RebootRam n is = few-other n 1 is (omega arith)
few-values rows.OtpRead n is = few-other n 2 is (omega arith)
few-values rows.OtpWrite n is = leb-true n 4097 (and_parts (nat_le 2 n) (nat_le n 4097) is).1
few-values rows.InfoTable n is = few-other n 2 is (omega arith)
few-values rows.InfoTarget n is = few-other n 2 is (omega arith)
few-values rows.InfoDevice n is = few-other n 2 is (omega arith)
few-values rows.InfoPartition n is = few-other n 2 is (omega arith)
few-values rows.Block n is = few-other n 7 is (omega arith)
few-values rows.ImageBlock n is = few-other n 8 is (omega arith)
few-values rows.RawCommand n is = few-other n 1 is (omega arith)
few-values rows.RawPayload n is = few-other n 2 is (omega arith)
few-values rows.RawBlock n is = few-other n 1 is (omega arith)
few-values rows.End n is = few-other n 0 is (omega arith)

-- ---- too many words

many-row : (row : Row) (first : List ℕ) (words : List (List ℕ)) → 4097 < length words
    → read_row row first words ≡ Err 0
many-row row first words many = by_count (has_words row (length words)) refl
  where
    by_first : (t : Bool) → (if t && false then said_in row (values_in row 0 words) else Err 0) ≡ Err 0
    by_first true = refl
    by_first false = refl

    by_count : (t : Bool) → has_words row (length words) ≡ t → read_row row first words ≡ Err 0
    by_count true count =
        let few = few-values row (length words) count in absurd (omega (arith, many, few))
    by_count false count = rw count (by_first (bytes_eq (first_word row) first))

many-rows : (rs : List Row) (first : List ℕ) (words : List (List ℕ)) → 4097 < length words
    → read_rows rs first words ≡ Err 0
many-rows [] first words many = refl
many-rows (row ∷ rs) first words many = rw (many-row row first words many, many-rows rs first words many) refl

many-record : (first : List ℕ) (words : List (List ℕ)) → 4097 < length words
    → record_in first words ≡ Err faults.Words
many-record first words many = ap line_found (many-rows ROWS first words many)

many-before : (words : List (List ℕ)) → 4098 < length words → 4097 < length (without_last words)
many-before words many =
    let long = length-take (length words - 1) words in omega (arith, many, long)

many-command : (first : List ℕ) (words : List (List ℕ)) → 4098 < length words
    → command_in first words ≡ Err faults.Words
many-command first words many = by_token (has_token (last_word words))
  where
    by_token : (t : Bool)
        → (if t then with_token (length (without_last words)) (last_word words) (record_in first (without_last words))
        else record_in first words) ≡ Err faults.Words
    by_token true =
        ap (with_token (length (without_last words)) (last_word words))
        (many-record first (without_last words) (many-before words many))
    by_token false = many-record first words (omega (arith, many))

-- so the fault of a line with too many words is that of its first word, or that they are too many
many-words : (first : List ℕ) (words : List (List ℕ)) → 4098 < length words
    → line_in (first ∷ words) ≡ (if not (begins_record first) then Err faults.Word else Err faults.Words)
many-words first words many = by_tests (begins_record first) (begins_command first)
  where
    by_tests : (t u : Bool)
        → (if not t then Err faults.Word else if u then command_in first words else record_in first words)
        ≡ (if not t then Err faults.Word else Err faults.Words)
    by_tests false u = refl
    by_tests true true = many-command first words many
    by_tests true false = many-record first words (omega (arith, many))

-- ---- the first words

-- what a line says, or its fault, is that of as many of its first words as a record may have, and
-- one more
pub enough-words : (most : ℕ) (words : List (List ℕ)) → 4100 ≤ most → line_in (take most words) ≡ line_in words
enough-words zero words enough = absurd (omega (arith, enough))
enough-words (suc most) [] enough = refl
enough-words (suc most) (first ∷ words) enough = elim (cases_lt most (length words)) [
  | inl more ↦
      let long = length-take most words in
      many-words first (take most words) (omega (arith, enough, more, long))
      ∙ sym (many-words first words (omega (arith, enough, more)))
  | inr few ↦ ap (λ ws. line_in (first ∷ ws)) (take_all most words (omega (arith, few)))
]

-- a line has a word among the first ones exactly where it has one
pub none-first : (most : ℕ) (words : List (List ℕ)) → 1 ≤ most → take most words ≡ [] → words ≡ []
none-first most [] some none = refl
none-first zero (w ∷ words) some none = absurd (omega (arith, some))
none-first (suc most) (w ∷ words) some none = absurd (cc none)
