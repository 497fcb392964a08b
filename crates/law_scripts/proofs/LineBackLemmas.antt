-- The words of what a line says are read as this.
use Rattle.std.proofs.Common.{◌≡◌, ℕ, suc, ◌+◌, Bool, true, false, List, [], ◌∷◌, ◌++◌, length, take, drop, Some, None, refl, ap, ◌∙◌, arith}
use Rattle.std.specs.Prelude.{Result, Ok, Err, if◌then◌else◌, ◌&&◌}
use Rattle.std.specs.List.{list_all}
use Rattle.std.proofs.lemmas.Bool.{and_parts, eqb-true}
use Rattle.pico_board.proofs.FileListLemmas.{bytes_eq-same}
use Rattle.script_words.specs.declared.rows.Row.{Row}
use Rattle.script_words.specs.declared.rows.Row.TheVariants as rows
use Rattle.script_words.specs.declared.rows.TheConstants.{ROWS}
use Rattle.script_words.specs.Rows.{first_word, form_at, has_words}
use Rattle.script_words.specs.Values.{LineView, ValueView, Plain, Number, Span, Bytes, said}
use Rattle.script_words.specs.Finding.{line_found, or_in, read_row, read_rows, record_in, said_in, values_in, with_value}
use Rattle.script_words.specs.Spelling.{value_words}
use Rattle.script_words.specs.Saying.{MaySayAll}
use Rattle.law_scripts.specs.Listed.{is_listed}
use Rattle.law_scripts.proofs.WordBackLemmas.{value-back}

values-back : (row : Row) (place : ℕ) (values : List ValueView) → MaySayAll row place values
    → values_in row place (value_words row place values) ≡ Ok values
values-back row place [] may = refl
values-back row place (value ∷ values) may =
    ap (λ o. with_value (place + 2) o (values_in row (place + 1) (value_words row (place + 1) values)))
    (value-back (form_at row place) value may.0)
    ∙ ap (with_value (place + 2) (Some value)) (values-back row (place + 1) values may.1)

pub words-long : (row : Row) (place : ℕ) (values : List ValueView)
    → length (value_words row place values) ≡ length values
words-long row place [] = refl
words-long row place (value ∷ values) = ap suc (words-long row (place + 1) values)

row-read : (row : Row) (values : List ValueView) → has_words row (length values) ≡ true
    → MaySayAll row 0 values
    → read_row row (first_word row) (value_words row 0 values) ≡ Ok (said row values None)
row-read row values count may =
    ap (λ t. if t && has_words row (length (value_words row 0 values))
    then said_in row (values_in row 0 (value_words row 0 values)) else Err 0)
    (bytes_eq-same (first_word row) (first_word row) refl)
    ∙ ap (λ t. if t then said_in row (values_in row 0 (value_words row 0 values)) else Err 0)
    (ap (has_words row) (words-long row 0 values) ∙ count)
    ∙ ap (said_in row) (values-back row 0 values may)

-- ---- the row among all

abbrev is_err : Result LineView ℕ → Bool
is_err (Ok line) = false
is_err (Err number) = true

-- these rows do not read the line
abbrev skips : List Row → List ℕ → List (List ℕ) → Bool
skips rs first words = list_all (λ r. is_err (read_row r first words)) rs

or-skip : (r s : Result LineView ℕ) (line : LineView) → is_err r ≡ true → s ≡ Ok line → or_in r s ≡ Ok line
or-skip (Ok l) s line skip is = absurd (cc skip)
or-skip (Err n) (Ok l) line skip is = is
or-skip (Err n) (Err m) line skip is = absurd (cc is)

found-at : (before : List Row) (row : Row) (after : List Row) (first : List ℕ) (words : List (List ℕ))
    (line : LineView) → skips before first words ≡ true → read_row row first words ≡ Ok line
    → read_rows (before ++ (row ∷ after)) first words ≡ Ok line
found-at [] row after first words line none is = ap (λ r. or_in r (read_rows after first words)) is
found-at (b ∷ before) row after first words line none is =
    let parts = and_parts (is_err (read_row b first words)) (skips before first words) none in
    or-skip (read_row b first words) (read_rows (before ++ (row ∷ after)) first words) line parts.0
    (found-at before row after first words line parts.1 is)

abbrev IsFound : Row → List ValueView → Type 0
IsFound row values =
    read_rows ROWS (first_word row) (value_words row 0 values) ≡ Ok (said row values None)

found-row : (k : ℕ) (row : Row) (values : List ValueView) → ROWS ≡ take k ROWS ++ (row ∷ drop (suc k) ROWS)
    → skips (take k ROWS) (first_word row) (value_words row 0 values) ≡ true
    → has_words row (length values) ≡ true → MaySayAll row 0 values → IsFound row values
found-row k row values parts none count may =
    ap (λ rs. read_rows rs (first_word row) (value_words row 0 values)) parts
    ∙ found-at (take k ROWS) row (drop (suc k) ROWS) (first_word row) (value_words row 0 values)
    (said row values None) none (row-read row values count may)

pub of-one : (P : List ValueView → Type 0) (values : List ValueView) → length values ≡ 1
    → ((a : ValueView) → P (a ∷ [])) → P values
of-one P [] long f = absurd (omega (arith, long))
of-one P (a ∷ []) long f = f a
of-one P (a ∷ b ∷ values) long f = absurd (omega (arith, long))

pub of-two : (P : List ValueView → Type 0) (values : List ValueView) → length values ≡ 2
    → ((a b : ValueView) → P (a ∷ b ∷ [])) → P values
of-two P [] long f = absurd (omega (arith, long))
of-two P (a ∷ []) long f = absurd (omega (arith, long))
of-two P (a ∷ b ∷ []) long f = f a b
of-two P (a ∷ b ∷ c ∷ values) long f = absurd (omega (arith, long))

pub of-three : (P : List ValueView → Type 0) (values : List ValueView) → length values ≡ 3
    → ((a b c : ValueView) → P (a ∷ b ∷ c ∷ [])) → P values
of-three P [] long f = absurd (omega (arith, long))
of-three P (a ∷ []) long f = absurd (omega (arith, long))
of-three P (a ∷ b ∷ []) long f = absurd (omega (arith, long))
of-three P (a ∷ b ∷ c ∷ []) long f = f a b c
of-three P (a ∷ b ∷ c ∷ d ∷ values) long f = absurd (omega (arith, long))

abbrev Finds : Row → List ValueView → Type 0
Finds row values = has_words row (length values) ≡ true → MaySayAll row 0 values → IsFound row values

found-resetbootsel : (a : ValueView) → Finds rows.ResetBootsel (a ∷ [])
found-resetbootsel Plain count may = found-row 2 rows.ResetBootsel (Plain ∷ []) refl refl count may
found-resetbootsel (Number n) count may = absurd may.0
found-resetbootsel (Span m n) count may = absurd may.0
found-resetbootsel (Bytes bs) count may = absurd may.0

found-resetupdate : (a : ValueView) → Finds rows.ResetUpdate (a ∷ [])
found-resetupdate Plain count may = absurd may.0
found-resetupdate (Number n) count may = found-row 3 rows.ResetUpdate (Number n ∷ []) refl refl count may
found-resetupdate (Span m n) count may = absurd may.0
found-resetupdate (Bytes bs) count may = absurd may.0

found-rebootbootsel : (a : ValueView) → Finds rows.RebootBootsel (a ∷ [])
found-rebootbootsel Plain count may = found-row 16 rows.RebootBootsel (Plain ∷ []) refl refl count may
found-rebootbootsel (Number n) count may = absurd may.0
found-rebootbootsel (Span m n) count may = absurd may.0
found-rebootbootsel (Bytes bs) count may = absurd may.0

found-rebootupdate : (a : ValueView) → Finds rows.RebootUpdate (a ∷ [])
found-rebootupdate Plain count may = absurd may.0
found-rebootupdate (Number n) count may = found-row 17 rows.RebootUpdate (Number n ∷ []) refl refl count may
found-rebootupdate (Span m n) count may = absurd may.0
found-rebootupdate (Bytes bs) count may = absurd may.0

found-rebootram : (a : ValueView) → Finds rows.RebootRam (a ∷ [])
found-rebootram Plain count may = absurd may.0
found-rebootram (Number n) count may = absurd may.0
found-rebootram (Span m n) count may = found-row 18 rows.RebootRam (Span m n ∷ []) refl refl count may
found-rebootram (Bytes bs) count may = absurd may.0

found-infotarget : (a b : ValueView) → Finds rows.InfoTarget (a ∷ b ∷ [])
found-infotarget Plain b count may = absurd may.0
found-infotarget (Number n) b count may = found-row 22 rows.InfoTarget (Number n ∷ b ∷ []) refl refl count may
found-infotarget (Span m n) b count may = absurd may.0
found-infotarget (Bytes bs) b count may = absurd may.0

found-infodevice : (a b : ValueView) → Finds rows.InfoDevice (a ∷ b ∷ [])
found-infodevice Plain b count may = found-row 23 rows.InfoDevice (Plain ∷ b ∷ []) refl refl count may
found-infodevice (Number n) b count may = absurd may.0
found-infodevice (Span m n) b count may = absurd may.0
found-infodevice (Bytes bs) b count may = absurd may.0

found-infopartition : (a b : ValueView) → Finds rows.InfoPartition (a ∷ b ∷ [])
found-infopartition Plain b count may = absurd may.0
found-infopartition (Number n) b count may = found-row 24 rows.InfoPartition (Number n ∷ b ∷ []) refl refl count may
found-infopartition (Span m n) b count may = absurd may.0
found-infopartition (Bytes bs) b count may = absurd may.0

found-cutwithin : (a b c : ValueView) → Finds rows.CutWithin (a ∷ b ∷ c ∷ [])
found-cutwithin a b c count may = found-row 5 rows.CutWithin (a ∷ b ∷ c ∷ []) refl refl count may

found-rawpayload : (a b : ValueView) → Finds rows.RawPayload (a ∷ b ∷ [])
found-rawpayload a b count may = found-row 28 rows.RawPayload (a ∷ b ∷ []) refl refl count may

found-rawblock : (a : ValueView) → Finds rows.RawBlock (a ∷ [])
found-rawblock a count may = found-row 29 rows.RawBlock (a ∷ []) refl refl count may

found : (row : Row) (values : List ValueView) → is_listed row ≡ true → Finds row values
found rows.Power values listed count may = found-row 0 rows.Power values refl refl count may
found rows.ResetNormal values listed count may = found-row 1 rows.ResetNormal values refl refl count may
found rows.ResetBootsel values listed count may =
    of-one (Finds rows.ResetBootsel) values (eqb-true (length values) 1 count) found-resetbootsel count may
found rows.ResetUpdate values listed count may =
    of-one (Finds rows.ResetUpdate) values (eqb-true (length values) 1 count) found-resetupdate count may
found rows.CutBefore values listed count may = found-row 4 rows.CutBefore values refl refl count may
found rows.CutWithin values listed count may =
    of-three (Finds rows.CutWithin) values (eqb-true (length values) 3 count) found-cutwithin count may
found rows.Buy values listed count may = found-row 6 rows.Buy values refl refl count may
found rows.Exclusive values listed count may = found-row 7 rows.Exclusive values refl refl count may
found rows.Erase values listed count may = found-row 8 rows.Erase values refl refl count may
found rows.Read values listed count may = found-row 9 rows.Read values refl refl count may
found rows.Write values listed count may = found-row 10 rows.Write values refl refl count may
found rows.WriteRange values listed count may = absurd (cc listed)
found rows.WriteRest values listed count may = absurd (cc listed)
found rows.ExitXip values listed count may = found-row 13 rows.ExitXip values refl refl count may
found rows.EnterXip values listed count may = found-row 14 rows.EnterXip values refl refl count may
found rows.RebootNormal values listed count may = found-row 15 rows.RebootNormal values refl refl count may
found rows.RebootBootsel values listed count may =
    of-one (Finds rows.RebootBootsel) values (eqb-true (length values) 1 count) found-rebootbootsel count may
found rows.RebootUpdate values listed count may =
    of-one (Finds rows.RebootUpdate) values (eqb-true (length values) 1 count) found-rebootupdate count may
found rows.RebootRam values listed count may =
    of-one (Finds rows.RebootRam) values (eqb-true (length values) 1 count) found-rebootram count may
found rows.OtpRead values listed count may = found-row 19 rows.OtpRead values refl refl count may
found rows.OtpWrite values listed count may = found-row 20 rows.OtpWrite values refl refl count may
found rows.InfoTable values listed count may = found-row 21 rows.InfoTable values refl refl count may
found rows.InfoTarget values listed count may =
    of-two (Finds rows.InfoTarget) values (eqb-true (length values) 2 count) found-infotarget count may
found rows.InfoDevice values listed count may =
    of-two (Finds rows.InfoDevice) values (eqb-true (length values) 2 count) found-infodevice count may
found rows.InfoPartition values listed count may =
    of-two (Finds rows.InfoPartition) values (eqb-true (length values) 2 count) found-infopartition count may
found rows.Block values listed count may = found-row 25 rows.Block values refl refl count may
found rows.ImageBlock values listed count may = absurd (cc listed)
found rows.RawCommand values listed count may = found-row 27 rows.RawCommand values refl refl count may
found rows.RawPayload values listed count may =
    of-two (Finds rows.RawPayload) values (eqb-true (length values) 2 count) found-rawpayload count may
found rows.RawBlock values listed count may =
    of-one (Finds rows.RawBlock) values (eqb-true (length values) 1 count) found-rawblock count may
found rows.End values listed count may = found-row 30 rows.End values refl refl count may

pub record-back : (row : Row) (values : List ValueView) → is_listed row ≡ true
    → has_words row (length values) ≡ true → MaySayAll row 0 values
    → record_in (first_word row) (value_words row 0 values) ≡ Ok (said row values None)
record-back row values listed count may = ap line_found (found row values listed count may)
