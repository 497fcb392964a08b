-- Rows of the table that begin so and have as many words differ in one word alone.
use Rattle.std.proofs.Common.{◌≡◌, ◌≢◌, ℕ, zero, suc, ◌==◌, true, List, [], ◌∷◌, refl, sym, ap, subst, ◌∙◌}
use Rattle.std.specs.Prelude.{if◌then◌else◌, ◌&&◌, bytes_eq}
use Rattle.std.specs.List.{AllByRecursion}
use Rattle.std.proofs.lemmas.Bool.{eqb-true}
use Rattle.script_words.specs.declared.rows.Row.{Row}
use Rattle.script_words.specs.declared.rows.Row.TheVariants as rows
use Rattle.script_words.specs.declared.rows.TheConstants.{ROWS}
use Rattle.script_words.specs.Rows.{first_word, form_at, has_words}
use Rattle.law_scripts.specs.Faults.{IsRowOf}

-- what holds of all rows in the table holds of each row
pub of-row : (P : Row → Type 0) (row : Row) → AllByRecursion P ROWS → P row
of-row P rows.Power all = all.0
of-row P rows.ResetNormal all = all.1.0
of-row P rows.ResetBootsel all = all.1.1.0
of-row P rows.ResetUpdate all = all.1.1.1.0
of-row P rows.CutBefore all = all.1.1.1.1.0
of-row P rows.CutWithin all = all.1.1.1.1.1.0
of-row P rows.Buy all = all.1.1.1.1.1.1.0
of-row P rows.Exclusive all = all.1.1.1.1.1.1.1.0
of-row P rows.Erase all = all.1.1.1.1.1.1.1.1.0
of-row P rows.Read all = all.1.1.1.1.1.1.1.1.1.0
of-row P rows.Write all = all.1.1.1.1.1.1.1.1.1.1.0
of-row P rows.WriteRange all = all.1.1.1.1.1.1.1.1.1.1.1.0
of-row P rows.WriteRest all = all.1.1.1.1.1.1.1.1.1.1.1.1.0
of-row P rows.ExitXip all = all.1.1.1.1.1.1.1.1.1.1.1.1.1.0
of-row P rows.EnterXip all = all.1.1.1.1.1.1.1.1.1.1.1.1.1.1.0
of-row P rows.RebootNormal all = all.1.1.1.1.1.1.1.1.1.1.1.1.1.1.1.0
of-row P rows.RebootBootsel all = all.1.1.1.1.1.1.1.1.1.1.1.1.1.1.1.1.0
of-row P rows.RebootUpdate all = all.1.1.1.1.1.1.1.1.1.1.1.1.1.1.1.1.1.0
of-row P rows.RebootRam all = all.1.1.1.1.1.1.1.1.1.1.1.1.1.1.1.1.1.1.0
of-row P rows.OtpRead all = all.1.1.1.1.1.1.1.1.1.1.1.1.1.1.1.1.1.1.1.0
of-row P rows.OtpWrite all = all.1.1.1.1.1.1.1.1.1.1.1.1.1.1.1.1.1.1.1.1.0
of-row P rows.InfoTable all = all.1.1.1.1.1.1.1.1.1.1.1.1.1.1.1.1.1.1.1.1.1.0
of-row P rows.InfoTarget all = all.1.1.1.1.1.1.1.1.1.1.1.1.1.1.1.1.1.1.1.1.1.1.0
of-row P rows.InfoDevice all = all.1.1.1.1.1.1.1.1.1.1.1.1.1.1.1.1.1.1.1.1.1.1.1.0
of-row P rows.InfoPartition all = all.1.1.1.1.1.1.1.1.1.1.1.1.1.1.1.1.1.1.1.1.1.1.1.1.0
of-row P rows.Block all = all.1.1.1.1.1.1.1.1.1.1.1.1.1.1.1.1.1.1.1.1.1.1.1.1.1.0
of-row P rows.ImageBlock all = all.1.1.1.1.1.1.1.1.1.1.1.1.1.1.1.1.1.1.1.1.1.1.1.1.1.1.0
of-row P rows.RawCommand all = all.1.1.1.1.1.1.1.1.1.1.1.1.1.1.1.1.1.1.1.1.1.1.1.1.1.1.1.0
of-row P rows.RawPayload all = all.1.1.1.1.1.1.1.1.1.1.1.1.1.1.1.1.1.1.1.1.1.1.1.1.1.1.1.1.0
of-row P rows.RawBlock all = all.1.1.1.1.1.1.1.1.1.1.1.1.1.1.1.1.1.1.1.1.1.1.1.1.1.1.1.1.1.0
of-row P rows.End all = all.1.1.1.1.1.1.1.1.1.1.1.1.1.1.1.1.1.1.1.1.1.1.1.1.1.1.1.1.1.1.0

-- one row for those that begin so and have as many words
abbrev shape : Row → Row
shape rows.ResetBootsel = rows.ResetNormal
shape rows.ResetUpdate = rows.ResetNormal
shape rows.WriteRest = rows.WriteRange
shape rows.RebootBootsel = rows.RebootNormal
shape rows.RebootUpdate = rows.RebootNormal
shape rows.RebootRam = rows.RebootNormal
shape rows.InfoTarget = rows.InfoTable
shape rows.InfoDevice = rows.InfoTable
shape rows.InfoPartition = rows.InfoTable
shape row = row

-- the place of the word in which they differ
abbrev place-of : Row → ℕ
place-of rows.WriteRange = 2
place-of row = 0

abbrev find_row : List Row → List ℕ → ℕ → Row
find_row [] first count = rows.Power
find_row (row ∷ rs) first count =
    if bytes_eq (first_word row) first && has_words row count then row else find_row rs first count

abbrev Finds : Row → ℕ → Type 0
Finds row count = find_row ROWS (first_word row) count ≡ shape row

at-count : (row : Row) (count wanted : ℕ) → (count == wanted) ≡ true → Finds row wanted → Finds row count
at-count row count wanted is finds = subst (Finds row) (sym (eqb-true count wanted is)) finds

shape-is : (row : Row) (count : ℕ) → has_words row count ≡ true → Finds row count
shape-is rows.Power count is = at-count rows.Power count 0 is refl
shape-is rows.ResetNormal count is = at-count rows.ResetNormal count 1 is refl
shape-is rows.ResetBootsel count is = at-count rows.ResetBootsel count 1 is refl
shape-is rows.ResetUpdate count is = at-count rows.ResetUpdate count 1 is refl
shape-is rows.CutBefore count is = at-count rows.CutBefore count 2 is refl
shape-is rows.CutWithin count is = at-count rows.CutWithin count 3 is refl
shape-is rows.Buy count is = at-count rows.Buy count 0 is refl
shape-is rows.Exclusive count is = at-count rows.Exclusive count 1 is refl
shape-is rows.Erase count is = at-count rows.Erase count 1 is refl
shape-is rows.Read count is = at-count rows.Read count 1 is refl
shape-is rows.Write count is = at-count rows.Write count 2 is refl
shape-is rows.WriteRange count is = at-count rows.WriteRange count 3 is refl
shape-is rows.WriteRest count is = at-count rows.WriteRest count 3 is refl
shape-is rows.ExitXip count is = at-count rows.ExitXip count 0 is refl
shape-is rows.EnterXip count is = at-count rows.EnterXip count 0 is refl
shape-is rows.RebootNormal count is = at-count rows.RebootNormal count 1 is refl
shape-is rows.RebootBootsel count is = at-count rows.RebootBootsel count 1 is refl
shape-is rows.RebootUpdate count is = at-count rows.RebootUpdate count 1 is refl
shape-is rows.RebootRam count is = at-count rows.RebootRam count 1 is refl
shape-is rows.OtpRead count is = at-count rows.OtpRead count 2 is refl
shape-is rows.OtpWrite count is = rw is refl
shape-is rows.InfoTable count is = at-count rows.InfoTable count 2 is refl
shape-is rows.InfoTarget count is = at-count rows.InfoTarget count 2 is refl
shape-is rows.InfoDevice count is = at-count rows.InfoDevice count 2 is refl
shape-is rows.InfoPartition count is = at-count rows.InfoPartition count 2 is refl
shape-is rows.Block count is = at-count rows.Block count 7 is refl
shape-is rows.ImageBlock count is = at-count rows.ImageBlock count 8 is refl
shape-is rows.RawCommand count is = at-count rows.RawCommand count 1 is refl
shape-is rows.RawPayload count is = at-count rows.RawPayload count 2 is refl
shape-is rows.RawBlock count is = at-count rows.RawBlock count 1 is refl
shape-is rows.End count is = at-count rows.End count 0 is refl

form-shape : (row : Row) (i : ℕ) → i ≢ place-of (shape row) → form_at row i ≡ form_at (shape row) i
form-shape rows.Power i other = refl
form-shape rows.ResetNormal i other = refl
form-shape rows.ResetBootsel zero other = absurd (other refl)
form-shape rows.ResetBootsel (suc i) other = refl
form-shape rows.ResetUpdate zero other = absurd (other refl)
form-shape rows.ResetUpdate (suc i) other = refl
form-shape rows.CutBefore i other = refl
form-shape rows.CutWithin i other = refl
form-shape rows.Buy i other = refl
form-shape rows.Exclusive i other = refl
form-shape rows.Erase i other = refl
form-shape rows.Read i other = refl
form-shape rows.Write i other = refl
form-shape rows.WriteRange i other = refl
form-shape rows.WriteRest zero other = refl
form-shape rows.WriteRest (suc zero) other = refl
form-shape rows.WriteRest (suc (suc zero)) other = absurd (other refl)
form-shape rows.WriteRest (suc (suc (suc i))) other = refl
form-shape rows.ExitXip i other = refl
form-shape rows.EnterXip i other = refl
form-shape rows.RebootNormal i other = refl
form-shape rows.RebootBootsel zero other = absurd (other refl)
form-shape rows.RebootBootsel (suc i) other = refl
form-shape rows.RebootUpdate zero other = absurd (other refl)
form-shape rows.RebootUpdate (suc i) other = refl
form-shape rows.RebootRam zero other = absurd (other refl)
form-shape rows.RebootRam (suc i) other = refl
form-shape rows.OtpRead i other = refl
form-shape rows.OtpWrite i other = refl
form-shape rows.InfoTable i other = refl
form-shape rows.InfoTarget zero other = absurd (other refl)
form-shape rows.InfoTarget (suc zero) other = refl
form-shape rows.InfoTarget (suc (suc i)) other = refl
form-shape rows.InfoDevice zero other = absurd (other refl)
form-shape rows.InfoDevice (suc zero) other = refl
form-shape rows.InfoDevice (suc (suc i)) other = refl
form-shape rows.InfoPartition zero other = absurd (other refl)
form-shape rows.InfoPartition (suc zero) other = refl
form-shape rows.InfoPartition (suc (suc i)) other = refl
form-shape rows.Block i other = refl
form-shape rows.ImageBlock i other = refl
form-shape rows.RawCommand i other = refl
form-shape rows.RawPayload i other = refl
form-shape rows.RawBlock i other = refl
form-shape rows.End i other = refl

shape-of : (row : Row) (first : List ℕ) (count : ℕ) → IsRowOf row first count
    → shape row ≡ find_row ROWS first count
shape-of row first count is =
    sym (shape-is row count is.count_is) ∙ ap (λ w. find_row ROWS w count) is.first_is

-- the one place at which the forms of such rows differ
abbrev pub differing : List ℕ → ℕ → ℕ
differing first count = place-of (find_row ROWS first count)

pub same-form : (row other : Row) (first : List ℕ) (count i : ℕ) → IsRowOf row first count
    → IsRowOf other first count → i ≢ differing first count → form_at row i ≡ form_at other i
same-form row other first count i is is_other not =
    let one = shape-of row first count is in
    let two = shape-of other first count is_other in
    form-shape row i (subst (λ (r : Row). i ≢ place-of r) (sym one) not)
    ∙ ap (λ (r : Row). form_at r i) (one ∙ sym two)
    ∙ sym (form-shape other i (subst (λ (r : Row). i ≢ place-of r) (sym two) not))
