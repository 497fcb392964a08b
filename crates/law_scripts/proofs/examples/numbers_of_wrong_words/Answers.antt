use Rattle.std.proofs.Common.{◌≡◌, ℕ, zero, suc, ◌<◌, true, [], ◌∷◌, None, refl, sym, ◌∙◌, arith, inl, inr}
use Rattle.std.specs.Prelude.{bytes_eq, codes}
use Rattle.pico_board.proofs.FileListLemmas.{bytes_eq-same}
use Rattle.script_words.specs.declared.rows.Row.{Row}
use Rattle.script_words.specs.declared.rows.Row.TheVariants as rows
use Rattle.script_words.specs.Rows.{first_word, form_at}
use Rattle.script_words.specs.Values.{Number, value_in}
use Rattle.law_scripts.specs.Faults.{IsOfForm}
use Rattle.law_scripts.proofs.examples.numbers_of_wrong_words.Goals as goal

-- 256 is of no form of a record that begins so
no-form : (row : Row) → bytes_eq (first_word row) (codes "exclusive") ≡ true
    → value_in (form_at row 0) (codes "256") ≡ None
no-form rows.Power is = absurd (cc is)
no-form rows.ResetNormal is = absurd (cc is)
no-form rows.ResetBootsel is = absurd (cc is)
no-form rows.ResetUpdate is = absurd (cc is)
no-form rows.CutBefore is = absurd (cc is)
no-form rows.CutWithin is = absurd (cc is)
no-form rows.Buy is = absurd (cc is)
no-form rows.Exclusive is = refl
no-form rows.Erase is = absurd (cc is)
no-form rows.Read is = absurd (cc is)
no-form rows.Write is = absurd (cc is)
no-form rows.WriteRange is = absurd (cc is)
no-form rows.WriteRest is = absurd (cc is)
no-form rows.ExitXip is = absurd (cc is)
no-form rows.EnterXip is = absurd (cc is)
no-form rows.RebootNormal is = absurd (cc is)
no-form rows.RebootBootsel is = absurd (cc is)
no-form rows.RebootUpdate is = absurd (cc is)
no-form rows.RebootRam is = absurd (cc is)
no-form rows.OtpRead is = absurd (cc is)
no-form rows.OtpWrite is = absurd (cc is)
no-form rows.InfoTable is = absurd (cc is)
no-form rows.InfoTarget is = absurd (cc is)
no-form rows.InfoDevice is = absurd (cc is)
no-form rows.InfoPartition is = absurd (cc is)
no-form rows.Block is = absurd (cc is)
no-form rows.ImageBlock is = absurd (cc is)
no-form rows.RawCommand is = absurd (cc is)
no-form rows.RawPayload is = absurd (cc is)
no-form rows.RawBlock is = absurd (cc is)
no-form rows.End is = absurd (cc is)

pub returns-clause-word : goal.returns-clause-word
returns-clause-word c = (
  (rows.Exclusive, record { first_is = refl; count_is = refl }),
  inl (
    0,
    record {
      inside = omega arith;
      before = λ i few. absurd (omega (arith, few));
      wrong = λ o. absurd (cc (
          sym (no-form o.row (bytes_eq-same (first_word o.row) (codes "exclusive") o.of_row.first_is)) ∙ o.says));
    },
    refl,
  ),
)

-- 255 is of the one form
one-form : (i : ℕ) → i < 1 → IsOfForm (codes "exclusive") (codes "255" ∷ []) i
one-form zero few = record {
  row = rows.Exclusive;
  of_row = record { first_is = refl; count_is = refl };
  value = Number 255;
  says = refl;
}
one-form (suc i) few = absurd (omega (arith, few))

pub returns-clause-token : goal.returns-clause-token
returns-clause-token c = (
  (rows.Exclusive, record { first_is = refl; count_is = refl }),
  inr (record { has = refl; before = one-form; wrong = refl }, refl),
)
