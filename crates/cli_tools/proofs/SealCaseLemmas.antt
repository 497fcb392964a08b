-- The outcomes of a sealing and of a table are right by the rules, and no others are.
use Rattle.std.proofs.Common.{◌≡◌, ◌≢◌, ◌⊎◌, ℕ, List, length, Option, Some, None, refl, sym, ◌∙◌, ap, inl, inr}
use Rattle.std.specs.Prelude.{⊤}
use Rattle.part_table.specs.declared.table.Table.{Table}
use Rattle.image_pack.specs.declared.spec.SealError.{SealError}
use Rattle.image_pack.specs.declared.spec.SealSpec.{SealSpec}
use Rattle.image_pack.specs.declared.spec.SealError.TheVariants.{Memory}
use Rattle.image_pack.specs.Faults.{IsSealFault, block_offset}
use Rattle.image_pack.specs.Sealing.{sealed_text}
use Rattle.cli_course.specs.declared.status.Status.TheVariants.{Done, Input as Refused}
use Rattle.cli_inputs.specs.declared.forms.Form.TheVariants.{Spec, Json}
use Rattle.cli_inputs.specs.Forms.{HasForm}
use Rattle.cli_inputs.specs.Jsons.{IsSpecText, IsTableText, spec_read, table_read}
use Rattle.cli_tools.specs.Seals.{IsUnsealed, blamed, seal_error, seal_text, sealed_line}
use Rattle.cli_tools.specs.Tools.{judged_work, seal_work, table_file, table_line, table_work}
use Rattle.cli_course.specs.Outcomes.{Work, AnswerView, refused, worked, one_file}
use Rattle.cli_tools.specs.SealRules.{IsSealedOf, IsTableOf}
use Rattle.cli_inputs.proofs.JsonLemmas.{spec-gives, table-gives}
use Rattle.cli_inputs.specs.Rules.{IsRefusedOrRight, IsByRules}
use Rattle.cli_inputs.proofs.WorkLemmas.{same-outcome, never-refuses}
use Rattle.cli_tools.proofs.SealLemmas.{IsJudged, is_sealed, has_fault, seal-judged, fault-first, sealed-none}

-- the outcome of a table that is written
told-table : List ℕ → Table → AnswerView
told-table out t = record {
  status = Done;
  text = table_line (length t.parts.items);
  files = one_file out (table_file t);
}

table-given : (out j : List ℕ) (t : Table) → IsTableText j t → worked (table_work out (table_read j)) ≡ told-table out t
unfolding told-table
table-given out j t is = ap (λ r. worked (table_work out r)) (table-gives j t is)

pub table-right : (out j : List ℕ) → HasForm Json j → IsTableOf out j (worked (table_work out (table_read j)))
unfolding told-table
table-right out j form =
    let t = form.1.0 in
    let is = table-given out j t form.1.1 in
    record {
      table = t;
      says = form.1.1;
      status = ap (λ (o : AnswerView). o.status) is;
      text = ap (λ (o : AnswerView). o.text) is;
      files = ap (λ (o : AnswerView). o.files) is;
    }

pub table-only : (out j : List ℕ) (o : AnswerView) → IsTableOf out j o → o ≡ worked (table_work out (table_read j))
unfolding told-table
table-only out j o right =
    same-outcome o Done _ _ right.status right.text right.files
    ∙ sym (table-given out j right.table right.says)

module _ (binary spec out b s : List ℕ) where
  -- the work of a sealing by the spec that its text gives
  by-spec : SealSpec → Work
  by-spec asked = judged_work binary spec out b asked (seal_error b asked)

  spec-given : (asked : SealSpec) → IsSpecText s asked
      → worked (seal_work binary spec out b (spec_read s)) ≡ worked (by-spec asked)
  unfolding by-spec
  spec-given asked is = ap (λ r. worked (seal_work binary spec out b r)) (spec-gives s asked is)

  told-seal : SealSpec → AnswerView
  told-seal asked = record {
    status = Done;
    text = sealed_line (length (sealed_text b asked)) (block_offset b);
    files = one_file out (sealed_text b asked);
  }

  error-given : (asked : SealSpec) (error : SealError) → seal_error b asked ≡ Some error
      → worked (by-spec asked) ≡ refused (blamed binary spec error) (seal_text error)
  unfolding by-spec
  error-given asked error is = ap (λ e. worked (judged_work binary spec out b asked e)) is

  none-given : (asked : SealSpec) → seal_error b asked ≡ None → worked (by-spec asked) ≡ told-seal asked
  unfolding by-spec told-seal
  none-given asked is = ap (λ e. worked (judged_work binary spec out b asked e)) is

  -- the outcome refuses an input by the rules, or is right
  abbrev pub SealDone : AnswerView → Type 0
  SealDone o = IsRefusedOrRight (IsUnsealed binary spec b s) (IsSealedOf out b s) o

  pub seal-right : HasForm Spec s → SealDone (worked (seal_work binary spec out b (spec_read s)))
  unfolding told-seal
  seal-right form = go (seal_error b form.1.0) refl (seal-judged b form.1.0)
    where
      go : (e : Option SealError) → seal_error b form.1.0 ≡ e → IsJudged b form.1.0 e
          → SealDone (worked (seal_work binary spec out b (spec_read s)))
      go None is (is_sealed sealed) =
          let same = spec-given form.1.0 form.1.1 ∙ none-given form.1.0 is in
          inr (record {
            asked = form.1.0;
            says = form.1.1;
            sealed = sealed;
            status = ap (λ (o : AnswerView). o.status) same;
            text = ap (λ (o : AnswerView). o.text) same;
            files = ap (λ (o : AnswerView). o.files) same;
          })
      go (Some _) is (has_fault error fault) =
          inl (
            blamed binary spec error,
            seal_text error,
            record { asked = form.1.0; says = form.1.1; error = error; wrong = fault; blames = refl; tells = refl },
            spec-given form.1.0 form.1.1 ∙ error-given form.1.0 error is,
          )

  -- a refusal by the rules is the outcome
  pub unsealed-outcome : (name fault : List ℕ) → IsUnsealed binary spec b s name fault
      → worked (seal_work binary spec out b (spec_read s)) ≡ refused name fault
  unsealed-outcome name fault is =
      spec-given is.asked is.says
      ∙ (error-given is.asked is.error (fault-first b is.asked is.error is.wrong)
      ∙ (ap (λ n. refused n (seal_text is.error)) (sym is.blames) ∙ ap (λ f. refused name f) (sym is.tells)))

  pub seal-only : (o : AnswerView) → IsSealedOf out b s o
      → o ≡ worked (seal_work binary spec out b (spec_read s))
  unfolding told-seal
  seal-only o right =
      same-outcome o Done _ _ right.status right.text right.files
      ∙ sym (spec-given right.asked right.says ∙ none-given right.asked (sealed-none b right.asked right.sealed))

  -- the status of a sealing is Input only where the rules refuse it
  pub unsealed-then : HasForm Spec s → (worked (seal_work binary spec out b (spec_read s))).status ≡ Refused
      → (name : List ℕ) × (fault : List ℕ) × IsUnsealed binary spec b s name fault
  unsealed-then form h = go (seal-right form)
    where
      go : SealDone (worked (seal_work binary spec out b (spec_read s)))
          → (name : List ℕ) × (fault : List ℕ) × IsUnsealed binary spec b s name fault
      go (inl (name, fault, is, same)) = (name, fault, is)
      go (inr right) = let e : Done ≡ Refused = sym right.status ∙ h in cc

-- `seal` is right by its rules
pub seal-works : (binary spec out b s : List ℕ) → HasForm Spec s
    → IsByRules ⊤ (seal_work binary spec out b (spec_read s)) (IsUnsealed binary spec b s) (IsSealedOf out b s)
seal-works binary spec out b s form = record {
  done = λ need. seal-right binary spec out b s form;
  only = seal-only binary spec out b s;
  refuses = unsealed-then binary spec out b s form;
  exact = unsealed-outcome binary spec out b s;
}

-- `table` is right by its rules, and refuses no text that has its form
pub table-works : (out j : List ℕ) → HasForm Json j
    → IsByRules ⊤ (table_work out (table_read j)) (λ name fault. ⊥) (IsTableOf out j)
table-works out j form =
    let right = table-right out j form in
    never-refuses ⊤ (table_work out (table_read j)) (IsTableOf out j) (λ need. right) (table-only out j)
    (λ h. let e : Done ≡ Refused = sym right.status ∙ h in cc)

-- an error of a sealing is the first by the rules, unless there is no memory
pub error-first : (b : List ℕ) (asked : SealSpec) (error : SealError)
    → IsSealFault b asked error ⊎ (error ≡ Memory) → error ≢ Memory → seal_error b asked ≡ Some error
error-first b asked error (inl fault) some = fault-first b asked error fault
error-first b asked error (inr memory) some = absurd (some memory)
