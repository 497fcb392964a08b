-- `copy` is right by its rules.
use Rattle.std.proofs.Common.{◌≡◌, ℕ, ◌*◌, ◌/◌, List, length, refl, sym, ap, ◌∙◌, arith}
use Rattle.std.specs.Prelude.{⊤}
use Rattle.cli_course.specs.declared.status.Status.TheVariants.{Done}
use Rattle.cli_course.specs.Outcomes.{AnswerView, one_file, worked}
use Rattle.cli_inputs.specs.declared.forms.Form.TheVariants.{Uf2}
use Rattle.cli_inputs.specs.Forms.{HasForm}
use Rattle.cli_inputs.specs.Rules.{IsByRules}
use Rattle.cli_inputs.proofs.WorkLemmas.{same-outcome, never-refuses}
use Rattle.script_text.specs.Reading.{script_of}
use Rattle.cli_scripts.specs.Copies.{blocks_in, copy_events, copy_line, copy_work}
use Rattle.cli_scripts.specs.TextRules.{IsCopyOf}
use Rattle.cli_scripts.proofs.BlockLemmas.{blocks-long, blocks-only, blocks-right, count-of}

module _ (out : List ℕ) where
  told-copy : List (List ℕ) → AnswerView
  told-copy blocks = record {
    status = Done;
    text = copy_line (length blocks);
    files = one_file out (script_of (copy_events blocks));
  }

  copy-right : (uf2 : List ℕ) → HasForm Uf2 uf2 → IsCopyOf uf2 out (worked (copy_work out uf2))
  copy-right uf2 form =
      let whole = form.1.1 in
      let r = blocks-right (length uf2 / 512) uf2 (omega arith) in record {
        blocks = blocks_in (length uf2 / 512) uf2;
        each = r.0;
        whole = r.1;
        status = refl;
        told = refl;
        files = refl;
      }

  copy-only : (uf2 : List ℕ) (o : AnswerView) → IsCopyOf uf2 out o → o ≡ worked (copy_work out uf2)
  unfolding told-copy
  copy-only uf2 o is =
      let long : length uf2 ≡ 512 * length is.blocks =
      ap (λ (xs : List ℕ). length xs) is.whole ∙ blocks-long is.blocks is.each in
      let count : length uf2 / 512 ≡ length is.blocks = count-of (length uf2) (length is.blocks) long in
      let same : blocks_in (length uf2 / 512) uf2 ≡ is.blocks =
      ap (λ n. blocks_in n uf2) count ∙ (ap (blocks_in (length is.blocks)) is.whole
      ∙ blocks-only is.blocks is.each) in
      same-outcome o Done _ _ is.status is.told is.files ∙ ap told-copy (sym same)

-- `copy` is right by its rules, and refuses nothing
pub copy-works : (out uf2 : List ℕ) → HasForm Uf2 uf2
    → IsByRules ⊤ (copy_work out uf2) (λ name fault. ⊥) (IsCopyOf uf2 out)
copy-works out uf2 form =
    never-refuses ⊤ (copy_work out uf2) (IsCopyOf uf2 out) (λ need. copy-right out uf2 form) (copy-only out uf2)
    (λ h. cc)
