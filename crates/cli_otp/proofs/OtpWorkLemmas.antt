-- The work of `otp` is right by its rules, on a form of input whose texts are those of an OTP.
use Rattle.std.proofs.Common.{◌≡◌, ℕ, List, Result, Ok, sym, ap, ◌∙◌}
use Rattle.std.specs.Prelude.{⊤}
use Rattle.table_json.specs.declared.fault.JsonFault.{JsonFault}
use Rattle.table_json.specs.Otps.{OtpView}
use Rattle.table_json.specs.OtpRules.{IsOtpText}
use Rattle.cli_course.specs.declared.status.Status.TheVariants.{Done, Input as Refused}
use Rattle.cli_course.specs.Outcomes.{AnswerView, one_file, worked}
use Rattle.cli_inputs.specs.declared.forms.Form.{Form}
use Rattle.cli_inputs.specs.Forms.{HasForm}
use Rattle.cli_inputs.specs.Rules.{IsByRules}
use Rattle.cli_inputs.proofs.WorkLemmas.{same-outcome, never-refuses}
use Rattle.cli_otp.specs.OtpOutcomes.{IsOtpOf}
use Rattle.cli_otp.specs.OtpWords.{otp_bytes, otp_line, otp_work}

module _ (form : Form) (reads : List ℕ → Result OtpView JsonFault)
    (formed : (j : List ℕ) → HasForm form j → (spec : OtpView) × IsOtpText j spec)
    (gives : (j : List ℕ) (spec : OtpView) → IsOtpText j spec → reads j ≡ Ok spec) where
  -- the outcome of an OTP that is written
  told : List ℕ → OtpView → AnswerView
  told out spec = record { status = Done; text = otp_line spec; files = one_file out (otp_bytes spec) }

  given : (out j : List ℕ) (spec : OtpView) → IsOtpText j spec → worked (otp_work out (reads j)) ≡ told out spec
  unfolding told
  given out j spec is = ap (λ (r : Result OtpView JsonFault). worked (otp_work out r)) (gives j spec is)

  right : (out j : List ℕ) → HasForm form j → IsOtpOf out j (worked (otp_work out (reads j)))
  unfolding told
  right out j has =
      let text = formed j has in
      let is = given out j text.0 text.1 in
      record {
        spec = text.0;
        says = text.1;
        status = ap (λ (o : AnswerView). o.status) is;
        text = ap (λ (o : AnswerView). o.text) is;
        files = ap (λ (o : AnswerView). o.files) is;
      }

  only : (out j : List ℕ) (o : AnswerView) → IsOtpOf out j o → o ≡ worked (otp_work out (reads j))
  unfolding told
  only out j o is =
      same-outcome o Done _ _ is.status is.text is.files ∙ sym (given out j is.spec is.says)

  -- `otp` is right by its rules, and refuses no text that has its form
  pub otp-works : (out j : List ℕ) → HasForm form j
      → IsByRules ⊤ (otp_work out (reads j)) (λ name fault. ⊥) (IsOtpOf out j)
  otp-works out j has =
      let is = right out j has in
      never-refuses ⊤ (otp_work out (reads j)) (IsOtpOf out j) (λ need. is) (only out j)
      (λ h. let e : Done ≡ Refused = sym is.status ∙ h in cc)
