-- `list` and `script` are right by their rules.
use Rattle.std.proofs.Common.{◌≡◌, ℕ, ◌+◌, false, List, [], length, Result, Ok, Err, refl, sym, ap, ◌∙◌, inl, inr}
use Rattle.std.specs.Prelude.{⊤}
use Rattle.boot_script.specs.Events.{EventView}
use Rattle.boot_script.specs.Scripts.{events_read, script_events}
use Rattle.boot_script.proofs.WalkLemmas.{events-read}
use Rattle.cli_course.specs.declared.status.Status.TheVariants.{Done, Input as Refused}
use Rattle.cli_course.specs.Outcomes.{Answers, AnswerView, one_file, refused, worked}
use Rattle.cli_inputs.specs.declared.forms.Form.TheVariants.{Script, Text}
use Rattle.cli_inputs.specs.Forms.{HasForm}
use Rattle.cli_inputs.specs.Rules.{IsRefusedOrRight, IsByRules}
use Rattle.cli_inputs.proofs.WorkLemmas.{same-outcome, never-refuses}
use Rattle.script_text.specs.declared.script.TextError.{TextError}
use Rattle.script_text.specs.declared.script.TextScript.{TextScript}
use Rattle.script_text.specs.Listing.{listed}
use Rattle.script_text.specs.Meaning.{IsScriptTextFault, IsScriptOf}
use Rattle.script_text.specs.Reading.{script_of, text_events}
use Rattle.script_text.proofs.MeaningLemmas.{fault-comes, text-fails, text-means, text-read}
use Rattle.cli_scripts.specs.TextRules.{IsListOf, IsTextRefused, IsWrittenOf}
use Rattle.cli_scripts.specs.TextWorks.{list_work, read_work, script_line, text_fault, write_work}

told-list : List EventView → AnswerView
told-list es = record { status = Done; text = listed es; files = [] }

list-right : (script : List ℕ) → HasForm Script script → IsListOf script (worked (list_work script))
list-right script form = record {
  happened = script_events script;
  reads = events-read script form;
  status = refl;
  text = refl;
  files = refl;
}

list-only : (script : List ℕ) (o : AnswerView) → IsListOf script o → o ≡ worked (list_work script)
unfolding told-list
list-only script o is =
    let same : is.happened ≡ script_events script = sym (ap events_read is.reads) in
    same-outcome o Done _ _ is.status is.text is.files ∙ ap told-list same

-- `list` is right by its rules, and refuses nothing
pub list-works : (script : List ℕ) → HasForm Script script
    → IsByRules ⊤ (list_work script) (λ name fault. ⊥) (IsListOf script)
list-works script form =
    never-refuses ⊤ (list_work script) (IsListOf script) (λ need. list-right script form) (list-only script) (λ h. cc)

module _ (name out image : List ℕ) where
  read-outcome : Result (List EventView) TextError → AnswerView
  read-outcome r = worked (read_work name out r)

  told-script : List EventView → AnswerView
  told-script es = record {
    status = Done;
    text = script_line (length es + 1);
    files = one_file out (script_of es);
  }

  read-ok : (text : List ℕ) (es : List EventView) → text_events image text ≡ Ok es
      → worked (write_work name out image text) ≡ told-script es
  unfolding read-outcome told-script
  read-ok text es is = ap read-outcome is

  read-err : (text : List ℕ) (fault : TextError) → text_events image text ≡ Err fault
      → worked (write_work name out image text) ≡ refused name (text_fault fault)
  unfolding read-outcome
  read-err text fault is = ap read-outcome is

  write-right : (text : List ℕ) → HasForm Text text
      → IsRefusedOrRight (IsTextRefused name image text) (IsWrittenOf image text out) (worked (write_work name out image text))
  unfolding told-script
  write-right text form = go (text_events image text) refl
    where
      go : (r : Result (List EventView) TextError) → text_events image text ≡ r
          → IsRefusedOrRight (IsTextRefused name image text) (IsWrittenOf image text out) (worked (write_work name out image text))
      go (Ok es) is =
          let told = read-ok text es is in
          inr (record {
            happened = es;
            spelled = text-means image text es is;
            status = ap (λ (o : AnswerView). o.status) told;
            told = ap (λ (o : AnswerView). o.text) told;
            files = ap (λ (o : AnswerView). o.files) told;
          })
      go (Err fault) is =
          inl (
            name,
            text_fault fault,
            record {
              error = fault;
              wrong = text-fails image text fault is;
              blames = refl;
              tells = refl;
            },
            read-err text fault is,
          )

  write-only : (text : List ℕ) (o : AnswerView) → HasForm Text text → IsWrittenOf image text out o
      → o ≡ worked (write_work name out image text)
  unfolding told-script
  write-only text o form is =
      same-outcome o Done _ _ is.status is.told is.files
      ∙ sym (read-ok text is.happened (text-read image text is.happened is.spelled))

  write-exact : (text blamed fault : List ℕ) → HasForm Text text → IsTextRefused name image text blamed fault
      → worked (write_work name out image text) ≡ refused blamed fault
  write-exact text blamed fault form is =
      read-err text is.error (fault-comes image text is.error is.wrong)
      ∙ (ap (λ n. refused n (text_fault is.error)) (sym is.blames) ∙ ap (λ f. refused blamed f) (sym is.tells))

  write-refuses : (text : List ℕ) → HasForm Text text → (worked (write_work name out image text)).status ≡ Refused
      → (blamed : List ℕ) × (fault : List ℕ) × IsTextRefused name image text blamed fault
  write-refuses text form h = go (write-right text form)
    where
      go : IsRefusedOrRight (IsTextRefused name image text) (IsWrittenOf image text out) (worked (write_work name out image text))
          → (blamed : List ℕ) × (fault : List ℕ) × IsTextRefused name image text blamed fault
      go (inl (blamed, fault, is, same)) = (blamed, fault, is)
      go (inr right) = let e : Done ≡ Refused = sym right.status ∙ h in cc

  -- what is answered with the script of a text
  pub written-told : (text line : List ℕ) (s : TextScript) → IsScriptOf image text s → line ≡ script_line s.records
      → worked (Answers false line (one_file out s.bytes.items)) ≡ worked (write_work name out image text)
  unfolding told-script
  written-told text line s is told =
      ap (λ t. worked (Answers false t (one_file out s.bytes.items))) (told ∙ ap script_line is.records)
      ∙ (ap (λ bytes. worked (Answers false (script_line (length is.es + 1)) (one_file out bytes))) is.bytes
      ∙ sym (read-ok text is.es (text-read image text is.es is.text_is)))

  pub fault-refused : (text : List ℕ) (fault : TextError) → HasForm Text text → IsScriptTextFault image text fault
      → worked (write_work name out image text) ≡ refused name (text_fault fault)
  fault-refused text fault form is = read-err text fault (fault-comes image text fault is)

-- `script` is right by its rules
pub write-works : (text out image t : List ℕ) → HasForm Text t
    → IsByRules ⊤ (write_work text out image t) (IsTextRefused text image t) (IsWrittenOf image t out)
write-works text out image t form = record {
  done = λ need. write-right text out image t form;
  only = λ o. write-only text out image t o form;
  refuses = write-refuses text out image t form;
  exact = λ name fault. write-exact text out image t name fault form;
}
