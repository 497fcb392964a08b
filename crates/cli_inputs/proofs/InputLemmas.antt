-- The first input that does not have its form, and what is read of longer files.
use Rattle.std.proofs.Common.{ℕ, ◌≡◌, ◌+◌, ◌<◌, true, false, cond, List, [], ◌∷◌, length, take, Option, Some, None, option_map, codes, refl, sym, ◌∙◌, ap, inl, inr, arith}
use Rattle.std.specs.Option.{option_or}
use Rattle.std.proofs.lemmas.Bool.{lt-ltb, cases_lt}
use Rattle.std.proofs.lemmas.List.{take_all, length-take, length-map}
use Rattle.cli_course.specs.declared.status.Status.{Status}
use Rattle.cli_course.specs.declared.status.Status.TheVariants.{Done, Words, Input as Refused, Bootsel, Unbootable, Mixed, NoEffect, Refused as RecordRefused, Unmet}
use Rattle.cli_course.specs.Outcomes.{AnswerView, Work, Answers, Refuses, Judges, Passes, IsUnbootable, IsMixed, HasNoEffect, IsRefused, IsUnmet, refused, worked, is_finished}
use Rattle.cli_course.specs.Ends.{cut}
use Rattle.cli_inputs.specs.declared.forms.Form.{Form}
use Rattle.cli_inputs.specs.Forms.{HasForm, limit_of, own_fault, form_fault}
use Rattle.cli_inputs.specs.Inputs.{FormInputView, to_read, readings, named_fault, first_input_fault, unless_refused, outcome_by}
use Rattle.cli_inputs.specs.Rules.{AreFormed, IsFirstInputFault}
use Rattle.cli_inputs.proofs.FormLemmas.{formed, faulty, form-apart, fault-exact}

-- the inputs have their forms, or the first one that does not is named
pub data Judged (inputs : List FormInputView) (read : List (List ℕ)) : Option AnswerView → Type 0 where
  all_formed : AreFormed inputs read → Judged inputs read None
  one_faulty : (name fault : List ℕ) → IsFirstInputFault inputs read name fault
      → Judged inputs read (Some (refused name fault))

judged-more : (input : FormInputView) (inputs : List FormInputView) (bytes : List ℕ) (read : List (List ℕ))
    (o : Option (List ℕ)) (rest : Option AnswerView)
    → form_fault input.form bytes ≡ o → Judged inputs read rest
    → Judged (input ∷ inputs) (bytes ∷ read) (option_or (option_map (refused input.name) o) rest)
judged-more input inputs bytes read (Some fault) rest is j =
    one_faulty input.name fault (inl (refl, faulty input.form bytes fault is))
judged-more input inputs bytes read None None is (all_formed all) = all_formed (formed input.form bytes is, all)
judged-more input inputs bytes read None (Some _) is (one_faulty name fault first) =
    one_faulty name fault (inr (formed input.form bytes is, first))

pub judged-first : (inputs : List FormInputView) (read : List (List ℕ)) → length read ≡ length inputs
    → Judged inputs read (first_input_fault inputs read)
judged-first [] [] long = all_formed tt
judged-first [] (bytes ∷ read) long = absurd (omega arith)
judged-first (input ∷ inputs) [] long = absurd (omega arith)
judged-first (input ∷ inputs) (bytes ∷ read) long =
    judged-more input inputs bytes read (form_fault input.form bytes) (first_input_fault inputs read) refl
    (judged-first inputs read (omega arith))

-- a file that has its form has no fault
pub no-fault : (form : Form) (bytes : List ℕ) → HasForm form bytes → form_fault form bytes ≡ None
no-fault form bytes has = go (form_fault form bytes) refl
  where
    go : (o : Option (List ℕ)) → form_fault form bytes ≡ o → o ≡ None
    go None is = refl
    go (Some fault) is = absurd (form-apart form bytes fault has (faulty form bytes fault is))

-- inputs that have their forms have no fault
pub formed-none : (inputs : List FormInputView) (read : List (List ℕ)) → AreFormed inputs read
    → first_input_fault inputs read ≡ None
formed-none [] [] all = refl
formed-none [] (bytes ∷ read) all = absurd all
formed-none (input ∷ inputs) [] all = absurd all
formed-none (input ∷ inputs) (bytes ∷ read) all =
    ap (λ o. option_or (option_map (refused input.name) o) (first_input_fault inputs read))
    (no-fault input.form bytes all.0)
    ∙ formed-none inputs read all.1

pub first-apart : (inputs : List FormInputView) (read : List (List ℕ)) (name fault : List ℕ) → AreFormed inputs read
    → IsFirstInputFault inputs read name fault → ⊥
first-apart [] read name fault all first = first
first-apart (input ∷ inputs) [] name fault all first = first
first-apart (input ∷ inputs) (bytes ∷ read) name fault all (inl (is, wrong)) =
    form-apart input.form bytes fault all.0 wrong
first-apart (input ∷ inputs) (bytes ∷ read) name fault all (inr (form, first)) =
    first-apart inputs read name fault all.1 first

-- the first fault by the rules is the one that is found
pub first-exact : (inputs : List FormInputView) (read : List (List ℕ)) (name fault : List ℕ)
    → IsFirstInputFault inputs read name fault → first_input_fault inputs read ≡ Some (refused name fault)
first-exact [] read name fault first = absurd first
first-exact (input ∷ inputs) [] name fault first = absurd first
first-exact (input ∷ inputs) (bytes ∷ read) name fault (inl (is, wrong)) =
    ap (λ o. option_or (option_map (refused input.name) o) (first_input_fault inputs read))
    (fault-exact input.form bytes fault wrong)
    ∙ ap (λ n. Some (refused n fault)) (sym is)
first-exact (input ∷ inputs) (bytes ∷ read) name fault (inr (form, first)) =
    ap (λ o. option_or (option_map (refused input.name) o) (first_input_fault inputs read))
    (no-fault input.form bytes form)
    ∙ first-exact inputs read name fault first

-- the fault of a form is a refusal
fault-status : (inputs : List FormInputView) (read : List (List ℕ)) (o : AnswerView)
    → first_input_fault inputs read ≡ Some o
    → o.status ≡ Refused
fault-status [] read o h = cc
fault-status (input ∷ inputs) [] o h = cc
fault-status (input ∷ inputs) (bytes ∷ read) o h = go (form_fault input.form bytes) h (fault-status inputs read o)
  where
    go : (a : Option (List ℕ)) → option_or (option_map (refused input.name) a) (first_input_fault inputs read) ≡ Some o
        → (first_input_fault inputs read ≡ Some o → o.status ≡ Refused) → o.status ≡ Refused
    go None e rest = rest e
    go (Some fault) e rest = let same : o ≡ refused input.name fault = cc in ap (λ (x : AnswerView). x.status) same

-- a work ends with a text, and its status is not that of other words
abbrev pub IsText : Status → Type 0
IsText status = (is_finished status ≡ true) × (status ≡ Words → ⊥)

worked-text : (w : Work) → IsText (worked w).status
worked-text (Answers true text files) = (refl, λ (e : Bootsel ≡ Words). cc)
worked-text (Answers false text files) = (refl, λ (e : Done ≡ Words). cc)
worked-text (Refuses name fault) = (refl, λ (e : Refused ≡ Words). cc)
worked-text (Judges Passes text) = (refl, λ (e : Done ≡ Words). cc)
worked-text (Judges IsUnbootable text) = (refl, λ (e : Unbootable ≡ Words). cc)
worked-text (Judges IsMixed text) = (refl, λ (e : Mixed ≡ Words). cc)
worked-text (Judges HasNoEffect text) = (refl, λ (e : NoEffect ≡ Words). cc)
worked-text (Judges IsRefused text) = (refl, λ (e : RecordRefused ≡ Words). cc)
worked-text (Judges IsUnmet text) = (refl, λ (e : Unmet ≡ Words). cc)

refused-text : (status : Status) → status ≡ Refused → IsText status
refused-text status is = (ap is_finished is, λ h. let e : Refused ≡ Words = sym is ∙ h in cc)

pub outcome-text : (inputs : List FormInputView) (work : List (List ℕ) → Work) (read : List (List ℕ))
    → IsText (outcome_by inputs work read).status
outcome-text inputs work read = go (first_input_fault inputs read) refl
  where
    go : (o : Option AnswerView) → first_input_fault inputs read ≡ o
        → IsText (unless_refused o (worked (work read))).status
    go None is = worked-text (work read)
    go (Some fault) is = refused-text fault.status (fault-status inputs read fault is)

large : (form : Form) (xs : List ℕ) → limit_of form < length xs → form_fault form xs ≡ Some (codes "too-large")
large form xs h = ap (λ t. cond t (Some (codes "too-large")) (own_fault form xs)) (lt-ltb (limit_of form) (length xs) h)

-- what is read of a file has its fault
form-cut : (form : Form) (bytes : List ℕ) → form_fault form (take (limit_of form + 1) bytes) ≡ form_fault form bytes
form-cut form bytes =
    elim (cases_lt (limit_of form) (length bytes)) [
      | inl above ↦
          let long = length-take (limit_of form + 1) bytes in
          large form (take (limit_of form + 1) bytes) (omega (arith, long)) ∙ sym (large form bytes above)
      | inr within ↦ ap (form_fault form) (take_all (limit_of form + 1) bytes (omega arith))
    ]

-- a file without a fault is read whole
whole-cut : (form : Form) (bytes : List ℕ) → form_fault form bytes ≡ None → take (limit_of form + 1) bytes ≡ bytes
whole-cut form bytes h =
    elim (cases_lt (limit_of form) (length bytes)) [
      | inl above ↦ let e : None ≡ Some (codes "too-large") = sym h ∙ large form bytes above in cc
      | inr within ↦ take_all (limit_of form + 1) bytes (omega arith)
    ]

first-cut : (inputs : List FormInputView) (whole : List (List ℕ))
    → first_input_fault inputs (cut (readings inputs) whole) ≡ first_input_fault inputs whole
first-cut [] [] = refl
first-cut [] (bytes ∷ whole) = refl
first-cut (input ∷ inputs) [] = refl
first-cut (input ∷ inputs) (bytes ∷ whole) =
    ap (λ o. option_or (option_map (refused input.name) o) (first_input_fault inputs (cut (readings inputs) whole)))
    (form-cut input.form bytes)
    ∙ ap (λ rest. option_or (named_fault input bytes) rest) (first-cut inputs whole)

none-cut : (inputs : List FormInputView) (whole : List (List ℕ)) → length whole ≡ length inputs
    → first_input_fault inputs whole ≡ None → cut (readings inputs) whole ≡ whole
none-cut [] [] long h = refl
none-cut [] (bytes ∷ whole) long h = absurd (omega arith)
none-cut (input ∷ inputs) [] long h = absurd (omega arith)
none-cut (input ∷ inputs) (bytes ∷ whole) long h =
    go (form_fault input.form bytes) refl h (none-cut inputs whole (omega arith))
  where
    go : (o : Option (List ℕ)) → form_fault input.form bytes ≡ o
        → option_or (option_map (refused input.name) o) (first_input_fault inputs whole) ≡ None
        → (first_input_fault inputs whole ≡ None → cut (readings inputs) whole ≡ whole)
        → cut (readings (input ∷ inputs)) (bytes ∷ whole) ≡ bytes ∷ whole
    go None is e rest =
        ap (λ b. b ∷ cut (readings inputs) whole) (whole-cut input.form bytes is) ∙ ap (λ w. bytes ∷ w) (rest e)
    go (Some fault) is e rest = cc

-- the outcome of what is read is that of whole files
pub outcome-cut : (inputs : List FormInputView) (work : List (List ℕ) → Work) (whole : List (List ℕ))
    → length whole ≡ length inputs
    → outcome_by inputs work (cut (readings inputs) whole) ≡ outcome_by inputs work whole
outcome-cut inputs work whole long = go (first_input_fault inputs whole) refl
  where
    go : (o : Option AnswerView) → first_input_fault inputs whole ≡ o
        → outcome_by inputs work (cut (readings inputs) whole) ≡ outcome_by inputs work whole
    go None is = ap (outcome_by inputs work) (none-cut inputs whole long is)
    go (Some fault) is =
        ap (λ o. unless_refused o (worked (work (cut (readings inputs) whole)))) (first-cut inputs whole ∙ is)
        ∙ sym (ap (λ o. unless_refused o (worked (work whole))) is)

-- as many files are read as there are inputs
pub readings-long : (inputs : List FormInputView) → length (readings inputs) ≡ length inputs
readings-long inputs = length-map inputs to_read
