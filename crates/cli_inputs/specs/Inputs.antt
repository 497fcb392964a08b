-- The inputs of a command, in the order of the arguments, and the outcome by their bytes.
use Rattle.std.specs.Prelude.{ℕ, ⊤, ◌≡◌, List, ◌∷◌, map, Option, Some, None, option_map, Result, Ok, Err}
use Rattle.std.specs.Option.{option_or}
use Rattle.cli_course.specs.Outcomes.{LimitedInputView, AnswerView, Work, refused, worked}
use Rattle.cli_course.specs.Views.{answer_from}
use Rattle.cli_inputs.specs.declared.fail.InputFail.{InputFail}
use Rattle.cli_inputs.specs.declared.fail.InputFail.TheVariants.{Refused, Memory}
use Rattle.cli_inputs.specs.declared.forms.Form.{Form}
use Rattle.cli_inputs.specs.declared.inputs.FormInput.{FormInput}
use Rattle.cli_inputs.specs.Forms.{limit_of, form_fault}

-- an input of a command: its name and its form
pub record FormInputView : Type 0 where
  pub name : List ℕ
  pub form : Form

-- an input of a command, with its name as text
abbrev pub form_input_from : FormInput → FormInputView
form_input_from input = record { name = input.name.now; form = input.form }

-- what is read of an input
abbrev pub to_read : FormInputView → LimitedInputView
to_read input = record { name = input.name; limit = limit_of input.form }

abbrev pub readings : List FormInputView → List LimitedInputView
readings inputs = map to_read inputs

-- an input whose bytes do not have its form, with their fault
abbrev pub named_fault : FormInputView → List ℕ → Option AnswerView
named_fault input bytes = option_map (refused input.name) (form_fault input.form bytes)

-- what a file gives no value for tells this refusal, or there was no memory
abbrev pub Tells : InputFail → Option AnswerView → Type 0
Tells (Refused answer) o = o ≡ Some (answer_from answer)
Tells Memory o = ⊤

-- an input gives a value only where its bytes have its form; otherwise its fault is told, or there
-- was no memory
abbrev pub IsJudged : {A : Type 0} → Result A InputFail → FormInputView → List ℕ → Type 0
IsJudged (Ok value) input bytes = form_fault input.form bytes ≡ None
IsJudged (Err fail) input bytes = Tells fail (named_fault input bytes)

-- the first input, in the order of the arguments, whose bytes do not have its form
abbrev pub first_input_fault : List FormInputView → List (List ℕ) → Option AnswerView
first_input_fault (input ∷ inputs) (bytes ∷ read) =
    option_or (named_fault input bytes) (first_input_fault inputs read)
first_input_fault _ _ = None

-- the first fault of a form comes before the work
abbrev pub unless_refused : Option AnswerView → AnswerView → AnswerView
unless_refused (Some fault) outcome = fault
unless_refused None outcome = outcome

-- the outcome of a work by the bytes of its inputs
abbrev pub outcome_by : List FormInputView → (List (List ℕ) → Work) → List (List ℕ) → AnswerView
outcome_by inputs work read = unless_refused (first_input_fault inputs read) (worked (work read))
