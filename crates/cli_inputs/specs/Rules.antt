-- What is right for a command, by rules of its own on inputs that have their forms.
use Rattle.std.specs.Prelude.{ℕ, ⊤, ◌≡◌, ◌⊎◌, List, [], ◌∷◌, length}
use Rattle.cli_course.specs.declared.status.Status.TheVariants.{Input as Refused}
use Rattle.cli_course.specs.Outcomes.{AnswerView, Work, refused, worked}
use Rattle.cli_inputs.specs.Forms.{HasForm, IsFormFault}
use Rattle.cli_inputs.specs.Inputs.{FormInputView}

-- each of so many inputs has its form
abbrev pub AreFormed : List FormInputView → List (List ℕ) → Type 0
AreFormed [] [] = ⊤
AreFormed (input ∷ inputs) (bytes ∷ read) = HasForm input.form bytes × AreFormed inputs read
AreFormed _ _ = ⊥

-- the first input, in the order of the arguments, that does not have its form has this name; its
-- bytes have this fault
abbrev pub IsFirstInputFault : List FormInputView → List (List ℕ) → List ℕ → List ℕ → Type 0
IsFirstInputFault (input ∷ inputs) (bytes ∷ read) name fault =
    ((name ≡ input.name) × IsFormFault input.form bytes fault)
    ⊎ (HasForm input.form bytes × IsFirstInputFault inputs read name fault)
IsFirstInputFault _ _ name fault = ⊥

-- the input of this name is refused with this fault: it is the first that breaks its form; or all
-- inputs have their forms and the work refuses it
abbrev pub IsRefusedFor : List FormInputView → (List ℕ → List ℕ → Type 0) → List (List ℕ) → List ℕ
    → List ℕ → Type 0
IsRefusedFor inputs IsRefusedWork read name fault =
    IsFirstInputFault inputs read name fault ⊎ (AreFormed inputs read × IsRefusedWork name fault)

-- the outcome names the input that is refused, with its fault; otherwise each input has its form,
-- and the outcome is right
pub record IsWorked (inputs : List FormInputView) (IsRefusedWork : List ℕ → List ℕ → Type 0)
    (IsRight : AnswerView → Type 0) (read : List (List ℕ)) (o : AnswerView) : Type 0 where
  pub long : length read ≡ length inputs
  pub is : ((name : List ℕ) × (fault : List ℕ)
      × IsRefusedFor inputs IsRefusedWork read name fault × (o ≡ refused name fault))
      ⊎ (AreFormed inputs read × IsRight o)

-- the outcome names the input that the work refuses, with its fault, or it is right
abbrev pub IsRefusedOrRight : (List ℕ → List ℕ → Type 0) → (AnswerView → Type 0) → AnswerView
    → Type 0
IsRefusedOrRight IsRefusedWork IsRight o =
    ((name : List ℕ) × (fault : List ℕ) × IsRefusedWork name fault × (o ≡ refused name fault))
    ⊎ IsRight o

-- A work is right by the rules: it refuses an input where the rules do, and no other. Where what it
-- needs holds, its outcome is otherwise right. No other outcome is right.
pub record IsByRules (Needs : Type 0) (work : Work) (IsRefusedWork : List ℕ → List ℕ → Type 0)
    (IsRight : AnswerView → Type 0) : Type 0 where
  pub done : Needs → IsRefusedOrRight IsRefusedWork IsRight (worked work)
  pub only : (o : AnswerView) → IsRight o → o ≡ worked work
  pub refuses : (worked work).status ≡ Refused
      → (name : List ℕ) × (fault : List ℕ) × IsRefusedWork name fault
  pub exact : (name fault : List ℕ) → IsRefusedWork name fault → worked work ≡ refused name fault
