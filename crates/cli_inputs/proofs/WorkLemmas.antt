-- A work that is right by the rules on inputs that have their forms gives the right outcome on all inputs.
use Rattle.std.proofs.Common.{ℕ, suc, ◌≡◌, ◌⊎◌, ◌↔◌, List, [], ◌∷◌, length, Option, Some, None, refl, sym, ◌∙◌, ap, inl, inr, arith}
use Rattle.pico_board.specs.Files.{File}
use Rattle.cli_course.specs.declared.status.Status.{Status}
use Rattle.cli_course.specs.declared.status.Status.TheVariants.{Input as Refused}
use Rattle.cli_course.specs.Outcomes.{AnswerView, Work, refused, worked}
use Rattle.cli_inputs.specs.Inputs.{FormInputView, first_input_fault, unless_refused, outcome_by}
use Rattle.cli_inputs.specs.Rules.{AreFormed, IsRefusedFor, IsWorked, IsRefusedOrRight, IsByRules}
use Rattle.cli_inputs.proofs.InputLemmas.{Judged, all_formed, one_faulty, judged-first, formed-none, first-apart, first-exact}

-- an outcome is its status, its text and its files
pub same-outcome : (o : AnswerView) (s : Status) (t : List ℕ) (files : List File) → o.status ≡ s → o.text ≡ t
    → o.files ≡ files → o ≡ record { status = s; text = t; files = files }
same-outcome o s t files a b c =
    ap (λ x. record { status = x; text = o.text; files = o.files }) a
    ∙ (ap (λ x. record { status = s; text = x; files = o.files }) b ∙ ap
    (λ x. record { status = s; text = t; files = x }) c)

-- a work that refuses nothing is right by the rules
pub never-refuses : (Needs : Type 0) (work : Work) (IsRight : AnswerView → Type 0) → (Needs → IsRight (worked work))
    → ((o : AnswerView) → IsRight o → o ≡ worked work) → ((worked work).status ≡ Refused → ⊥)
    → IsByRules Needs work (λ name fault. ⊥) IsRight
never-refuses Needs work IsRight right only apart = record {
  done = λ need. inr (right need);
  only = only;
  refuses = λ h. absurd (apart h);
  exact = λ name fault h. absurd h;
}

-- a work is right by the rules where it is so for lesser needs
pub needs-more : {Needs Lesser : Type 0} {work : Work} {IsRefusedWork : List ℕ → List ℕ → Type 0}
    {IsRight : AnswerView → Type 0} → (Needs → Lesser) → IsByRules Lesser work IsRefusedWork IsRight
    → IsByRules Needs work IsRefusedWork IsRight
needs-more less rules = record {
  done = λ need. rules.done (less need);
  only = rules.only;
  refuses = rules.refuses;
  exact = rules.exact;
}

module _ (inputs : List FormInputView) (Needs : List (List ℕ) → Type 0) (work : List (List ℕ) → Work)
    (IsRefusedWork : List (List ℕ) → List ℕ → List ℕ → Type 0) (IsRight : List (List ℕ) → AnswerView → Type 0)
    (works : (read : List (List ℕ)) → AreFormed inputs read
    → IsByRules (Needs read) (work read) (IsRefusedWork read) (IsRight read)) where
  -- the outcome is right
  pub work-obeys : (read : List (List ℕ)) → length read ≡ length inputs → Needs read
      → IsWorked inputs (IsRefusedWork read) (IsRight read) read (outcome_by inputs work read)
  work-obeys read long need = go (first_input_fault inputs read) (judged-first inputs read long)
    where
      told : AreFormed inputs read → IsRefusedOrRight (IsRefusedWork read) (IsRight read) (worked (work read))
          → IsWorked inputs (IsRefusedWork read) (IsRight read) read (worked (work read))
      told all (inl (name, fault, refuses, is)) =
          record { long = long; is = inl (name, fault, inr (all, refuses), is) }
      told all (inr right) = record { long = long; is = inr (all, right) }

      go : (o : Option AnswerView) → Judged inputs read o
          → IsWorked inputs (IsRefusedWork read) (IsRight read) read (unless_refused o (worked (work read)))
      go None (all_formed all) = told all ((works read all).done need)
      go (Some _) (one_faulty name fault first) = record { long = long; is = inl (name, fault, inl first, refl) }

  -- where the inputs have their forms the outcome is that of the work
  formed-outcome : (read : List (List ℕ)) → AreFormed inputs read → worked (work read) ≡ outcome_by inputs work read
  formed-outcome read all = sym (ap (λ j. unless_refused j (worked (work read))) (formed-none inputs read all))

  -- only the outcome is right
  pub work-only : (read : List (List ℕ)) (o : AnswerView)
      → IsWorked inputs (IsRefusedWork read) (IsRight read) read o → o ≡ outcome_by inputs work read
  work-only read o right = go right.is
    where
      go : ((name : List ℕ) × (fault : List ℕ) × IsRefusedFor inputs (IsRefusedWork read) read name fault
          × (o ≡ refused name fault)) ⊎ (AreFormed inputs read × IsRight read o) → o ≡ outcome_by inputs work read
      go (inl (name, fault, inl first, is)) =
          is ∙ sym (ap (λ j. unless_refused j (worked (work read))) (first-exact inputs read name fault first))
      go (inl (name, fault, inr (all, refuses), is)) =
          is ∙ (sym ((works read all).exact name fault refuses) ∙ formed-outcome read all)
      go (inr (all, fits)) = (works read all).only o fits ∙ formed-outcome read all

  -- an input is refused
  abbrev pub IsRefusedInput : List (List ℕ) → Type 0
  IsRefusedInput read =
      (name : List ℕ) × (fault : List ℕ) × IsRefusedFor inputs (IsRefusedWork read) read name fault

  refused-then : (read : List (List ℕ)) (o : Option AnswerView) → Judged inputs read o
      → (unless_refused o (worked (work read))).status ≡ Refused → IsRefusedInput read
  refused-then read None (all_formed all) h = let r = (works read all).refuses h in (r.0, r.1, inr (all, r.2))
  refused-then read (Some _) (one_faulty name fault first) h = (name, fault, inl first)

  then-refused : (read : List (List ℕ)) (o : Option AnswerView) → Judged inputs read o → IsRefusedInput read
      → (unless_refused o (worked (work read))).status ≡ Refused
  then-refused read None (all_formed all) (name, fault, inl first) =
      absurd (first-apart inputs read name fault all first)
  then-refused read None (all_formed all) (name, fault, inr refuses) =
      ap (λ (o : AnswerView). o.status) ((works read all).exact name fault refuses.1)
  then-refused read (Some _) (one_faulty name fault first) h = refl

  -- the status is Input exactly where an input breaks its form, or the work refuses one
  pub work-refused : (read : List (List ℕ)) → length read ≡ length inputs
      → ((outcome_by inputs work read).status ≡ Refused) ↔ IsRefusedInput read
  work-refused read long =
      let j = judged-first inputs read long in
      (refused-then read (first_input_fault inputs read) j, then-refused read (first_input_fault inputs read) j)

-- inputs that have their forms are as many as there are inputs
pub formed-long : (inputs : List FormInputView) (read : List (List ℕ)) → AreFormed inputs read
    → length read ≡ length inputs
formed-long [] [] all = refl
formed-long [] (bytes ∷ read) all = absurd all
formed-long (input ∷ inputs) [] all = absurd all
formed-long (input ∷ inputs) (bytes ∷ read) all = ap suc (formed-long inputs read all.1)

-- what holds of each one, two, three and four inputs holds of each list of so many
pub of-one : (P : List (List ℕ) → Type 0) → ((a : List ℕ) → P (a ∷ [])) → (read : List (List ℕ)) → length read ≡ 1
    → P read
of-one P all [] long = absurd (omega arith)
of-one P all (a ∷ []) long = all a
of-one P all (a ∷ b ∷ read) long = absurd (omega arith)

pub of-two : (P : List (List ℕ) → Type 0) → ((a b : List ℕ) → P (a ∷ b ∷ [])) → (read : List (List ℕ))
    → length read ≡ 2 → P read
of-two P all [] long = absurd (omega arith)
of-two P all (a ∷ read) long = of-one (λ rest. P (a ∷ rest)) (all a) read (omega arith)

pub of-three : (P : List (List ℕ) → Type 0) → ((a b c : List ℕ) → P (a ∷ b ∷ c ∷ [])) → (read : List (List ℕ))
    → length read ≡ 3 → P read
of-three P all [] long = absurd (omega arith)
of-three P all (a ∷ read) long = of-two (λ rest. P (a ∷ rest)) (all a) read (omega arith)

pub of-four : (P : List (List ℕ) → Type 0) → ((a b c d : List ℕ) → P (a ∷ b ∷ c ∷ d ∷ [])) → (read : List (List ℕ))
    → length read ≡ 4 → P read
of-four P all [] long = absurd (omega arith)
of-four P all (a ∷ read) long = of-three (λ rest. P (a ∷ rest)) (all a) read (omega arith)
