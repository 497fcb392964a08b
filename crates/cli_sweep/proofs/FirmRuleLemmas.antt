-- `firm` is right by its rules.
use Rattle.std.proofs.Common.{◌≡◌, ◌↔◌, ℕ, ◌++◌, Bool, true, false, true≢false, codes, List, [], ◌∷◌, Result, Ok, Err, refl, sym, ap, ◌∙◌, subst, inl, inr}
use Rattle.std.specs.Prelude.{⊤}
use Rattle.pico_board.specs.declared.boot.Cpu.{Cpu}
use Rattle.pico_board.specs.declared.window.Window.{Window}
use Rattle.pico_board.specs.Content.{Content, window_bytes}
use Rattle.image_def.specs.declared.started.Started.{Started}
use Rattle.image_check.specs.declared.why.Why.{Why}
use Rattle.image_check.specs.Addressing.{in_flash}
use Rattle.image_check.specs.Image.{image_at, started_of}
use Rattle.image_check.specs.SameImage.{HoldsImage}
use Rattle.image_check.specs.Valid.{Valid}
use Rattle.image_check.proofs.LawLemmas.{at-valid, valid-at, why-exactly}
use Rattle.boot_sweep.specs.Firms.{IsFirm}
use Rattle.cli_course.specs.declared.status.Status.TheVariants.{Done, Input as Refused}
use Rattle.cli_course.specs.Outcomes.{AnswerView, refused, worked}
use Rattle.cli_inputs.specs.Rules.{IsRefusedOrRight, IsByRules}
use Rattle.cli_inputs.proofs.WorkLemmas.{same-outcome}
use Rattle.text_lines.specs.Faults.{why_text}
use Rattle.boot_firm.specs.Firmness.{is_firm}
use Rattle.cli_sweep.specs.FirmWorks.{firm_line, firm_work, image_alone, judged_work, whole_window}
use Rattle.cli_sweep.specs.SweepRules.{IsFirmOf, IsFirmRefused, SaysFirm}
use Rattle.boot_firm.proofs.FirmnessLemmas.{firm-decides}

-- an image that is valid is held
held : (c : Content) (w : Window) (cpu : Cpu) (s : Started) → Valid c w cpu true s → HoldsImage cpu (window_bytes c w) s
held c w cpu s v = record {
  image = v.image;
  entry = v.entry;
  sound = v.sound;
  started = v.started ∙ ap (λ x. started_of x v.image v.entry) (sym (ap (λ (t : Started). t.window) v.started));
}

module _ (image : List ℕ) (cpu : Cpu) where
  abbrev alone : Result Started Why
  alone = image_at (image_alone image) (whole_window image) cpu true

  abbrev bytes : List ℕ
  bytes = window_bytes (image_alone image) (whole_window image)

  -- the line of a valid image is right
  says : (s : Started) → Valid (image_alone image) (whole_window image) cpu true s
      → SaysFirm image cpu s (firm_line (is_firm cpu bytes s))
  says s v =
      let d = firm-decides cpu bytes s (held (image_alone image) (whole_window image) cpu s v) in
      go (is_firm cpu bytes s) refl d
    where
      go : (b : Bool) → is_firm cpu bytes s ≡ b → (is_firm cpu bytes s ≡ true) ↔ IsFirm cpu bytes s
          → SaysFirm image cpu s (firm_line (is_firm cpu bytes s))
      go true is d = inl (record { valid = v; firm = d.0 is }, ap firm_line is)
      go false is d = inr (λ f. true≢false (sym (d.1 f.firm) ∙ is), ap firm_line is)

  -- only that line is
  only-line : (s : Started) (text : List ℕ) → Valid (image_alone image) (whole_window image) cpu true s
      → SaysFirm image cpu s text → text ≡ firm_line (is_firm cpu bytes s)
  only-line s text v is =
      go is (firm-decides cpu bytes s (held (image_alone image) (whole_window image) cpu s v))
    where
      go : SaysFirm image cpu s text → (is_firm cpu bytes s ≡ true) ↔ IsFirm cpu bytes s
          → text ≡ firm_line (is_firm cpu bytes s)
      go (inl firmly) d = firmly.1 ∙ ap firm_line (sym (d.1 firmly.0.firm))
      go (inr loose) d = other (is_firm cpu bytes s) refl
        where
          other : (b : Bool) → is_firm cpu bytes s ≡ b → text ≡ firm_line (is_firm cpu bytes s)
          other true is = absurd (loose.0 (record { valid = v; firm = d.0 is }))
          other false is = loose.1 ∙ ap firm_line (sym is)

told-firm : List ℕ → Cpu → Started → AnswerView
told-firm image cpu s = record {
  status = Done;
  text = firm_line (is_firm cpu (window_bytes (image_alone image) (whole_window image)) s);
  files = [];
}

module _ (name : List ℕ) (cpu : Cpu) where
  judged-ok : (image : List ℕ) (r : Result Started Why) (s : Started) → r ≡ Ok s
      → worked (judged_work name image cpu r) ≡ told-firm image cpu s
  unfolding told-firm
  judged-ok image r s is = ap (λ x. worked (judged_work name image cpu x)) is

  judged-err : (image : List ℕ) (r : Result Started Why) (why : Why) → r ≡ Err why
      → worked (judged_work name image cpu r) ≡ refused name (codes "not-bootable " ++ why_text why)
  judged-err image r why is = ap (λ x. worked (judged_work name image cpu x)) is

  firm-right : (image : List ℕ)
      → IsRefusedOrRight (IsFirmRefused name image cpu) (IsFirmOf image cpu) (worked (firm_work name image cpu))
  unfolding told-firm
  firm-right [] = inl (name, codes "empty", (refl, inl (refl, refl)), refl)
  firm-right (b ∷ bs) = go (alone (b ∷ bs) cpu) refl
    where
      go : (r : Result Started Why) → alone (b ∷ bs) cpu ≡ r
          → IsRefusedOrRight (IsFirmRefused name (b ∷ bs) cpu) (IsFirmOf (b ∷ bs) cpu)
          (worked (firm_work name (b ∷ bs) cpu))
      go (Ok s) is =
          let v = valid-at (image_alone (b ∷ bs)) (whole_window (b ∷ bs)) cpu true s is in
          let told = judged-ok (b ∷ bs) (alone (b ∷ bs) cpu) s is in
          inr (record {
            some = λ (e : (b ∷ bs) ≡ []). cc;
            started = s;
            valid = v;
            status = ap (λ (o : AnswerView). o.status) told;
            text = subst (λ (o : AnswerView). SaysFirm (b ∷ bs) cpu s o.text) (sym told) (says (b ∷ bs) cpu s v);
            files = ap (λ (o : AnswerView). o.files) told;
          })
      go (Err why) is =
          let w = (why-exactly in_flash (whole_window (b ∷ bs)) cpu true (image_alone (b ∷ bs)).otp
          (window_bytes (image_alone (b ∷ bs)) (whole_window (b ∷ bs))) why).1 is in
          inl (
            name,
            codes "not-bootable " ++ why_text why,
            (refl, inr (λ (e : (b ∷ bs) ≡ []). cc, why, w, refl)),
            judged-err (b ∷ bs) (alone (b ∷ bs) cpu) why is,
          )

  firm-only : (image : List ℕ) (o : AnswerView) → IsFirmOf image cpu o → o ≡ worked (firm_work name image cpu)
  unfolding told-firm
  firm-only [] o is = absurd (is.some refl)
  firm-only (b ∷ bs) o is =
      let at = at-valid (image_alone (b ∷ bs)) (whole_window (b ∷ bs)) cpu true is.started is.valid in
      same-outcome o Done _ _ is.status (only-line (b ∷ bs) cpu is.started o.text is.valid is.text) is.files
      ∙ sym (judged-ok (b ∷ bs) (alone (b ∷ bs) cpu) is.started at)

  firm-exact : (image blamed fault : List ℕ) → IsFirmRefused name image cpu blamed fault
      → worked (firm_work name image cpu) ≡ refused blamed fault
  firm-exact [] blamed fault (blames, inl (none, text)) =
      ap (λ f. refused name f) (sym text) ∙ ap (λ n. refused n fault) (sym blames)
  firm-exact [] blamed fault (blames, inr (some, why, is, text)) = absurd (some refl)
  firm-exact (b ∷ bs) blamed fault (blames, inl (none, text)) = let e : (b ∷ bs) ≡ [] = none in cc
  firm-exact (b ∷ bs) blamed fault (blames, inr (some, why, is, text)) =
      let w = (why-exactly in_flash (whole_window (b ∷ bs)) cpu true (image_alone (b ∷ bs)).otp
      (window_bytes (image_alone (b ∷ bs)) (whole_window (b ∷ bs))) why).0 is in
      judged-err (b ∷ bs) (alone (b ∷ bs) cpu) why w
      ∙ (ap (λ f. refused name f) (sym text) ∙ ap (λ n. refused n fault) (sym blames))

  firm-refuses : (image : List ℕ) → (worked (firm_work name image cpu)).status ≡ Refused
      → (blamed : List ℕ) × (fault : List ℕ) × IsFirmRefused name image cpu blamed fault
  firm-refuses image h = go (firm-right image)
    where
      go : IsRefusedOrRight (IsFirmRefused name image cpu) (IsFirmOf image cpu) (worked (firm_work name image cpu))
          → (blamed : List ℕ) × (fault : List ℕ) × IsFirmRefused name image cpu blamed fault
      go (inl (blamed, fault, is, same)) = (blamed, fault, is)
      go (inr right) = let e : Done ≡ Refused = sym right.status ∙ h in cc

-- `firm` is right by its rules
pub firm-works : (image i : List ℕ) (cpu : Cpu)
    → IsByRules ⊤ (firm_work image i cpu) (IsFirmRefused image i cpu) (IsFirmOf i cpu)
firm-works image i cpu = record {
  done = λ need. firm-right image cpu i;
  only = firm-only image cpu i;
  refuses = firm-refuses image cpu i;
  exact = firm-exact image cpu i;
}
