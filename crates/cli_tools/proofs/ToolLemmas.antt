-- The work on images, and of a number, is right by the rules.
use Rattle.std.proofs.Common.{◌≡◌, ◌≢◌, ℕ, ◌≤◌, ◌==◌, Bool, true, false, cond, List, [], ◌∷◌, ◌++◌, length, Option, Some, None, codes, refl, sym, ap, ◌∙◌, inl, inr, arith}
use Rattle.std.specs.Prelude.{⊤, nat_lt}
use Rattle.std.proofs.lemmas.Bool.{eqb-true, eqb-false, ne_eqb, ltb-true, ltb-false, lt-ltb, le-ltb}
use Rattle.pico_board.specs.declared.boot.Cpu.{Cpu}
use Rattle.pico_board.specs.declared.boot.Cpu.TheVariants.{Arm}
use Rattle.pico_board.specs.declared.boot.BootKind.TheVariants.{Normal}
use Rattle.pico_board.specs.Content.{Content}
use Rattle.part_table.specs.declared.target.Target.{Target}
use Rattle.boot_rules.specs.Choosing.{decision_in}
use Rattle.boot_rules.proofs.DecisionLemmas.{decision-chosen, chosen-decision}
use Rattle.uf2_place.specs.Files.{file_bytes, page_count}
use Rattle.script_plan.specs.declared.writing.WriteOrder.{WriteOrder}
use Rattle.script_plan.specs.Orders.{script_text}
use Rattle.cli_course.specs.declared.status.Status.TheVariants.{Done, Input as Refused}
use Rattle.cli_course.specs.Outcomes.{Work, Answers, Refuses, one_file, AnswerView, refused, worked}
use Rattle.cli_tools.specs.ToolWorks.{uf2_line, uf2_work, plan_target, script_line, window_work, target_work, script_work, made_content, gen_line, gen_work}
use Rattle.cli_tools.specs.ToolRules.{IsUf2Refused, IsUf2Of, IsTargetRefused, IsScriptOf, IsGenOf}
use Rattle.cli_inputs.specs.Rules.{IsRefusedOrRight, IsByRules}
use Rattle.cli_inputs.proofs.WorkLemmas.{same-outcome, never-refuses}
use Rattle.text_lines.specs.Texts.{decision_line}
use Rattle.image_pack.specs.Flashes.{generated}

none-of : (xs : List ℕ) → length xs ≡ 0 → xs ≡ []
none-of [] h = refl
none-of (x ∷ xs) h = absurd (omega arith)

some-of : (xs : List ℕ) → length xs ≢ 0 → xs ≢ []
some-of xs h is = h (ap (λ (ys : List ℕ). length ys) is)

some-length : (xs : List ℕ) → xs ≢ [] → length xs ≢ 0
some-length xs h is = h (none-of xs is)

-- what `uf2` answers where the image has bytes
abbrev uf2_answer : List ℕ → ℕ → List ℕ → Work
uf2_answer i family out = Answers false (uf2_line (page_count (length i))) (one_file out (file_bytes i family))

pub uf2-done : (name out i : List ℕ) (family : ℕ)
    → IsRefusedOrRight (IsUf2Refused name i) (IsUf2Of i family out) (worked (uf2_work name family out i))
uf2-done name out i family = go (length i == 0) refl
  where
    go : (t : Bool) → (length i == 0) ≡ t
        → IsRefusedOrRight (IsUf2Refused name i) (IsUf2Of i family out)
        (worked (cond t (Refuses name (codes "empty")) (uf2_answer i family out)))
    go true is = inl (name, codes "empty", (refl, (none-of i (eqb-true (length i) 0 is), refl)), refl)
    go false is =
        inr (record { some = some-of i (eqb-false (length i) 0 is); status = refl; text = refl; files = refl })

-- the refusal that the rules name is the work's
pub uf2-exact : (image out i name fault : List ℕ) (family : ℕ)
    → IsUf2Refused image i name fault
    → worked (uf2_work image family out i) ≡ refused name fault
uf2-exact image out i name fault family (is, (empty, text)) =
    ap (λ xs. worked (uf2_work image family out xs)) empty
    ∙ (ap (λ n. refused n (codes "empty")) (sym is) ∙ ap (refused name) (sym text))

pub uf2-whole : (image out i : List ℕ) (family : ℕ) → i ≢ []
    → worked (uf2_answer i family out) ≡ worked (uf2_work image family out i)
uf2-whole image out i family some =
    sym (ap (λ t. worked (cond t (Refuses image (codes "empty")) (uf2_answer i family out)))
    (ne_eqb (length i) 0 (some-length i some)))

-- what is answered where the image fits into the target's window
abbrev script_answer : WriteOrder → Target → List ℕ → List ℕ → Work
script_answer order target out i =
    Answers false (script_line order target.window (length i))
    (one_file out (script_text order target.window.start i))

module _ (order : WriteOrder) (image out i : List ℕ) (c : Content) (cpu : Cpu) where
  abbrev ScriptDone : AnswerView → Type 0
  ScriptDone o = IsRefusedOrRight (IsTargetRefused c cpu image i)
      (IsScriptOf order c cpu i out) o

  window-done : (target : Target) → plan_target c cpu ≡ Some target
      → ScriptDone (worked (window_work order target.window image out i))
  window-done target goes = go (length i == 0) refl
    where
      fits : (t : Bool) → nat_lt target.window.len (length i) ≡ t → length i ≢ 0
          → ScriptDone (worked (cond t (Refuses image (codes "past-window")) (script_answer order target out i)))
      fits true is some =
          inl (
            image,
            codes "past-window",
            (refl, inr (target, goes, inr (ltb-true target.window.len (length i) is, refl))),
            refl,
          )
      fits false is some = inr (record {
        target = target;
        goes = goes;
        some = some-of i some;
        fits = ltb-false target.window.len (length i) is;
        status = refl;
        text = refl;
        files = refl;
      })

      go : (t : Bool) → (length i == 0) ≡ t
          → ScriptDone (worked (cond t (Refuses image (codes "empty"))
          (cond (nat_lt target.window.len (length i)) (Refuses image (codes "past-window"))
          (script_answer order target out i))))
      go true is =
          inl (image, codes "empty", (refl, inr (target, goes, inl (none-of i (eqb-true (length i) 0 is), refl))), refl)
      go false is = fits (nat_lt target.window.len (length i)) refl (eqb-false (length i) 0 is)

  pub script-done : ScriptDone (worked (script_work order c cpu image out i))
  script-done = go (plan_target c cpu) refl
    where
      go : (t : Option Target) → plan_target c cpu ≡ t
          → ScriptDone (worked (target_work order t image out i))
      go None none = inl (image, codes "no-target", (refl, inl (none, refl)), refl)
      go (Some target) goes = window-done target goes

  -- the target decides
  by-target : (t : Option Target) → plan_target c cpu ≡ t
      → worked (script_work order c cpu image out i) ≡ worked (target_work order t image out i)
  by-target t is = ap (λ (t : Option Target). worked (target_work order t image out i)) is

  -- an image of some bytes, where the window decides
  by-window : (target : Target) (t : Bool) → i ≢ [] → nat_lt target.window.len (length i) ≡ t
      → worked (window_work order target.window image out i)
      ≡ worked (cond t (Refuses image (codes "past-window")) (script_answer order target out i))
  by-window target t some is =
      ap (λ s. worked (cond s (Refuses image (codes "empty"))
      (cond (nat_lt target.window.len (length i)) (Refuses image (codes "past-window")) (script_answer order target out i))))
      (ne_eqb (length i) 0 (some-length i some))
      ∙ ap (λ s. worked (cond s (Refuses image (codes "past-window")) (script_answer order target out i))) is

  named : (name fault text : List ℕ) → name ≡ image → fault ≡ text → refused image text ≡ refused name fault
  named name fault text is same = ap (λ n. refused n text) (sym is) ∙ ap (refused name) (sym same)

  pub script-exact : (name fault : List ℕ) → IsTargetRefused c cpu image i name fault
      → worked (script_work order c cpu image out i) ≡ refused name fault
  script-exact name fault (is, inl (none, text)) = by-target None none ∙ named name fault (codes "no-target") is text
  script-exact name fault (is, inr (target, goes, inl (empty, text))) =
      by-target (Some target) goes
      ∙ (ap (λ xs. worked (window_work order target.window image out xs)) empty ∙ named name fault (codes "empty") is text)
  script-exact name fault (is, inr (target, goes, inr (long, text))) =
      by-target (Some target) goes
      ∙ (by-window target true (some-of i (omega (arith, long))) (lt-ltb target.window.len (length i) long)
      ∙ named name fault (codes "past-window") is text)

  pub script-whole : (target : Target) → plan_target c cpu ≡ Some target → i ≢ []
      → length i ≤ target.window.len
      → worked (script_answer order target out i) ≡ worked (script_work order c cpu image out i)
  script-whole target goes some few =
      sym (by-target (Some target) goes
      ∙ by-window target false some (le-ltb target.window.len (length i) few))

gen-right : (n : ℕ) → IsGenOf n (worked (gen_work n))
gen-right n = record {
  decision = decision_in (made_content n) Arm Normal;
  chosen = decision-chosen (made_content n) Arm Normal;
  status = refl;
  text = refl;
  files = refl;
}

-- a work that is refused is so by the rules
refused-done : (IsRefusal : List ℕ → List ℕ → Type 0) (Right : AnswerView → Type 0) (o : AnswerView)
    → (Right o → o.status ≡ Done) → IsRefusedOrRight IsRefusal Right o → o.status ≡ Refused
    → (name : List ℕ) × (fault : List ℕ) × IsRefusal name fault
refused-done IsRefusal Right o done (inl (name, fault, refuses, is)) h = (name, fault, refuses)
refused-done IsRefusal Right o done (inr right) h = let e : Done ≡ Refused = sym (done right) ∙ h in cc

-- `uf2` is right by its rules
pub uf2-works : (image out i : List ℕ) (family : ℕ)
    → IsByRules ⊤ (uf2_work image family out i) (IsUf2Refused image i) (IsUf2Of i family out)
uf2-works image out i family = record {
  done = λ need. uf2-done image out i family;
  only = λ o right. same-outcome o Done _ _ right.status right.text right.files
      ∙ uf2-whole image out i family right.some;
  refuses = refused-done (IsUf2Refused image i) (IsUf2Of i family out) (worked (uf2_work image family out i))
      (λ right. right.status) (uf2-done image out i family);
  exact = λ name fault. uf2-exact image out i name fault family;
}

-- `plan` and `load` are right by their rules
pub script-works : (order : WriteOrder) (image out i : List ℕ) (c : Content) (cpu : Cpu)
    → IsByRules ⊤ (script_work order c cpu image out i) (IsTargetRefused c cpu image i) (IsScriptOf order c cpu i out)
script-works order image out i c cpu = record {
  done = λ need. script-done order image out i c cpu;
  only = λ o right. same-outcome o Done _ _ right.status right.text right.files
      ∙ script-whole order image out i c cpu right.target right.goes right.some right.fits;
  refuses = refused-done (IsTargetRefused c cpu image i) (IsScriptOf order c cpu i out)
      (worked (script_work order c cpu image out i)) (λ right. right.status) (script-done order image out i c cpu);
  exact = λ name fault. script-exact order image out i c cpu name fault;
}

gen-only : (n : ℕ) (o : AnswerView) → IsGenOf n o → o ≡ worked (gen_work n)
gen-only n o right =
    same-outcome o Done _ [] right.status right.text right.files
    ∙ ap (λ d. record { status = Done; text = gen_line n (generated n) ++ decision_line d; files = [] })
    (chosen-decision (made_content n) Arm Normal right.decision right.chosen)

-- `gen` is right by its rules
pub gen-works : (n : ℕ) → IsByRules ⊤ (gen_work n) (λ name fault. ⊥) (IsGenOf n)
gen-works n = never-refuses ⊤ (gen_work n) (IsGenOf n) (λ need. gen-right n) (gen-only n) (λ h. cc)
