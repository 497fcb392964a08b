-- `sweep` is right by its rules.
use Rattle.std.proofs.Common.{◌≡◌, ℕ, true, List, [], ◌∷◌, Option, Some, None, refl, sym, ap, ◌∙◌, subst, inl, inr, arith}
use Rattle.pico_board.specs.declared.Step.{Step}
use Rattle.pico_board.specs.declared.boot.Cpu.{Cpu}
use Rattle.pico_board.specs.Content.{Content, IsContent}
use Rattle.pico_board.specs.Cuts.{IsPattern}
use Rattle.boot_sweep.specs.declared.error.SweepError.{SweepError}
use Rattle.boot_sweep.specs.Refusals.{IsRefusedSession, sweep_refusal}
use Rattle.boot_session.specs.Scripts.{script_session}
use Rattle.boot_sweep.specs.Sweeps.{sweep_text}
use Rattle.boot_sweep.specs.Swept.{IsSweep}
use Rattle.boot_sweep.proofs.OnlySweepLemmas.{only-sweep}
use Rattle.boot_sweep.proofs.RefusalCaseLemmas.{refused-exactly}
use Rattle.boot_sweep.proofs.SweptLemmas.{is-sweep}
use Rattle.cli_course.specs.declared.status.Status.TheVariants.{Done, Input as Refused}
use Rattle.cli_course.specs.Outcomes.{AreBytes, AnswerView, refused, worked}
use Rattle.cli_inputs.specs.declared.forms.Form.TheVariants.{Pattern}
use Rattle.cli_inputs.specs.Forms.{HasForm}
use Rattle.cli_inputs.specs.Rules.{IsRefusedOrRight, IsByRules}
use Rattle.cli_inputs.proofs.WorkLemmas.{same-outcome}
use Rattle.cli_sweep.specs.SweepRules.{IsSweepOf, IsSweepRefused}
use Rattle.cli_sweep.specs.SweepWorks.{sweep_fault, sweep_work, swept_work}

-- a pattern that has its form is one of a cut within a step
pub is-pattern : (bytes : List ℕ) → HasForm Pattern bytes → IsPattern true bytes
is-pattern [] form = absurd (form.0 refl)
is-pattern (b ∷ bytes) form = (omega arith, form.1)

module _ (c : Content) (cpu : Cpu) (script bytes pattern : List ℕ) where
  abbrev steps : List Step
  steps = script_session c cpu bytes

  told-sweep : AnswerView
  told-sweep = record { status = Done; text = sweep_text c cpu pattern steps; files = [] }

  by-reason : Option SweepError → AnswerView
  by-reason reason = worked (swept_work script (sweep_text c cpu pattern steps) reason)

  none-told : sweep_refusal c cpu steps ≡ None → worked (sweep_work c cpu script bytes pattern) ≡ told-sweep
  unfolding told-sweep by-reason
  none-told none = ap by-reason none

  some-told : (e : SweepError) → sweep_refusal c cpu steps ≡ Some e
      → worked (sweep_work c cpu script bytes pattern) ≡ refused script (sweep_fault e)
  unfolding by-reason
  some-told e some = ap by-reason some

  -- nothing refuses the session
  not-refused : IsContent c → sweep_refusal c cpu steps ≡ None → (e : SweepError) → IsRefusedSession c cpu steps e → ⊥
  not-refused right none e is =
      let two : Some e ≡ None = sym ((refused-exactly c cpu steps right e).1 is) ∙ none in cc

  none-refused : IsContent c → ((e : SweepError) → IsRefusedSession c cpu steps e → ⊥)
      → sweep_refusal c cpu steps ≡ None
  none-refused right taken = go (sweep_refusal c cpu steps) refl
    where
      go : (o : Option SweepError) → sweep_refusal c cpu steps ≡ o → sweep_refusal c cpu steps ≡ None
      go None is = is
      go (Some e) is = absurd (taken e ((refused-exactly c cpu steps right e).0 is))

  refused-for : (e : SweepError) → sweep_refusal c cpu steps ≡ Some e
      → IsSweepRefused script c cpu bytes script (sweep_fault e)
  refused-for e some = record {
    reason = e;
    named = some;
    holds = λ right. (refused-exactly c cpu steps right e).0 some;
    blames = refl;
    tells = refl;
  }

  pub sweep-right : IsContent c → AreBytes pattern
      → IsRefusedOrRight (IsSweepRefused script c cpu bytes) (IsSweepOf c cpu bytes pattern)
      (worked (sweep_work c cpu script bytes pattern))
  unfolding told-sweep
  sweep-right right small = go (sweep_refusal c cpu steps) refl
    where
      go : (o : Option SweepError) → sweep_refusal c cpu steps ≡ o
          → IsRefusedOrRight (IsSweepRefused script c cpu bytes) (IsSweepOf c cpu bytes pattern)
          (worked (sweep_work c cpu script bytes pattern))
      go None none =
          let told = none-told none in
          inr (record {
            right = right;
            taken = not-refused right none;
            status = ap (λ (o : AnswerView). o.status) told;
            text = subst (λ (t : AnswerView). IsSweep c cpu pattern steps t.text) (sym told)
                (is-sweep c cpu pattern steps right small none);
            files = ap (λ (o : AnswerView). o.files) told;
          })
      go (Some e) some = inl (script, sweep_fault e, refused-for e some, some-told e some)

  pub sweep-only : (o : AnswerView) → IsSweepOf c cpu bytes pattern o
      → o ≡ worked (sweep_work c cpu script bytes pattern)
  unfolding told-sweep
  sweep-only o is =
      same-outcome o Done _ _ is.status (only-sweep c cpu pattern steps o.text is.text) is.files
      ∙ sym (none-told (none-refused is.right is.taken))

  pub sweep-refuses : (worked (sweep_work c cpu script bytes pattern)).status ≡ Refused
      → (name : List ℕ) × (fault : List ℕ) × IsSweepRefused script c cpu bytes name fault
  unfolding told-sweep
  sweep-refuses h = go (sweep_refusal c cpu steps) refl
    where
      go : (o : Option SweepError) → sweep_refusal c cpu steps ≡ o
          → (name : List ℕ) × (fault : List ℕ) × IsSweepRefused script c cpu bytes name fault
      go None none = let e : Done ≡ Refused = sym (ap (λ (o : AnswerView). o.status) (none-told none)) ∙ h in cc
      go (Some e) some = (script, sweep_fault e, refused-for e some)

  pub sweep-exact : (name fault : List ℕ) → IsSweepRefused script c cpu bytes name fault
      → worked (sweep_work c cpu script bytes pattern) ≡ refused name fault
  sweep-exact name fault is =
      some-told is.reason is.named
      ∙ (ap (λ n. refused n (sweep_fault is.reason)) (sym is.blames) ∙ ap (λ f. refused name f) (sym is.tells))

-- `sweep` is right by its rules, where its pattern is of bytes, since power that is lost in an erase leaves bytes
pub sweep-works : (c : Content) (cpu : Cpu) (script s p : List ℕ)
    → IsByRules (IsContent c × AreBytes p) (sweep_work c cpu script s p) (IsSweepRefused script c cpu s)
    (IsSweepOf c cpu s p)
sweep-works c cpu script s p = record {
  done = λ need. sweep-right c cpu script s p need.0 need.1;
  only = sweep-only c cpu script s p;
  refuses = sweep-refuses c cpu script s p;
  exact = sweep-exact c cpu script s p;
}
