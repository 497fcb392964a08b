-- What the text of a sweep and its refusals say, of the call's answer.
use Rattle.std.proofs.Common.{◌≡◌, ◌≢◌, ◌⊎◌, inl, inr, ℕ, ◌<◌, List, ◌++◌, All, Some, None, Ok, Err, refl, sym, ◌∙◌, subst}
use Rattle.std.specs.Prelude.{OnOk, Result}
use Rattle.pico_board.specs.declared.Step.{Step}
use Rattle.pico_board.specs.declared.boot.Cpu.{Cpu}
use Rattle.pico_board.specs.Content.{Content, IsContent}
use Rattle.boot_sweep.specs.declared.error.SweepError.{SweepError}
use Rattle.boot_sweep.specs.declared.error.SweepError.TheVariants.{Memory}
use Rattle.boot_sweep.specs.Refusals.{IsRefusedSession, IsSwept, sweep_refusal}
use Rattle.boot_sweep.specs.Swept.{IsSweep}
use Rattle.boot_sweep.specs.Sweeps.{sweep_text}
use Rattle.boot_sweep.proofs.RefusalCaseLemmas.{refused-exactly}
use Rattle.boot_sweep.proofs.SweptLemmas.{is-sweep}

same-error : {T : Type 0} (f e : SweepError) (r : Result T SweepError) → r ≡ Err f → r ≡ Err e → f ≡ e
same-error f e r one two = cc

module _ (c : Content) (cpu : Cpu) (pattern : List ℕ) (steps : List Step) (right : IsContent c)
    (small : All (λ b. b < 256) pattern) where
  pub says-sweep : {T : Type 0} (r : Result T SweepError) (old new : List ℕ) → IsSwept (sweep_refusal c cpu steps) r
      → OnOk r (new ≡ old ++ sweep_text c cpu pattern steps)
      → OnOk r ((text : List ℕ) × (new ≡ old ++ text) × IsSweep c cpu pattern steps text)
  says-sweep (Ok done) old new none text =
      (sweep_text c cpu pattern steps, text, is-sweep c cpu pattern steps right small none)
  says-sweep (Err e) old new why text = tt

  some-none : (e : SweepError) → Some e ≡ None → ⊥
  some-none e is = cc

  pub says-taken : {T : Type 0} (r : Result T SweepError) → IsSwept (sweep_refusal c cpu steps) r
      → OnOk r ((e : SweepError) → IsRefusedSession c cpu steps e → ⊥)
  says-taken (Ok done) none =
      λ e is. some-none e (sym ((refused-exactly c cpu steps right e).1 is) ∙ none)
  says-taken (Err e) why = tt

  pub says-refused : {T : Type 0} (r : Result T SweepError) (e : SweepError) → IsSwept (sweep_refusal c cpu steps) r
      → r ≡ Err e → e ≢ Memory → IsRefusedSession c cpu steps e
  says-refused (Ok done) e none is other = cc
  says-refused (Err f) e why is other =
      elim (subst (λ x. (x ≡ Memory) ⊎ (sweep_refusal c cpu steps ≡ Some x)) (same-error f e (Err f) refl is) why) [
        | inl memory ↦ absurd (other memory)
        | inr why ↦ (refused-exactly c cpu steps right e).0 why
      ]
