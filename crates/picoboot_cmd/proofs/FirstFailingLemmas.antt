-- The first check that fails, by its number and by its relation.
use Rattle.std.proofs.Common.{◌≡◌, ℕ, zero, suc, ◌<◌, Bool, true, false, cond, List, [], ◌∷◌, Some, refl, sym, subst, ◌∙◌, ap, arith, inl, inr, slice_get}
use Rattle.std.proofs.lemmas.Option.{none-some, same_Some}
use Rattle.picoboot_cmd.specs.Checks.{Check, check, first_failing, FailsCheckFirst, IsCheckedStatus}

same_check : (a b : ℕ) (p q : Bool) → a ≡ b → p ≡ q → check a p ≡ check b q
same_check a b p q e f = cc

module _ (k : Check) (ks : List Check) (status : ℕ) where
  later : k.passes ≡ true → IsCheckedStatus ks status → IsCheckedStatus (k ∷ ks) status
  later passes (inl none) = inl (none.0, each)
    where
      each : (i : ℕ) (x : Check) → slice_get (k ∷ ks) i ≡ Some x → x.passes ≡ true
      each zero x at = subst (λ (y : Check). y.passes ≡ true) (same_Some k x at) passes
      each (suc i) x at = none.1 i x at
  later passes (inr first) = inr (suc first.0, record { here = first.1.here; before = before })
    where
      before : (j : ℕ) (x : Check) → j < suc first.0 → slice_get (k ∷ ks) j ≡ Some x → x.passes ≡ true
      before zero x lt at = subst (λ (y : Check). y.passes ≡ true) (same_Some k x at) passes
      before (suc j) x lt at = first.1.before j x (omega arith) at

  here : k.passes ≡ false → k.status ≡ status → IsCheckedStatus (k ∷ ks) status
  here fails is =
      let same : k ≡ check status false = same_check k.status status k.passes false is fails in
      inr (zero, record { here = ap Some same; before = λ j x lt at. absurd (omega arith) })

  by_test : (b : Bool) → k.passes ≡ b → cond b (first_failing ks) k.status ≡ status
      → (first_failing ks ≡ status → IsCheckedStatus ks status) → IsCheckedStatus (k ∷ ks) status
  by_test true passes e rest = later passes (rest e)
  by_test false fails e rest = here fails e

pub to-answer : (ks : List Check) (status : ℕ) → first_failing ks ≡ status → IsCheckedStatus ks status
to-answer [] status e = inl (sym e, λ i x at. absurd (none-some x at))
to-answer (k ∷ ks) status e = by_test k ks status k.passes refl e (to-answer ks status)

passes_on : (k : Check) (ks : List Check) (status : ℕ) → k.passes ≡ true → first_failing ks ≡ status
    → first_failing (k ∷ ks) ≡ status
passes_on k ks status passes e = ap (λ b. cond b (first_failing ks) k.status) passes ∙ e

fails_here : (k : Check) (ks : List Check) (status : ℕ) → k ≡ check status false → first_failing (k ∷ ks) ≡ status
fails_here k ks status same = ap (λ (x : Check). first_failing (x ∷ ks)) same

from_failing : (ks : List Check) (i status : ℕ) → FailsCheckFirst ks i status → first_failing ks ≡ status
from_failing [] i status first = absurd (none-some _ first.here)
from_failing (k ∷ ks) zero status first = fails_here k ks status (same_Some k (check status false) first.here)
from_failing (k ∷ ks) (suc i) status first =
    passes_on k ks status (first.before zero k (omega arith) refl)
    (from_failing ks i status
    (record { here = first.here; before = λ j x lt at. first.before (suc j) x (omega arith) at }))

from_passing : (ks : List Check) → ((i : ℕ) (x : Check) → slice_get ks i ≡ Some x → x.passes ≡ true)
    → first_failing ks ≡ 0
from_passing [] all = refl
from_passing (k ∷ ks) all = passes_on k ks 0 (all zero k refl) (from_passing ks (λ i x at. all (suc i) x at))

pub from-answer : (ks : List Check) (status : ℕ) → IsCheckedStatus ks status → first_failing ks ≡ status
from-answer ks status (inl none) = from_passing ks (none.1) ∙ sym none.0
from-answer ks status (inr first) = from_failing ks (first.0) status (first.1)

-- a check that passes, before others of which none fails
pub passing : (status : ℕ) (b : Bool) (ks : List Check) → b ≡ true → first_failing ks ≡ 0
    → first_failing (check status b ∷ ks) ≡ 0
passing status b ks passes e = passes_on (check status b) ks 0 passes e
