-- Different pages of a sector are at most sixteen.
use Rattle.std.proofs.Common.{◌≡◌, ℕ, ◌/◌, Bool, true, false, List, [], ◌∷◌, ◌++◌, refl, sym, ◌∙◌, ap, arith}
use Rattle.std.specs.Prelude.{◌==◌, ◌||◌, not, nat_eq, if◌then◌else◌}
use Rattle.std.specs.List.{AllByRecursion, IsDistinct, list_any}
use Rattle.pico_board.specs.declared.Step.{Step}
use Rattle.pico_board.specs.declared.step.Step.TheVariants.{Program}
use Rattle.pico_board.proofs.GateLemmas.{IsDistinct-first, IsDistinct-more, IsDistinct-none, IsDistinct-rest}
use Rattle.boot_sweep.specs.Gating.{ArePages}
use Rattle.boot_sweep.specs.Refusals.{has_none, may_follow}

all-behind : (P : ℕ → Type 0) (xs : List ℕ) (x : ℕ) → AllByRecursion P xs → P x → AllByRecursion P (xs ++ x ∷ [])
all-behind P [] x all here = (here, tt)
all-behind P (y ∷ xs) x all here = (all.0, all-behind P xs x all.1 here)

or-false : (a b : Bool) → (a || b) ≡ false → (a ≡ false) × (b ≡ false)
or-false true b e = cc
or-false false b e = (refl, e)

pub distinct-behind : (xs : List ℕ) (p : ℕ) → IsDistinct nat_eq xs → list_any (λ x. x == p) xs ≡ false
    → IsDistinct nat_eq (xs ++ p ∷ [])
distinct-behind [] p distinct none = IsDistinct-more p [] tt IsDistinct-none
distinct-behind (x ∷ xs) p distinct none =
    let apart = or-false (x == p) (list_any (λ y. y == p) xs) none in
    IsDistinct-more x (xs ++ p ∷ [])
    (all-behind (λ y. nat_eq x y ≡ false) xs p (IsDistinct-first x xs distinct) apart.0)
    (distinct-behind xs p (IsDistinct-rest x xs distinct) apart.1)

not-false : (b : Bool) → not b ≡ true → b ≡ false
not-false true e = cc
not-false false e = refl

pub pages-none : (s : ℕ) → ArePages s []
pages-none s = record { inside = tt; distinct = IsDistinct-none }

pub pages-more : (s : ℕ) (pages : List ℕ) (p : ℕ) → ArePages s pages → p / 16 ≡ s
    → list_any (λ x. x == p) pages ≡ false → ArePages s (pages ++ p ∷ [])
pages-more s pages p are inside fresh = record {
  inside = all-behind (λ q. q / 16 ≡ s) pages p are.inside inside;
  distinct = distinct-behind pages p are.distinct fresh;
}

-- a program of the sector that may follow is of a fresh page
pub fresh-page : (s : ℕ) (pages : List ℕ) (step : Step) (p : ℕ) (d : List ℕ) → step ≡ Program p d → p / 16 ≡ s
    → may_follow s pages step ≡ true → list_any (λ x. x == p) pages ≡ false
fresh-page s pages step p d is inside may =
    let here : (p / 16 == s) ≡ true = grind (arith, inside) in
    not-false (list_any (λ x. x == p) pages)
    (sym (ap (λ b. if b then not (list_any (λ x. x == p) pages) else has_none pages) here)
    ∙ (sym (ap (may_follow s pages) is) ∙ may))
