-- The runs that the function gives are runs in the words of their definition.
use Rattle.std.proofs.Common.{◌≡◌, ◌≢◌, ◌↔◌, ℕ, zero, suc, ◌+◌, ◌≤◌, Bool, true, false, List, [], ◌∷◌, length, drop, Some, refl, sym, ap, ◌∙◌, subst, arith, inl, inr}
use Rattle.std.specs.Prelude.{if◌then◌else◌, slice_get}
use Rattle.std.proofs.lemmas.Bool.{cases_lt}
use Rattle.equal_runs.specs.Runs.{AreRuns, AreRunsFrom, IsOther, RunOf, lone_run, longer_run, runs_behind, runs_of}

-- what stands behind the first entries
pub at-drop : {A : Type 0} (all : List A) (k : ℕ) (entry : A) (entries : List A) → drop k all ≡ (entry ∷ entries)
    → slice_get all k ≡ Some entry
at-drop [] zero entry entries is = cc
at-drop [] (suc k) entry entries is = cc
at-drop (c ∷ all) zero entry entries is = let same : c ≡ entry = cc in ap Some same
at-drop (c ∷ all) (suc k) entry entries is = at-drop all k entry entries is

pub next-drop : {A : Type 0} (all : List A) (k : ℕ) (entry : A) (entries : List A) → drop k all ≡ (entry ∷ entries)
    → drop (k + 1) all ≡ entries
next-drop [] zero entry entries is = cc
next-drop [] (suc k) entry entries is = cc
next-drop (c ∷ all) zero entry entries is = cc
next-drop (c ∷ all) (suc k) entry entries is =
    let e : suc k + 1 ≡ suc (k + 1) = omega arith in
    ap (λ n. drop n (c ∷ all)) e ∙ next-drop all k entry entries is

pub long-drop : {A : Type 0} (all : List A) (k : ℕ) (entries : List A) → drop k all ≡ entries → k ≤ length all
    → k + length entries ≡ length all
long-drop all zero entries is le = omega (arith, ap length is)
long-drop [] (suc k) entries is le = absurd (omega arith)
long-drop (c ∷ all) (suc k) entries is le = omega (arith, long-drop all k entries is (omega arith))

-- each number of the run so far has its entry
abbrev Holds : {A : Type 0} → List A → RunOf A → Type 0
Holds all run = (i : ℕ) → run.first ≤ i → i ≤ run.last → slice_get all i ≡ Some run.entry

module _ {A : Type 0} (same : A → A → Bool) (decides : (a b : A) → (same a b ≡ true) ↔ (a ≡ b)) where
  other-entry : (a b : A) → same a b ≡ false → a ≢ b
  other-entry a b is equal =
      let one : same a b ≡ true = (decides a b).1 equal in
      let wrong : false ≡ true = sym is ∙ one in cc

  -- the first of the runs has the entry of the run that has begun
  first-other : (other : A) (run : RunOf A) (k : ℕ) (entries : List A) → other ≢ run.entry
      → IsOther other (runs_behind same run k entries)
  first-other other run k [] differs = differs
  first-other other run k (a ∷ entries) differs =
      go (same run.entry a) (first-other other (longer_run run k) (k + 1) entries differs)
    where
      go : (b : Bool) → IsOther other (runs_behind same (longer_run run k) (k + 1) entries)
          → IsOther other (if b then runs_behind same (longer_run run k) (k + 1) entries
          else run ∷ runs_behind same (lone_run k a) (k + 1) entries)
      go true rest = rest
      go false rest = differs

  runs-are-behind : (all : List A) (run : RunOf A) (k : ℕ) (entries : List A) → drop k all ≡ entries
      → k ≤ length all → run.first ≤ run.last → run.last + 1 ≡ k → Holds all run
      → AreRunsFrom all run.first (runs_behind same run k entries)
  runs-are-behind all run k [] is inside some at held =
      let long = long-drop all k [] is inside in
      (refl, record { some = some; same = held }, tt, omega (arith, long, at))
  runs-are-behind all run k (a ∷ entries) is inside some at held =
      go (same run.entry a) refl
      (λ h. runs-are-behind all (longer_run run k) (k + 1) entries rest (omega (arith, long)) (omega (arith, some, at))
      refl h)
      (runs-are-behind all (lone_run k a) (k + 1) entries rest (omega (arith, long)) (omega arith) refl alone)
    where
      long : k + length (a ∷ entries) ≡ length all
      long = long-drop all k (a ∷ entries) is inside

      here : slice_get all k ≡ Some a
      here = at-drop all k a entries is

      rest : drop (k + 1) all ≡ entries
      rest = next-drop all k a entries is

      alone : (i : ℕ) → k ≤ i → i ≤ k → slice_get all i ≡ Some a
      alone i low high = let e : i ≡ k = omega (arith, low, high) in ap (slice_get all) e ∙ here

      go : (b : Bool) → same run.entry a ≡ b
          → (Holds all (longer_run run k) → AreRunsFrom all run.first (runs_behind same (longer_run run k) (k + 1) entries))
          → AreRunsFrom all k (runs_behind same (lone_run k a) (k + 1) entries)
          → AreRunsFrom all run.first (if b then runs_behind same (longer_run run k) (k + 1) entries
          else run ∷ runs_behind same (lone_run k a) (k + 1) entries)
      go true equal on anew = on (λ i low high. elim (cases_lt i k) [
        | inl lt ↦ held i low (omega (arith, lt, at))
        | inr le ↦
            let e : i ≡ k = omega (arith, le, high) in
            ap (slice_get all) e ∙ (here ∙ ap (λ x. Some x) (sym ((decides run.entry a).0 equal)))
      ])
      go false other on anew = (
        refl,
        record { some = some; same = held },
        first-other run.entry (lone_run k a) (k + 1) entries (other-entry run.entry a other),
        subst (λ n. AreRunsFrom all n (runs_behind same (lone_run k a) (k + 1) entries)) (sym at) anew,
      )

  pub runs-are : (entries : List A) → AreRuns entries (runs_of same entries)
  runs-are [] = refl
  runs-are (a ∷ entries) =
      runs-are-behind (a ∷ entries) (lone_run 0 a) 1 entries refl (omega arith) (omega arith) refl
      (λ i low high. let e : i ≡ 0 = omega (arith, high) in ap (slice_get (a ∷ entries)) e)
