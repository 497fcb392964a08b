-- No other list of runs is that of these entries.
use Rattle.std.proofs.Common.{◌≡◌, ℕ, zero, suc, ◌+◌, ◌<◌, ◌≤◌, List, [], ◌∷◌, length, map, Some, None, refl, sym, ap, ◌∙◌, subst, arith, inl, inr}
use Rattle.std.specs.Prelude.{slice_get}
use Rattle.std.proofs.lemmas.Bool.{cases_lt}
use Rattle.equal_runs.specs.Runs.{AreRuns, AreRunsFrom, IsOther, IsRun, RunOf}

-- no entry stands behind the last one
none-behind : {A : Type 0} (entries : List A) (i : ℕ) → length entries ≤ i → slice_get entries i ≡ None
none-behind [] zero behind = refl
none-behind [] (suc i) behind = refl
none-behind (c ∷ entries) zero behind = absurd (omega arith)
none-behind (c ∷ entries) (suc i) behind = none-behind entries i (omega arith)

-- the first number of runs has the entry of their first run
first-entry : {A : Type 0} (entries : List A) (k : ℕ) (run : RunOf A) (entry : A) → run.first ≡ k → IsRun entries run
    → slice_get entries k ≡ Some entry → run.entry ≡ entry
first-entry entries k run entry at is here =
    let same : slice_get entries run.first ≡ Some run.entry = is.same run.first (omega arith) is.some in
    let found : slice_get entries k ≡ Some run.entry = ap (λ i. slice_get entries i) (sym at) ∙ same in
    let both : Some run.entry ≡ Some entry = sym found ∙ here in cc

-- no run of the entry of another one goes on where that ends
no-longer : {A : Type 0} (entries : List A) (a : RunOf A) (more_a : List (RunOf A)) (b : RunOf A) → a.entry ≡ b.entry
    → IsOther a.entry more_a → AreRunsFrom entries (a.last + 1) more_a → IsRun entries b → b.first ≤ a.last + 1
    → a.last < b.last → ⊥
no-longer entries a [] b same other rest is low more =
    let here : slice_get entries (a.last + 1) ≡ Some b.entry = is.same (a.last + 1) low (omega arith) in
    let none : slice_get entries (a.last + 1) ≡ None = none-behind entries (a.last + 1) (omega arith) in cc
no-longer entries a (next ∷ more_a) b same other rest is low more =
    let here : slice_get entries (a.last + 1) ≡ Some b.entry = is.same (a.last + 1) low (omega arith) in
    let entry : next.entry ≡ b.entry = first-entry entries (a.last + 1) next b.entry rest.0 rest.1 here in
    other (same ∙ sym entry)

-- a run does not begin behind the last entry
no-run : {A : Type 0} (entries : List A) (k : ℕ) (run : RunOf A) → k ≡ length entries → run.first ≡ k
    → IsRun entries run → ⊥
no-run entries k run end at is =
    let here : slice_get entries run.first ≡ Some run.entry = is.same run.first (omega arith) is.some in
    let none : slice_get entries run.first ≡ None = none-behind entries run.first (omega arith) in cc

-- two runs of one entry that begin at one number end at one number
same-last : {A : Type 0} (entries : List A) (k : ℕ) (a : RunOf A) (more_a : List (RunOf A)) (b : RunOf A)
    (more_b : List (RunOf A)) → AreRunsFrom entries k (a ∷ more_a) → AreRunsFrom entries k (b ∷ more_b)
    → a.entry ≡ b.entry → a.last ≡ b.last
same-last entries k a more_a b more_b first second entry =
    let some = first.1.some in
    let more = second.1.some in
    elim (cases_lt a.last b.last) [
      | inl lt ↦ absurd (no-longer entries a more_a b entry first.2 first.3 second.1
          (omega (arith, first.0, second.0, some)) lt)
      | inr le ↦ elim (cases_lt b.last a.last) [
        | inl lt ↦ absurd (no-longer entries b more_b a (sym entry) second.2 second.3 first.1
            (omega (arith, first.0, second.0, more)) lt)
        | inr ge ↦ omega arith
      ]
    ]

-- runs that begin at the same number are the same
pub runs-one-from : {A : Type 0} (entries : List A) (k : ℕ) (more_a more_b : List (RunOf A))
    → AreRunsFrom entries k more_a → AreRunsFrom entries k more_b → more_a ≡ more_b
runs-one-from entries k [] [] first second = refl
runs-one-from entries k [] (b ∷ more_b) first second = absurd (no-run entries k b first second.0 second.1)
runs-one-from entries k (a ∷ more_a) [] first second = absurd (no-run entries k a second first.0 first.1)
runs-one-from entries k (a ∷ more_a) (b ∷ more_b) first second =
    let begin : a.first ≡ b.first = first.0 ∙ sym second.0 in
    let at : slice_get entries k ≡ Some b.entry =
    ap (λ i. slice_get entries i) (sym second.0) ∙ second.1.same b.first (omega arith) second.1.some in
    let entry : a.entry ≡ b.entry = first-entry entries k a b.entry first.0 first.1 at in
    let last : a.last ≡ b.last = same-last entries k a more_a b more_b first second entry in
    let run : a ≡ b =
    ap (λ n. record { first = n; last = a.last; entry = a.entry }) begin
    ∙ (ap (λ n. record { first = b.first; last = n; entry = a.entry }) last
    ∙ ap (λ c. record { first = b.first; last = b.last; entry = c }) entry) in
    let rest : more_a ≡ more_b =
    runs-one-from entries (a.last + 1) more_a more_b first.3
    (subst (λ n. AreRunsFrom entries (n + 1) more_b) (sym last) second.3) in
    ap (λ z. z ∷ more_a) run ∙ ap (λ z. b ∷ z) rest

pub runs-one : {A : Type 0} (entries : List A) (more_a more_b : List (RunOf A)) → AreRuns entries more_a
    → AreRuns entries more_b → more_a ≡ more_b
runs-one entries more_a more_b first second = runs-one-from entries 0 more_a more_b first second

-- The same of runs of another form, each of which is given by its view.
module _ {A R : Type 0} (view : R → RunOf A) (back : RunOf A → R) (seen : (run : R) → back (view run) ≡ run) where
  all-seen : (runs : List R) → map back (map view runs) ≡ runs
  all-seen [] = refl
  all-seen (run ∷ runs) = ap (λ z. z ∷ map back (map view runs)) (seen run) ∙ ap (λ z. run ∷ z) (all-seen runs)

  pub views-one : (entries : List A) (more_a more_b : List R) → AreRuns entries (map view more_a)
      → AreRuns entries (map view more_b) → more_a ≡ more_b
  views-one entries more_a more_b first second =
      sym (all-seen more_a)
      ∙ (ap (map back) (runs-one entries (map view more_a) (map view more_b) first second) ∙ all-seen more_b)
