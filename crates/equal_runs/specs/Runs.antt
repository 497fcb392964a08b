-- Runs: as many entries of a list, one after the other, as are the same.
use Rattle.std.specs.Prelude.{◌≡◌, ◌≢◌, ⊤, ℕ, ◌+◌, ◌≤◌, Bool, if◌then◌else◌, List, [], ◌∷◌, length, slice_get, Some}

-- from which number to which one the entry stands
pub record RunOf (A : Type 0) : Type 0 where
  pub first : ℕ
  pub last : ℕ
  pub entry : A

-- each number of a run has its entry
pub record IsRun {A : Type 0} (entries : List A) (run : RunOf A) : Type 0 where
  pub some : run.first ≤ run.last
  pub same : (i : ℕ) → run.first ≤ i → i ≤ run.last → slice_get entries i ≡ Some run.entry

-- the next run, if there is one, has another entry
abbrev pub IsOther : {A : Type 0} → A → List (RunOf A) → Type 0
IsOther entry [] = ⊤
IsOther entry (run ∷ runs) = entry ≢ run.entry

-- runs that follow one another from the number k on up to the last one, neighbours of which differ
abbrev pub AreRunsFrom : {A : Type 0} → List A → ℕ → List (RunOf A) → Type 0
AreRunsFrom entries k [] = k ≡ length entries
AreRunsFrom entries k (run ∷ runs) =
    (run.first ≡ k) × IsRun entries run × IsOther run.entry runs
    × AreRunsFrom entries (run.last + 1) runs

-- The runs of these entries: in their order they are all the entries, each has one entry, and
-- neighbours differ. So each is as long as can be.
abbrev pub AreRuns : {A : Type 0} → List A → List (RunOf A) → Type 0
AreRuns entries runs = AreRunsFrom entries 0 runs

-- a run of the number k alone
abbrev pub lone_run : {A : Type 0} → ℕ → A → RunOf A
lone_run k entry = record { first = k; last = k; entry = entry }

-- the run up to the number k
abbrev pub longer_run : {A : Type 0} → RunOf A → ℕ → RunOf A
longer_run run k = record { first = run.first; last = k; entry = run.entry }

-- the runs of the entries from the number k on, of which the first may belong to a run that has
-- begun; `same` tells whether two entries are the same
abbrev pub runs_behind : {A : Type 0} → (A → A → Bool) → RunOf A → ℕ → List A → List (RunOf A)
runs_behind same run k [] = run ∷ []
runs_behind same run k (entry ∷ entries) =
    if same run.entry entry then runs_behind same (longer_run run k) (k + 1) entries
    else run ∷ runs_behind same (lone_run k entry) (k + 1) entries

-- the runs of these entries
abbrev pub runs_of : {A : Type 0} → (A → A → Bool) → List A → List (RunOf A)
runs_of same [] = []
runs_of same (entry ∷ entries) = runs_behind same (lone_run 0 entry) 1 entries
