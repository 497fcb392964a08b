-- The runs that the function gives are runs in the words of their definition, and no others are.
use Rattle.std.proofs.Common.{◌≡◌, ◌↔◌, ℕ, ◌+◌, Bool, true, false, List, [], ◌∷◌, map, refl, sym, ap, ◌∙◌, subst}
use Rattle.std.specs.Prelude.{if◌then◌else◌, not}
use Rattle.equal_runs.specs.Runs.{RunOf, longer_run, lone_run, runs_behind, runs_of, AreRuns as AreEqualRuns}
use Rattle.equal_runs.proofs.RunLemmas.{runs-are as equal-runs-are}
use Rattle.equal_runs.proofs.OneLemmas.{views-one}
use Rattle.svg_marks.specs.declared.class.Class.{Class}
use Rattle.svg_marks.specs.Reading.{is_class}
use Rattle.svg_marks.proofs.ClassLemmas.{is-same, same-class}
use Rattle.svg_sweep.specs.declared.runs.Run.{Run}
use Rattle.svg_sweep.specs.Runs.{AreRuns, next_first, run_by, run_view, runs, runs_from}

is-decided : (a b : Class) → (is_class a b ≡ true) ↔ (a ≡ b)
is-decided a b = (is-same a b, λ same. subst (λ (c : Class). is_class a c ≡ true) same (same-class a))

-- a run begins at a step, or goes on there, just where it does among equal entries
same-runs-from : (first k : ℕ) (class : Class) (classes : List Class)
    → map run_view (runs_from first k (class ∷ classes))
    ≡ runs_behind is_class (record { first = first; last = k; entry = class }) (k + 1) classes
same-runs-from first k class [] = refl
same-runs-from first k class (next ∷ classes) =
    go (is_class class next) refl (same-runs-from first (k + 1) next classes)
    (same-runs-from (k + 1) (k + 1) next classes)
  where
    run : RunOf Class
    run = record { first = first; last = k; entry = class }

    go : (b : Bool) → is_class class next ≡ b
        → map run_view (runs_from first (k + 1) (next ∷ classes))
        ≡ runs_behind is_class (record { first = first; last = k + 1; entry = next }) (k + 1 + 1) classes
        → map run_view (runs_from (k + 1) (k + 1) (next ∷ classes))
        ≡ runs_behind is_class (lone_run (k + 1) next) (k + 1 + 1) classes
        → map run_view (run_by (not b) (record { first = first; last = k; class = class })
        (runs_from (next_first (not b) first k) (k + 1) (next ∷ classes)))
        ≡ (if b then runs_behind is_class (longer_run run (k + 1)) (k + 1 + 1) classes
        else run ∷ runs_behind is_class (lone_run (k + 1) next) (k + 1 + 1) classes)
    go true is on anew =
        on ∙ ap (λ (c : Class). runs_behind is_class (record { first = first; last = k + 1; entry = c }) (k + 1 + 1) classes)
        (sym (is-same class next is))
    go false is on anew = ap (λ z. run ∷ z) anew

same-runs : (classes : List Class) → map run_view (runs classes) ≡ runs_of is_class classes
unfolding runs
same-runs [] = refl
same-runs (class ∷ classes) = same-runs-from 0 0 class classes

pub runs-are : (classes : List Class) → AreRuns classes (runs classes)
runs-are classes =
    subst (AreEqualRuns classes) (sym (same-runs classes)) (equal-runs-are is_class is-decided classes)

-- the run of steps that has this view
abbrev unseen : RunOf Class → Run
unseen run = record { first = run.first; last = run.last; class = run.entry }

pub runs-one : (classes : List Class) (more_a more_b : List Run) → AreRuns classes more_a → AreRuns classes more_b
    → more_a ≡ more_b
runs-one classes more_a more_b first second = views-one run_view unseen (λ run. refl) classes more_a more_b first second
