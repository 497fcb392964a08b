-- The runs that the function gives are runs in the words of their definition, and no others are.
use Rattle.std.proofs.Common.{◌≡◌, ◌↔◌, ℕ, ◌+◌, Bool, true, false, List, [], ◌∷◌, map, refl, sym, ap, subst}
use Rattle.std.specs.Prelude.{if◌then◌else◌}
use Rattle.std.proofs.lemmas.Bool.{and_from, and_parts}
use Rattle.boot_sweep.proofs.ResultLemmas.{decision-same, same-decision}
use Rattle.boot_rules.specs.declared.decision.Decision.{Decision}
use Rattle.equal_runs.specs.Runs.{RunOf, runs_behind, AreRuns as AreEqualRuns, longer_run as longer_equal, lone_run as lone_equal, runs_of as equal_runs_of}
use Rattle.equal_runs.proofs.RunLemmas.{runs-are as equal-runs-are}
use Rattle.equal_runs.proofs.OneLemmas.{views-one}
use Rattle.boot_cuts.specs.declared.answers.Answer.{Answer}
use Rattle.cut_class.specs.declared.class.Class.{Class}
use Rattle.cut_class.proofs.ClassLemmas.{class-self, same-class}
use Rattle.boot_cuts.specs.declared.runs.Run.{Run}
use Rattle.boot_cuts.specs.Runs.{AreRuns, is_same_answer, lone_run, longer_run, run_view, runs_of, runs_behind as cuts_behind}

answer-of-parts : (k l : Class) (d e : Decision) → k ≡ l → d ≡ e
    → (let a : Answer = record { class = k; decision = d } in
    let b : Answer = record { class = l; decision = e } in a ≡ b)
answer-of-parts k l d e one two = cc

same-answer : (a b : Answer) → is_same_answer a b ≡ true → a ≡ b
same-answer a b is =
    let both = and_parts _ _ is in
    answer-of-parts a.class b.class a.decision b.decision (same-class a.class b.class both.0)
    (same-decision a.decision b.decision both.1)

answer-self : (a : Answer) → is_same_answer a a ≡ true
answer-self a = and_from _ _ (class-self a.class) (decision-same a.decision a.decision refl)

-- whether a run's answer is that of a cut, which the function asks of the cut
abbrev goes_on : Answer → Answer → Bool
goes_on former answer = is_same_answer answer former

is-decided : (a b : Answer) → (goes_on a b ≡ true) ↔ (a ≡ b)
is-decided a b = (
  λ is. sym (same-answer b a is),
  λ same. subst (λ (c : Answer). is_same_answer c a ≡ true) same (answer-self a),
)

-- a run begins at a cut, or goes on there, just where it does among equal entries
same-runs-behind : (run : Run) (k : ℕ) (answers : List Answer)
    → map run_view (cuts_behind run k answers) ≡ runs_behind goes_on (run_view run) k answers
same-runs-behind run k [] = refl
same-runs-behind run k (a ∷ answers) =
    go (is_same_answer a run.answer) (same-runs-behind (longer_run run k) (k + 1) answers)
    (same-runs-behind (lone_run k a) (k + 1) answers)
  where
    go : (b : Bool)
        → map run_view (cuts_behind (longer_run run k) (k + 1) answers)
        ≡ runs_behind goes_on (longer_equal (run_view run) k) (k + 1) answers
        → map run_view (cuts_behind (lone_run k a) (k + 1) answers)
        ≡ runs_behind goes_on (lone_equal k a) (k + 1) answers
        → map run_view (if b then cuts_behind (longer_run run k) (k + 1) answers
        else run ∷ cuts_behind (lone_run k a) (k + 1) answers)
        ≡ (if b then runs_behind goes_on (longer_equal (run_view run) k) (k + 1) answers
        else run_view run ∷ runs_behind goes_on (lone_equal k a) (k + 1) answers)
    go true on anew = on
    go false on anew = ap (λ z. run_view run ∷ z) anew

same-runs : (answers : List Answer) → map run_view (runs_of answers) ≡ equal_runs_of goes_on answers
same-runs [] = refl
same-runs (a ∷ answers) = same-runs-behind (lone_run 0 a) 1 answers

pub runs-are : (answers : List Answer) → AreRuns answers (runs_of answers)
runs-are answers = subst (AreEqualRuns answers) (sym (same-runs answers)) (equal-runs-are goes_on is-decided answers)

-- the run of cuts that has this view
abbrev unseen : RunOf Answer → Run
unseen run = record { first = run.first; last = run.last; answer = run.entry }

pub runs-one : (answers : List Answer) (more_a more_b : List Run) → AreRuns answers more_a → AreRuns answers more_b
    → more_a ≡ more_b
runs-one answers more_a more_b first second = views-one run_view unseen (λ run. refl) answers more_a more_b first second
