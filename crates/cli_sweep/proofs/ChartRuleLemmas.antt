-- `chart` is right by its rules.
use Rattle.std.proofs.Common.{◌≡◌, ℕ, zero, suc, ◌≤◌, Bool, true, false, List, [], ◌∷◌, length, take, Option, Some, None, refl, sym, ap, ◌∙◌, subst, inl, inr, arith}
use Rattle.std.specs.Prelude.{slice_get, nat_lt}
use Rattle.std.specs.Option.{option_or}
use Rattle.std.proofs.lemmas.Option.{same_Some}
use Rattle.std.proofs.lemmas.Bool.{ltb-false}
use Rattle.pico_board.specs.declared.Step.{Step}
use Rattle.pico_board.specs.declared.boot.Cpu.{Cpu}
use Rattle.pico_board.specs.declared.boot.BootKind.TheVariants.{Normal}
use Rattle.pico_board.specs.Content.{Content, IsContent}
use Rattle.pico_board.specs.Steps.{after, after_all}
use Rattle.boot_rules.specs.declared.decision.Decision.{Decision}
use Rattle.boot_rules.specs.Choosing.{decision_in}
use Rattle.boot_rules.proofs.DecisionLemmas.{decision-chosen, chosen-decision}
use Rattle.boot_sweep.specs.declared.error.SweepError.{SweepError}
use Rattle.boot_sweep.specs.declared.error.SweepError.TheVariants.{TooManySteps}
use Rattle.boot_sweep.specs.declared.results.CutResult.{CutResult}
use Rattle.boot_sweep.specs.declared.results.StepResults.{StepResults}
use Rattle.boot_sweep.specs.declared.results.SweepResults.{SweepResults}
use Rattle.boot_sweep.specs.Comparing.{result_of}
use Rattle.boot_sweep.specs.Refusals.{IsRefusedSession, sweep_refusal, where_}
use Rattle.boot_session.specs.Recordings.{step_limit}
use Rattle.boot_session.specs.Scripts.{script_session}
use Rattle.boot_sweep.specs.StepResults.{IsResultsOf, results_from, step_results, sweep_results}
use Rattle.boot_sweep.specs.Sweeps.{content_after_cut}
use Rattle.boot_sweep.proofs.RefusalCaseLemmas.{refused-exactly}
use Rattle.boot_sweep.proofs.ResultLemmas.{judged, judged-exactly}
use Rattle.cli_course.specs.declared.status.Status.TheVariants.{Done, Input as Refused}
use Rattle.cli_course.specs.Outcomes.{AnswerView, one_file, refused, worked}
use Rattle.cli_inputs.specs.Rules.{IsRefusedOrRight, IsByRules}
use Rattle.cli_inputs.proofs.WorkLemmas.{same-outcome}
use Rattle.text_lines.specs.Texts.{decision_text}
use Rattle.svg_sweep.specs.Charts.{Chart}
use Rattle.cli_sweep.specs.SweepRules.{IsSweepRefused}
use Rattle.cli_sweep.specs.SweepWorks.{sweep_fault}
use Rattle.cli_sweep.specs.ChartWorks.{chart_file, chart_line, chart_of, chart_with, chart_work, drawn_work}
use Rattle.cli_sweep.specs.ChartRules.{AreCutsOf, IsChartOf, IsCutOf}

or-none : {T : Type 0} (x y : Option T) → option_or x y ≡ None → (x ≡ None) × (y ≡ None)
or-none None y is = (refl, is)
or-none (Some x) y is = cc

where-none : (b : Bool) (e : SweepError) → where_ b e ≡ None → b ≡ false
where-none true e is = cc
where-none false e is = refl

-- a session that is swept has no more steps than may be swept
pub few-steps : (c : Content) (cpu : Cpu) (steps : List Step) → sweep_refusal c cpu steps ≡ None
    → length steps ≤ step_limit
unfolding sweep_refusal
few-steps c cpu steps none =
    ltb-false step_limit (length steps) (where-none (nat_lt step_limit (length steps)) TooManySteps
    (or-none _ _ (or-none _ _ (or-none _ _ none).1).1).0)

module _ (judge : Content → CutResult) (pattern : List ℕ) where
  pub length-results : (b : Content) (steps : List Step) → length (results_from judge pattern b steps) ≡ length steps
  length-results b [] = refl
  length-results b (step ∷ steps) = ap suc (length-results (after b step) steps)

  -- the results of a step are those of the content before it
  results-at : (b : Content) (steps : List Step) (j : ℕ) (step : Step) → slice_get steps j ≡ Some step
      → slice_get (results_from judge pattern b steps) j
      ≡ Some (step_results judge (after_all b (take j steps)) pattern step)
  results-at b [] j step is = cc
  results-at b (x ∷ xs) zero step is = ap (λ s. Some (step_results judge b pattern s)) (same_Some x step is)
  results-at b (x ∷ xs) (suc j) step is = results-at (after b x) xs j step is

  -- results that are those of each step are those of all
  same-results : (b : Content) (steps : List Step) (cuts : List StepResults) → length cuts ≡ length steps
      → ((j : ℕ) (step : Step) (cut : StepResults) → slice_get steps j ≡ Some step → slice_get cuts j ≡ Some cut
      → cut ≡ step_results judge (after_all b (take j steps)) pattern step)
      → cuts ≡ results_from judge pattern b steps
  same-results b [] [] long are = refl
  same-results b [] (y ∷ ys) long are = absurd (omega (arith, long))
  same-results b (x ∷ xs) [] long are = absurd (omega (arith, long))
  same-results b (x ∷ xs) (y ∷ ys) long are =
      ap (λ z. z ∷ ys) (are 0 x y refl refl)
      ∙ ap (λ zs. step_results judge b pattern x ∷ zs) (same-results (after b x) xs ys (omega (arith, long))
      (λ j step cut one two. are (suc j) step cut one two))

module _ (c : Content) (cpu : Cpu) (pattern : List ℕ) (steps : List Step) where
  abbrev judge : Content → CutResult
  judge d = result_of c (after_all c steps) d cpu

  are-cuts : AreCutsOf c cpu pattern steps (sweep_results c cpu pattern steps)
  are-cuts = record {
    count = length-results judge pattern c steps;
    each = λ j step cut at is.
        let b = after_all c (take j steps) in
        let same : step_results judge b pattern step ≡ cut =
        same_Some (step_results judge b pattern step) cut (sym (results-at judge pattern c steps j step at) ∙ is) in
        subst (λ (r : StepResults). IsCutOf c cpu pattern steps j step r) same (record {
          before_is = judged c (after_all c steps) (content_after_cut b pattern step false) cpu;
          within_is = judged c (after_all c steps) (content_after_cut b pattern step true) cpu;
        });
  }

  only-cuts : (cuts : List StepResults) → AreCutsOf c cpu pattern steps cuts → cuts ≡ sweep_results c cpu pattern steps
  only-cuts cuts are = same-results judge pattern c steps cuts are.count each
    where
      each : (j : ℕ) (step : Step) (cut : StepResults) → slice_get steps j ≡ Some step → slice_get cuts j ≡ Some cut
          → cut ≡ step_results judge (after_all c (take j steps)) pattern step
      each j step cut at is =
          let b = after_all c (take j steps) in
          let right = are.each j step cut at is in
          let first : cut.before ≡ judge (content_after_cut b pattern step false) =
          (judged-exactly c (after_all c steps)
          (content_after_cut b pattern step false) cpu cut.before).0 right.before_is in
          let second : cut.within ≡ judge (content_after_cut b pattern step true) =
          (judged-exactly c (after_all c steps)
          (content_after_cut b pattern step true) cpu cut.within).0 right.within_is in
          let P : CutResult → CutResult → StepResults = λ x y. record { before = x; within = y } in
          ap (λ x. P x cut.within) first ∙ ap (λ y. P (judge (content_after_cut b pattern step false)) y) second

-- what a sweep finds has no more steps than may be swept, and as many results
pub swept-few : (c : Content) (cpu : Cpu) (pattern : List ℕ) (steps : List Step) (found : SweepResults)
    → IsResultsOf c cpu pattern steps found → sweep_refusal c cpu steps ≡ None
    → (length found.steps.items ≤ 262144) × (length found.cuts.items ≤ 262144)
unfolding step_limit
swept-few c cpu pattern steps found is none =
    let few = few-steps c cpu steps none in
    let long : length found.cuts.items ≡ length steps =
    ap length is.results.cuts_are ∙ length-results (judge c cpu pattern steps) pattern c steps in (
      omega (arith, few, ap length is.steps_are),
      omega (arith, few, long),
    )

module _ (c : Content) (cpu : Cpu) (script out bytes pattern : List ℕ) where
  abbrev steps : List Step
  steps = script_session c cpu bytes

  abbrev chart : Chart
  chart = chart_of c cpu pattern steps

  told-chart : Chart → Decision → AnswerView
  told-chart drawn decision = record {
    status = Done;
    text = chart_line drawn;
    files = one_file out (chart_file drawn (decision_text decision));
  }

  by-reason : Option SweepError → AnswerView
  by-reason reason = worked (drawn_work script out chart (decision_text (decision_in c cpu Normal)) reason)

  none-told : sweep_refusal c cpu steps ≡ None
      → worked (chart_work c cpu script out bytes pattern) ≡ told-chart chart (decision_in c cpu Normal)
  unfolding told-chart by-reason
  none-told none = ap by-reason none

  some-told : (e : SweepError) → sweep_refusal c cpu steps ≡ Some e
      → worked (chart_work c cpu script out bytes pattern) ≡ refused script (sweep_fault e)
  unfolding by-reason
  some-told e some = ap by-reason some

  -- nothing refuses the session
  not-refused : IsContent c → sweep_refusal c cpu steps ≡ None → (e : SweepError) → IsRefusedSession c cpu steps e → ⊥
  not-refused right none e is =
      let two : Some e ≡ None = sym ((refused-exactly c cpu steps right e).1 is) ∙ none in cc

  none-refused : IsContent c → ((e : SweepError) → IsRefusedSession c cpu steps e → ⊥)
      → sweep_refusal c cpu steps ≡ None
  none-refused right taken = go (sweep_refusal c cpu steps) refl
    where
      go : (o : Option SweepError) → sweep_refusal c cpu steps ≡ o → sweep_refusal c cpu steps ≡ None
      go None is = is
      go (Some e) is = absurd (taken e ((refused-exactly c cpu steps right e).0 is))

  refused-for : (e : SweepError) → sweep_refusal c cpu steps ≡ Some e
      → IsSweepRefused script c cpu bytes script (sweep_fault e)
  refused-for e some = record {
    reason = e;
    named = some;
    holds = λ right. (refused-exactly c cpu steps right e).0 some;
    blames = refl;
    tells = refl;
  }

  chart-right : IsContent c → IsRefusedOrRight (IsSweepRefused script c cpu bytes) (IsChartOf c cpu out bytes pattern)
      (worked (chart_work c cpu script out bytes pattern))
  unfolding told-chart
  chart-right right = go (sweep_refusal c cpu steps) refl
    where
      go : (o : Option SweepError) → sweep_refusal c cpu steps ≡ o
          → IsRefusedOrRight (IsSweepRefused script c cpu bytes) (IsChartOf c cpu out bytes pattern)
          (worked (chart_work c cpu script out bytes pattern))
      go None none =
          let told = none-told none in
          inr (record {
            right = right;
            taken = not-refused right none;
            cuts = sweep_results c cpu pattern steps;
            swept = are-cuts c cpu pattern steps;
            whole = result_of c (after_all c steps) (after_all c steps) cpu;
            ends = judged c (after_all c steps) (after_all c steps) cpu;
            decision = decision_in c cpu Normal;
            chosen = decision-chosen c cpu Normal;
            status = ap (λ (o : AnswerView). o.status) told;
            text = ap (λ (o : AnswerView). o.text) told;
            files = ap (λ (o : AnswerView). o.files) told;
          })
      go (Some e) some = inl (script, sweep_fault e, refused-for e some, some-told e some)

  chart-only : (o : AnswerView) → IsChartOf c cpu out bytes pattern o
      → o ≡ worked (chart_work c cpu script out bytes pattern)
  unfolding told-chart
  chart-only o is =
      same-outcome o Done _ _ is.status is.text is.files
      ∙ (ap (λ (cuts : List StepResults). told-chart (chart_with steps cuts is.whole) is.decision)
      (only-cuts c cpu pattern steps is.cuts is.swept)
      ∙ (ap (λ (r : CutResult). told-chart (chart_with steps (sweep_results c cpu pattern steps) r) is.decision)
      ((judged-exactly c (after_all c steps) (after_all c steps) cpu is.whole).0 is.ends)
      ∙ (ap (λ (d : Decision). told-chart chart d) (chosen-decision c cpu Normal is.decision is.chosen)
      ∙ sym (none-told (none-refused is.right is.taken)))))

  chart-refuses : (worked (chart_work c cpu script out bytes pattern)).status ≡ Refused
      → (name : List ℕ) × (fault : List ℕ) × IsSweepRefused script c cpu bytes name fault
  unfolding told-chart
  chart-refuses h = go (sweep_refusal c cpu steps) refl
    where
      go : (o : Option SweepError) → sweep_refusal c cpu steps ≡ o
          → (name : List ℕ) × (fault : List ℕ) × IsSweepRefused script c cpu bytes name fault
      go None none = let e : Done ≡ Refused = sym (ap (λ (o : AnswerView). o.status) (none-told none)) ∙ h in cc
      go (Some e) some = (script, sweep_fault e, refused-for e some)

  chart-exact : (name fault : List ℕ) → IsSweepRefused script c cpu bytes name fault
      → worked (chart_work c cpu script out bytes pattern) ≡ refused name fault
  chart-exact name fault is =
      some-told is.reason is.named
      ∙ (ap (λ n. refused n (sweep_fault is.reason)) (sym is.blames) ∙ ap (λ f. refused name f) (sym is.tells))

-- `chart` is right by its rules
pub chart-works : (c : Content) (cpu : Cpu) (script out s p : List ℕ)
    → IsByRules (IsContent c) (chart_work c cpu script out s p) (IsSweepRefused script c cpu s)
    (IsChartOf c cpu out s p)
chart-works c cpu script out s p = record {
  done = chart-right c cpu script out s p;
  only = chart-only c cpu script out s p;
  refuses = chart-refuses c cpu script out s p;
  exact = chart-exact c cpu script out s p;
}
