-- `cuts` is right by its rules.
use Rattle.std.proofs.Common.{◌≡◌, ℕ, ◌<◌, ◌≤◌, Bool, List, [], ◌∷◌, length, Ok, refl, sym, ap, ◌∙◌, subst, inl, inr}
use Rattle.std.specs.Prelude.{⊤, if◌then◌else◌, codes}
use Rattle.std.proofs.lemmas.Bool.{cases_lt, le-ltb, lt-ltb}
use Rattle.pico_board.specs.declared.boot.Cpu.{Cpu}
use Rattle.pico_board.specs.Content.{Content}
use Rattle.boot_script.specs.Events.{EventView}
use Rattle.boot_script.specs.Scripts.{events, events_read, script_events}
use Rattle.boot_script.proofs.WalkLemmas.{events-read}
use Rattle.cli_course.specs.declared.status.Status.TheVariants.{Input as Refused}
use Rattle.cli_course.specs.Outcomes.{AnswerView, Judges, Refuses, Work, ended, refused, verdict_status, worked}
use Rattle.cli_inputs.specs.declared.forms.Form.TheVariants.{Script}
use Rattle.cli_inputs.specs.Forms.{HasForm}
use Rattle.cli_inputs.specs.Rules.{IsRefusedOrRight, IsByRules}
use Rattle.cli_inputs.proofs.WorkLemmas.{same-outcome}
use Rattle.boot_cuts.specs.declared.answers.Answer.{Answer}
use Rattle.boot_cuts.specs.declared.found.Cuts.{Cuts}
use Rattle.boot_cuts.specs.declared.runs.Run.{Run}
use Rattle.boot_cuts.specs.Answers.{answers, end_answer}
use Rattle.boot_cuts.specs.Contents.{cut_contents}
use Rattle.boot_cuts.specs.Found.{AreCutsOf, trace_limit}
use Rattle.boot_cuts.specs.Runs.{runs_of}
use Rattle.boot_tape.specs.Traces.{trace, trace_steps}
use Rattle.boot_cuts.proofs.ClassLemmas.{answer-is, answers-are, one-answer, one-answers}
use Rattle.boot_cuts.proofs.RunLawLemmas.{runs-are, runs-one}
use Rattle.cli_check.specs.CutsRules.{IsCutsOf, IsCutsRefused, IsStatusOf}
use Rattle.cli_check.specs.CutsTexts.{cuts_text}
use Rattle.cli_check.specs.CutsWorks.{cuts_verdict, cuts_work, events_work, run_answers, script_runs, told_cuts, verdict_of}
use Rattle.cli_check.proofs.StatusLemmas.{not-input, status-is, status-only}

module _ (c : Content) (cpu : Cpu) (name pattern : List ℕ) where
  judged : List EventView → Work
  judged es = Judges (cuts_verdict c cpu es pattern) (told_cuts c cpu es pattern)

  work-by : List EventView → Bool → Work
  unfolding judged
  work-by es long = if long then Refuses name (codes "too-many-steps") else judged es

  -- too many steps
  pub long-work : (es : List EventView) → trace_limit < length (trace c cpu es).done
      → worked (events_work c cpu name es pattern) ≡ refused name (codes "too-many-steps")
  unfolding judged work-by
  long-work es many =
      ap (λ b. worked (work-by es b)) (lt-ltb trace_limit (length (trace c cpu es).done) many)

  pub short-work : (es : List EventView) → length (trace c cpu es).done ≤ trace_limit
      → worked (events_work c cpu name es pattern)
      ≡ ended (verdict_status (cuts_verdict c cpu es pattern)) (told_cuts c cpu es pattern)
  unfolding judged work-by
  short-work es few =
      ap (λ b. worked (work-by es b)) (le-ltb trace_limit (length (trace c cpu es).done) few)

  -- the cuts that were found
  pub found-work : (es : List EventView) (found : Cuts) → AreCutsOf c cpu es pattern found
      → ended (verdict_status (verdict_of
      (record { class = found.end_; decision = found.finished } ∷ run_answers found.runs.items)))
      (cuts_text found.steps.items found.numbers.items found.runs.items found.end_ found.finished)
      ≡ worked (events_work c cpu name es pattern)
  found-work es found is =
      let told : List Run → Answer → AnswerView =
      λ runs end. ended (verdict_status (verdict_of (end ∷ run_answers runs)))
      (cuts_text (trace_steps (trace c cpu es).done) (trace c cpu es).numbers runs end.class end.decision) in
      ap (λ steps. ended (verdict_status (verdict_of
      (record { class = found.end_; decision = found.finished } ∷ run_answers found.runs.items)))
      (cuts_text steps found.numbers.items found.runs.items found.end_ found.finished)) is.steps
      ∙ (ap (λ numbers. ended (verdict_status (verdict_of
      (record { class = found.end_; decision = found.finished } ∷ run_answers found.runs.items)))
      (cuts_text (trace_steps (trace c cpu es).done) numbers found.runs.items found.end_ found.finished)) is.numbers
      ∙ ap (λ runs. told runs (record { class = found.end_; decision = found.finished })) is.runs
      ∙ (ap (λ k. told (script_runs c cpu es pattern) (record { class = k; decision = found.finished })) is.end_
      ∙ (ap (λ d. told (script_runs c cpu es pattern)
      (record { class = (end_answer c cpu es).class; decision = d })) is.finished
      ∙ sym (short-work es is.short))))

module _ (c : Content) (cpu : Cpu) (name script pattern : List ℕ) where
  abbrev happened : List EventView
  happened = script_events script

  one-list : (es : List EventView) → events script ≡ Ok es → es ≡ happened
  one-list es reads = sym (ap events_read reads)

  pub cuts-right : HasForm Script script
      → IsRefusedOrRight (IsCutsRefused name c cpu script) (IsCutsOf c cpu script pattern)
      (worked (cuts_work c cpu name script pattern))
  cuts-right form = elim (cases_lt trace_limit (length (trace c cpu happened).done)) [
    | inl many ↦ inl (
      name,
      codes "too-many-steps",
      record { happened = happened; reads = events-read script form; many = many; blames = refl; tells = refl },
      long-work c cpu name pattern happened many,
    )
    | inr few ↦
        let told = short-work c cpu name pattern happened few in
        let z = (trace c cpu happened).last in
        inr (record {
          happened = happened;
          reads = events-read script form;
          short = few;
          told = answers c cpu happened pattern;
          answered = answers-are c z (trace c cpu happened).moves cpu (cut_contents pattern (trace c cpu happened).done);
          runs = script_runs c cpu happened pattern;
          maximal = runs-are (answers c cpu happened pattern);
          end_ = end_answer c cpu happened;
          ended = answer-is c z (trace c cpu happened).moves cpu z;
          text = ap (λ (o : AnswerView). o.text) told;
          status = subst (λ (o : AnswerView). IsStatusOf
              (end_answer c cpu happened ∷ run_answers (script_runs c cpu happened pattern)) o.status) (sym told)
              (status-is (end_answer c cpu happened ∷ run_answers (script_runs c cpu happened pattern)));
          files = ap (λ (o : AnswerView). o.files) told;
        })
  ]

  pub cuts-only : (o : AnswerView) → IsCutsOf c cpu script pattern o → o ≡ worked (cuts_work c cpu name script pattern)
  cuts-only o is =
      let es = is.happened in
      let z = (trace c cpu es).last in
      let told : is.told ≡ answers c cpu es pattern =
      one-answers c z (trace c cpu es).moves cpu (cut_contents pattern (trace c cpu es).done) is.told is.answered in
      let runs : is.runs ≡ script_runs c cpu es pattern =
      runs-one is.told is.runs (runs_of is.told) is.maximal (runs-are is.told) ∙ ap runs_of told in
      let end : is.end_ ≡ end_answer c cpu es = one-answer c z (trace c cpu es).moves cpu z is.end_ is.ended in
      same-outcome o (verdict_status (cuts_verdict c cpu es pattern)) (told_cuts c cpu es pattern) []
      (status-only (is.end_ ∷ run_answers is.runs) o.status is.status
      ∙ (ap (λ xs. verdict_status (verdict_of (is.end_ ∷ run_answers xs))) runs
      ∙ ap (λ (a : Answer). verdict_status (verdict_of (a ∷ run_answers (script_runs c cpu es pattern)))) end))
      (is.text ∙ (ap (λ xs. cuts_text (trace_steps (trace c cpu es).done) (trace c cpu es).numbers xs is.end_.class is.end_.decision) runs
      ∙ ap (λ (a : Answer). cuts_text (trace_steps (trace c cpu es).done) (trace c cpu es).numbers
      (script_runs c cpu es pattern) a.class a.decision) end))
      is.files
      ∙ (sym (short-work c cpu name pattern es is.short)
      ∙ ap (λ xs. worked (events_work c cpu name xs pattern)) (one-list es is.reads))

  pub cuts-refuses : HasForm Script script → (worked (cuts_work c cpu name script pattern)).status ≡ Refused
      → (blamed : List ℕ) × (fault : List ℕ) × IsCutsRefused name c cpu script blamed fault
  cuts-refuses form h = elim (cases_lt trace_limit (length (trace c cpu happened).done)) [
    | inl many ↦ (
      name,
      codes "too-many-steps",
      record { happened = happened; reads = events-read script form; many = many; blames = refl; tells = refl },
    )
    | inr few ↦ absurd (not-input (cuts_verdict c cpu happened pattern)
        (sym (ap (λ (o : AnswerView). o.status) (short-work c cpu name pattern happened few)) ∙ h))
  ]

  pub cuts-exact : (blamed fault : List ℕ) → IsCutsRefused name c cpu script blamed fault
      → worked (cuts_work c cpu name script pattern) ≡ refused blamed fault
  cuts-exact blamed fault is =
      ap (λ es. worked (events_work c cpu name es pattern)) (sym (one-list is.happened is.reads))
      ∙ (long-work c cpu name pattern is.happened is.many
      ∙ (ap (λ n. refused n (codes "too-many-steps")) (sym is.blames) ∙ ap (refused blamed) (sym is.tells)))

-- `cuts` is right by its rules
pub cuts-works : (c : Content) (cpu : Cpu) (script s p : List ℕ) → HasForm Script s
    → IsByRules ⊤ (cuts_work c cpu script s p) (IsCutsRefused script c cpu s) (IsCutsOf c cpu s p)
cuts-works c cpu script s p form = record {
  done = λ need. cuts-right c cpu script s p form;
  only = cuts-only c cpu script s p;
  refuses = cuts-refuses c cpu script s p form;
  exact = cuts-exact c cpu script s p;
}
