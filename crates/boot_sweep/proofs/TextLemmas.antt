-- The text of a sweep, from what the code keeps.
use Rattle.std.proofs.Common.{◌≡◌, ℕ, ◌≤◌, All, List, [], ◌∷◌, length, Option, Some, None, refl, sym, ap, ◌∙◌, subst}
use Rattle.std.specs.Prelude.{IsTrue}
use Rattle.std.specs.List.{AllByRecursion}
use Rattle.std.proofs.lemmas.Bool.{ltb-false}
use Rattle.std.proofs.lemmas.List.Elements.{All-from_recursion}
use Rattle.pico_board.specs.declared.Step.{Step}
use Rattle.pico_board.specs.declared.boot.Cpu.{Cpu}
use Rattle.pico_board.specs.declared.boot.BootKind.TheVariants.{Normal}
use Rattle.pico_board.specs.declared.mem_board.MemBoard.{MemBoard}
use Rattle.pico_board.specs.Board.{State}
use Rattle.pico_board.specs.MemBoard.{new_state, state_of}
use Rattle.pico_board.proofs.CuttingLemmas.{length-after_all}
use Rattle.pico_board.specs.declared.window.Window.{Window}
use Rattle.pico_board.specs.Content.{Content, IsContent}
use Rattle.pico_board.specs.Steps.{IsStepIn, after_all}
use Rattle.boot_rules.specs.declared.decision.Decision.{Decision}
use Rattle.boot_rules.specs.Choosing.{decision_in}
use Rattle.boot_session.specs.declared.recorder.Recorder.{Recorder}
use Rattle.boot_sweep.specs.declared.results.CutResult.{CutResult}
use Rattle.boot_sweep.specs.Comparing.{result_by}
use Rattle.boot_session.specs.Recordings.{IsRecorderOf, step_limit}
use Rattle.boot_sweep.specs.Refusals.{sweep_refusal}
use Rattle.boot_session.specs.Slots.{outside_from, session_slot}
use Rattle.boot_script.specs.Scripts.{script_events}
use Rattle.boot_session.specs.Scripts.{content_of, script_session}
use Rattle.boot_session.specs.Sessions.{session}
use Rattle.boot_sweep.specs.declared.results.StepResults.{StepResults}
use Rattle.boot_sweep.specs.declared.results.SweepResults.{SweepResults}
use Rattle.boot_sweep.specs.StepResults.{HasResults, IsResultsOf, results_from, sweep_results}
use Rattle.boot_sweep.proofs.ChanceLemmas.{gated-confined, slot-inside, steps-in}
use Rattle.boot_sweep.proofs.ReasonLemmas.{reason-of}
use Rattle.boot_sweep.proofs.RefusalLemmas.{first-all, no-reason, sweepable}
use Rattle.boot_session.proofs.SlotLemmas.{slot-found}

-- the results by the decisions that were made before and after the session are those of the sweep
results-whole : (c z : Content) (former finished : Decision) (cpu : Cpu) (pattern : List ℕ) (steps : List Step)
    → former ≡ decision_in c cpu Normal → finished ≡ decision_in z cpu Normal → z ≡ after_all c steps
    → results_from (λ d. result_by former finished cpu d z) pattern c steps ≡ sweep_results c cpu pattern steps
results-whole c z former finished cpu pattern steps one two is =
    ap (λ f. results_from (λ d. result_by f finished cpu d z) pattern c steps) one
    ∙ (ap (λ f. results_from (λ d. result_by (decision_in c cpu Normal) f cpu d z) pattern c steps) two
    ∙ ap (λ y. results_from (λ d. result_by (decision_in c cpu Normal) (decision_in y cpu Normal) cpu d y)
    pattern c steps) is)

some-none : (k : ℕ) → Some k ≡ None → ⊥
some-none k e = cc

ranges-of : (c : Content) (cpu : Cpu) (steps : List Step) → IsContent c → sweep_refusal c cpu steps ≡ None
    → AllByRecursion (IsStepIn (length c.flash)) steps
ranges-of c cpu [] right none = tt
ranges-of c cpu (step ∷ steps) right none = go (session_slot c cpu (step ∷ steps)) refl
  where
    go : (o : Option Window) → session_slot c cpu (step ∷ steps) ≡ o
        → AllByRecursion (IsStepIn (length c.flash)) (step ∷ steps)
    go None is =
        absurd (some-none 0 (sym (ap (λ o. outside_from 0 o (step ∷ steps)) is)
        ∙ (no-reason c cpu (step ∷ steps) none).inside))
    go (Some w) is =
        let slot = slot-found c cpu (step ∷ steps) w is in
        steps-in w (length c.flash) (step ∷ steps) (slot-inside c cpu (step ∷ steps) w right slot)
        (gated-confined w (step ∷ steps) (sweepable c cpu (step ∷ steps) w right none slot).gated)

-- the recorder of a session that is swept has all of its steps, and each of them is in range
pub recorded-steps : (r : Recorder MemBoard) (c : Content) (cpu : Cpu) (steps : List Step) → IsContent c
    → IsRecorderOf r c cpu steps → sweep_refusal c cpu steps ≡ None
    → (r.steps.items ≡ steps) × All (IsStepIn (length c.flash)) r.steps.items × (length r.steps.items ≤ step_limit)
recorded-steps r c cpu steps right is none =
    let few = ltb-false step_limit (length steps) (no-reason c cpu steps none).few in
    let same = is.recorded.kept ∙ first-all steps few in (
      same,
      subst (λ xs. All (IsStepIn (length c.flash)) xs) (sym same)
          (All-from_recursion (IsStepIn (length c.flash)) steps (ranges-of c cpu steps right none)),
      subst (λ xs. length xs ≤ step_limit) (sym same) few,
    )

-- a session of one recorder is refused or not, whichever of its lists is judged
pub none-too : (r : Recorder MemBoard) (c : Content) (cpu : Cpu) (first steps : List Step)
    → IsRecorderOf r c cpu first → sweep_refusal c cpu first ≡ None → IsRecorderOf r c cpu steps
    → sweep_refusal c cpu steps ≡ None
none-too r c cpu first steps one none is = reason-of r c cpu steps is ∙ (sym (reason-of r c cpu first one) ∙ none)

-- the board after the session, as the lines want it
pub ends-power : (r : Recorder MemBoard) (c : Content) (cpu : Cpu) (steps : List Step) (z : MemBoard) → z ≡ r.bench
    → IsRecorderOf r c cpu steps → IsTrue (state_of z).powered
ends-power r c cpu steps z same is = subst (λ b. IsTrue (state_of b).powered) (sym same) is.ready.power

pub ends-long : (r : Recorder MemBoard) (c : Content) (cpu : Cpu) (steps : List Step) (z : MemBoard) → z ≡ r.bench
    → IsRecorderOf r c cpu steps → length (state_of z).content.flash ≡ length c.flash
ends-long r c cpu steps z same is =
    ap (λ b. length (state_of b).content.flash) same
    ∙ (ap (λ (x : Content). length x.flash) is.content ∙ length-after_all c steps)

-- the results of the recorder's steps and of all of them are those of the sweep
pub results-told : (r : Recorder MemBoard) (c : Content) (cpu : Cpu) (steps : List Step) (z : MemBoard)
    (former finished : Decision) (d : Content) (pattern : List ℕ) (cuts : List StepResults) (end_ : CutResult)
    → IsContent c → IsRecorderOf r c cpu steps → sweep_refusal c cpu steps ≡ None → z ≡ r.bench
    → former ≡ decision_in c cpu Normal → finished ≡ decision_in (state_of r.bench).content cpu Normal
    → cuts ≡ results_from (λ d. result_by former finished cpu d (state_of z).content) pattern c r.steps.items
    → d ≡ after_all c r.steps.items → end_ ≡ result_by former finished cpu d (state_of z).content
    → HasResults c cpu pattern steps cuts end_
results-told r c cpu steps z former finished d pattern cuts end_ right is none same one two first left last =
    let y = (state_of z).content in
    let at : y ≡ after_all c steps = ap (λ b. (state_of b).content) same ∙ is.content in
    let kept = (recorded-steps r c cpu steps right is none).0 in
    let there : finished ≡ decision_in y cpu Normal =
    two ∙ ap (λ b. decision_in (state_of b).content cpu Normal) (sym same) in
    let z = after_all c steps in record {
      cuts_are = first ∙ (ap (λ xs. results_from (λ d. result_by former finished cpu d y) pattern c xs) kept
          ∙ results-whole c y former finished cpu pattern steps one there at);
      whole = last ∙ (ap (λ x. result_by former finished cpu x y) (left ∙ ap (after_all c) kept)
          ∙ (ap (λ f. result_by f finished cpu z y) one
          ∙ (ap (λ f. result_by (decision_in c cpu Normal) f cpu z y) there
          ∙ ap (λ x. result_by (decision_in c cpu Normal) (decision_in x cpu Normal) cpu z x) at)));
    }

-- what the recorder kept and these results are what a sweep finds
pub is-found : (r : Recorder MemBoard) (c : Content) (cpu : Cpu) (pattern : List ℕ) (steps : List Step)
    (found : SweepResults) → IsContent c → IsRecorderOf r c cpu steps → sweep_refusal c cpu steps ≡ None
    → found.steps.items ≡ r.steps.items → HasResults c cpu pattern steps found.cuts.items found.end
    → IsResultsOf c cpu pattern steps found
is-found r c cpu pattern steps found right is none same results = record {
  steps_are = same ∙ (recorded-steps r c cpu steps right is none).0;
  results = results;
}

-- the recorder of a script's session, for another board with the same content
pub recorder-of : (r : Recorder MemBoard) (one two : MemBoard) (flash otp : List ℕ) (cpu : Cpu) (script : List ℕ)
    → state_of one ≡ new_state flash otp → state_of two ≡ new_state flash otp
    → IsRecorderOf r (state_of one).content cpu (session (state_of one).content cpu (script_events script))
    → IsRecorderOf r (state_of two).content cpu (script_session (content_of flash otp) cpu script)
unfolding script_session
recorder-of r one two flash otp cpu script first second is =
    subst (λ (s : State). IsRecorderOf r s.content cpu (session (content_of flash otp) cpu (script_events script)))
    (sym second)
    (subst (λ (s : State). IsRecorderOf r s.content cpu (session s.content cpu (script_events script))) first is)
