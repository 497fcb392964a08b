-- What is found of the cuts of a script.
use Rattle.std.proofs.Common.{◌≡◌, ℕ, ◌≤◌, List, [], ◌∷◌, length, refl, sym, ap, ◌∙◌, arith, subst}
use Rattle.std.specs.Prelude.{map}
use Rattle.pico_board.specs.declared.Step.{Step}
use Rattle.pico_board.specs.declared.boot.Cpu.{Cpu}
use Rattle.pico_board.specs.declared.boot.BootKind.TheVariants.{Normal}
use Rattle.pico_board.specs.Content.{Content}
use Rattle.pico_board.specs.Cuts.{cut_by, cut_with}
use Rattle.pico_board.specs.MemBoard.{state_of}
use Rattle.pico_board.specs.Steps.{after}
use Rattle.boot_rules.specs.declared.decision.Decision.{Decision}
use Rattle.boot_rules.specs.Choosing.{decision_in}
use Rattle.boot_script.specs.Events.{EventView}
use Rattle.boot_sweep.specs.declared.moves.Move.{Move}
use Rattle.boot_cuts.specs.declared.runs.Run.{Run}
use Rattle.boot_tape.specs.declared.trace.Trace.{Trace}
use Rattle.boot_cuts.specs.Answers.{answer_of, answers}
use Rattle.boot_cuts.specs.Classing.{class_by, class_of}
use Rattle.boot_cuts.specs.Contents.{cut_contents}
use Rattle.boot_tape.specs.Moving.{AreMovesIn, MoveView, Done, Torn, done_count, done_steps, moves_from, traced_by}
use Rattle.boot_tape.specs.Playing.{IsTraceOf}
use Rattle.boot_cuts.specs.Runs.{runs_of}
use Rattle.boot_cuts.specs.Tears.{left_torn}
use Rattle.boot_tape.specs.Traces.{Traced, trace, trace_steps}
use Rattle.boot_tape.proofs.TraceLemmas.{count-traced}

done-steps : (c : Content) (moves : List MoveView) → done_steps moves ≡ trace_steps (traced_by c moves)
done-steps c [] = refl
done-steps c (Done step ∷ moves) = ap (λ steps. step ∷ steps) (done-steps (after c step) moves)
done-steps c (Torn step within pattern ∷ moves) = done-steps (cut_by (cut_with 0 within pattern) c step) moves

pub steps-found : (c : Content) (cpu : Cpu) (events : List EventView) (t : Trace) (steps : List Step)
    (moves : List Move) → IsTraceOf c cpu events t → moves ≡ t.moves.items → steps ≡ done_steps (moves_from moves)
    → steps ≡ trace_steps (trace c cpu events).done
steps-found c cpu events t steps moves is same steps_is =
    steps_is ∙ (ap (λ ms. done_steps (moves_from ms)) same
    ∙ (done-steps c (moves_from t.moves.items) ∙ ap trace_steps is.steps))

-- the steps that are left torn
pub torn-found : (c : Content) (cpu : Cpu) (events : List EventView) (t : Trace) (torn : List Step) (moves : List Move)
    → IsTraceOf c cpu events t → moves ≡ t.moves.items → torn ≡ left_torn (moves_from moves)
    → torn ≡ left_torn (trace c cpu events).moves
torn-found c cpu events t torn moves is same found =
    found ∙ (ap (λ ms. left_torn (moves_from ms)) same ∙ ap left_torn is.moves)

pub runs-found : (c z : Content) (torn : List Step) (cpu : Cpu) (events : List EventView) (pattern : List ℕ) (t : Trace)
    (runs : List Run) (moves : List Move) → IsTraceOf c cpu events t → moves ≡ t.moves.items
    → z ≡ (state_of t.board).content → torn ≡ left_torn (trace c cpu events).moves
    → runs ≡ runs_of (map (answer_of c z torn cpu) (cut_contents pattern (traced_by c (moves_from moves))))
    → runs ≡ runs_of (answers c cpu events pattern)
runs-found c z torn cpu events pattern t runs moves is same end torn_is runs_is =
    runs_is
    ∙ (ap (λ ms. runs_of (map (answer_of c z torn cpu) (cut_contents pattern (traced_by c (moves_from ms))))) same
    ∙ (ap (λ ts. runs_of (map (answer_of c z torn cpu) (cut_contents pattern ts))) is.steps
    ∙ (ap (λ x. runs_of (map (answer_of c x torn cpu) (cut_contents pattern (trace c cpu events).done)))
    (end ∙ is.content)
    ∙ ap (λ x. runs_of (map (answer_of c (trace c cpu events).last x cpu) (cut_contents pattern (trace c cpu events).done)))
    torn_is)))

pub moves-inside : (c : Content) (cpu : Cpu) (events : List EventView) (t : Trace) (moves : List Move) (n : ℕ)
    → IsTraceOf c cpu events t → moves ≡ t.moves.items → n ≡ length c.flash → AreMovesIn n moves
moves-inside c cpu events t moves n is same long =
    subst (λ ms. AreMovesIn n ms) (sym same)
    (subst (λ k. AreMovesIn k t.moves.items) (is.size ∙ sym long) is.ready.inside)

pub moves-few : (c : Content) (cpu : Cpu) (events : List EventView) (t : Trace) (moves : List Move)
    → IsTraceOf c cpu events t → moves ≡ t.moves.items → done_count (moves_from moves) ≤ 262144
moves-few c cpu events t moves is same =
    let count = ap (λ ms. done_count (moves_from ms)) same
    ∙ (count-traced c (moves_from t.moves.items) ∙ ap (λ (ts : List Traced). length ts) is.steps) in
    let short = is.short in omega (arith, count, short)

-- the class of what the script leaves, by the decisions that are known
pub end-found : (c z : Content) (torn : List Step) (cpu : Cpu) (former finished : Decision)
    → former ≡ decision_in c cpu Normal → finished ≡ decision_in z cpu Normal
    → class_by former finished cpu c z torn z finished ≡ class_of c z torn cpu z
end-found c z torn cpu former finished one two =
    ap (λ d. class_by d finished cpu c z torn z finished) one
    ∙ ap (λ d. class_by (decision_in c cpu Normal) d cpu c z torn z d) two
