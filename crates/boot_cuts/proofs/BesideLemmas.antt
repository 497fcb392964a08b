-- Cuts of steps that lie in one member of a pair.
use Rattle.std.proofs.Common.{◌≡◌, ℕ, ◌≤◌, Bool, true, false, List, [], ◌∷◌, length, Option, Some, None, refl, sym, ap, ◌∙◌, subst, arith}
use Rattle.std.specs.Prelude.{◌&&◌, if◌then◌else◌}
use Rattle.std.specs.List.{AllByRecursion}
use Rattle.std.proofs.lemmas.Bool.{and_from}
use Rattle.pico_board.specs.declared.Step.{Step}
use Rattle.pico_board.specs.declared.boot.Cpu.{Cpu}
use Rattle.pico_board.specs.declared.boot.BootKind.TheVariants.{Normal}
use Rattle.pico_board.specs.declared.window.Window.{Window}
use Rattle.pico_board.specs.Content.{Content, window_bytes}
use Rattle.pico_board.specs.Sessions.{SameButWindow}
use Rattle.pico_board.proofs.ConfinementLemmas.{window_bytes-apart}
use Rattle.block_codec.specs.Blocks.{BlockView}
use Rattle.load_map.specs.declared.load.Load.{Load}
use Rattle.image_def.specs.declared.started.Started.{Started}
use Rattle.image_check.specs.SameImage.{AgreeOnBlocks, AgreeOnLoad, AgreeOnLoads, AgreeOnStorage, HoldsImage}
use Rattle.boot_rules.specs.declared.decision.Decision.{Decision}
use Rattle.boot_rules.specs.declared.decision.Decision.TheVariants.{Start, Bootsel}
use Rattle.boot_rules.specs.Chosen.{Chosen}
use Rattle.boot_sweep.specs.declared.results.Verdict.{Verdict}
use Rattle.boot_sweep.specs.declared.results.Verdict.TheVariants.{Before, After, Other}
use Rattle.boot_sweep.specs.declared.slots.Slot.{Slot}
use Rattle.boot_sweep.specs.Comparing.{is_same_decision, is_same_image}
use Rattle.boot_sweep.specs.Verdicts.{LiesIn, verdict_by}
use Rattle.boot_sweep.proofs.ResultLemmas.{decision-same, is-same, same-decision, start-holds}
use Rattle.boot_cuts.specs.declared.answers.Answer.{Answer}
use Rattle.cut_class.specs.declared.class.Class.{Class}
use Rattle.cut_class.specs.declared.class.Class.TheVariants.{Former, Finished}
use Rattle.boot_sweep.specs.declared.moves.Move.{Move}
use Rattle.boot_cuts.specs.Beside.{IsMoveBeside, StartsApart}
use Rattle.boot_cuts.specs.Classing.{class_by, has_image_of, is_as_on, is_mended, other_class}
use Rattle.pico_board.specs.MemBoard.{state_of}
use Rattle.boot_rules.specs.Choosing.{decision_in}
use Rattle.boot_cuts.specs.declared.judging.Ends.{Ends}
use Rattle.boot_cuts.specs.Judging.{AreEnds, judge}
use Rattle.boot_tape.specs.Moving.{MoveView, Done, Torn, done_steps, moves_from}

load-self : (one : List ℕ) (o : Option ℕ) (n : ℕ) → AgreeOnLoad one one o n
load-self one None n = tt
load-self one (Some start) n = λ i low high. refl

loads-self : (one : List ℕ) (loads : List Load) → AgreeOnLoads one one loads
loads-self one [] = tt
loads-self one (l ∷ loads) = (load-self one l.storage l.size, loads-self one loads)

storage-self : (one : List ℕ) (o : Option ℕ) (loads : List Load) → AgreeOnStorage one one o loads
storage-self one None loads = λ i low high. refl
storage-self one (Some item) loads = loads-self one loads

blocks-self : (one : List ℕ) (blocks : List BlockView) → AgreeOnBlocks one one blocks
blocks-self one [] = tt
blocks-self one (b ∷ blocks) = (λ i low high. refl, blocks-self one blocks)

-- a window has the bytes of its own image
same-self : (cpu : Cpu) (one : List ℕ) (s : Started) → HoldsImage cpu one s → is_same_image cpu one one ≡ true
same-self cpu one s held =
    is-same cpu one one s (record {
      held = held;
      long = refl;
      blocks = blocks-self one held.sound.loop;
      storage = storage-self one held.image.def.map_item held.sound.loads;
    })

-- an image apart from the window in which d differs has its bytes in d
pub has-apart : (c d : Content) (w : Window) (cpu : Cpu) (e : Decision) → Chosen c cpu Normal e
    → SameButWindow w c d → StartsApart w e → has_image_of cpu c d e ≡ true
has-apart c d w cpu (Start choice) chosen same apart =
    let v = choice.image.window in
    subst (λ xs. is_same_image cpu (window_bytes c v) xs ≡ true)
    (sym (window_bytes-apart c d w v same.outside apart))
    (same-self cpu (window_bytes c v) choice.image (start-holds c cpu choice chosen))
has-apart c d w cpu (Bootsel fall) chosen same apart = refl

pub former-is : (former finished : Decision) (cpu : Cpu) (c z : Content) (torn : List Step) (d : Content) (e : Decision)
    → e ≡ former → has_image_of cpu c d former ≡ true → Former ≡ class_by former finished cpu c z torn d e
former-is former finished cpu c z torn d e same has =
    sym (ap (λ b. if b then Former
    else if is_mended torn finished && is_as_on finished cpu z d e then Finished
    else other_class cpu c z torn d e) (and_from _ _ (decision-same e former same) has))

-- which decision it is
abbrev verdict_of : Bool → Bool → Verdict
verdict_of x y = if x then Before else if y then After else Other

before-is : (x y : Bool) → Before ≡ verdict_of x y → x ≡ true
before-is true y e = refl
before-is false true e = cc
before-is false false e = cc

after-is : (x y : Bool) → After ≡ verdict_of x y → y ≡ true
after-is true y e = cc
after-is false true e = refl
after-is false false e = cc

pub decides-before : (former finished e : Decision) → Before ≡ verdict_by former finished e → e ≡ former
decides-before former finished e is =
    same-decision e former (before-is (is_same_decision e former) (is_same_decision e finished) is)

pub decides-after : (former finished e : Decision) → After ≡ verdict_by former finished e → e ≡ finished
decides-after former finished e is =
    same-decision e finished (after-is (is_same_decision e former) (is_same_decision e finished) is)

-- the moves lie in the slot
few-steps : (moves : List MoveView) → length (done_steps moves) ≤ length moves
few-steps [] = omega arith
few-steps (Done step ∷ moves) = let rest = few-steps moves in omega (arith, rest)
few-steps (Torn step within pattern ∷ moves) = let rest = few-steps moves in omega (arith, rest)

pub all-beside : (slot : Option Slot) (moves : List MoveView) → length (done_steps moves) ≡ length moves
    → AllByRecursion (LiesIn slot) (done_steps moves) → AllByRecursion (IsMoveBeside slot) moves
all-beside slot [] long all = tt
all-beside slot (Done step ∷ moves) long all = (all.0, all-beside slot moves (omega (arith, long)) all.1)
all-beside slot (Torn step within pattern ∷ moves) long all =
    let few = few-steps moves in absurd (omega (arith, long, few))

pub none-beside : (moves : List MoveView) → AllByRecursion (IsMoveBeside None) moves
none-beside [] = tt
none-beside (Done step ∷ moves) = (tt, none-beside moves)
none-beside (Torn step within pattern ∷ moves) = (tt, none-beside moves)

pub length-moves : (moves : List Move) → length (moves_from moves) ≡ length moves
length-moves [] = refl
length-moves (x ∷ moves) = let rest = length-moves moves in omega (arith, rest)

pub answer-parts : (k l : Class) (d e : Decision) → k ≡ l → d ≡ e
    → (let a : Answer = record { class = k; decision = d } in
    let b : Answer = record { class = l; decision = e } in a ≡ b)
answer-parts k l d e one two = cc

-- the class by the decisions that are known
pub judge-by : (ends : Ends) (n : ℕ) (d : Content) → AreEnds ends n
    → class_by ends.ends.former ends.ends.finished ends.ends.cpu (state_of ends.start.now).content
    (state_of ends.ends.board.now).content ends.torn.now d (decision_in d ends.ends.cpu Normal) ≡ (judge ends d).class
judge-by ends n d is =
    let c = (state_of ends.start.now).content in
    let z = (state_of ends.ends.board.now).content in
    let cpu = ends.ends.cpu in
    let torn = ends.torn.now in
    ap (λ f. class_by f ends.ends.finished cpu c z torn d (decision_in d cpu Normal)) is.former
    ∙ ap (λ f. class_by (decision_in c cpu Normal) f cpu c z torn d (decision_in d cpu Normal)) is.finished
