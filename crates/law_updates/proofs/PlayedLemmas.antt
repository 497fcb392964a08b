-- The boots and the buys of a script, by its play: each is made on the content of a board, and does the first of its
-- steps.
use Rattle.std.proofs.Common.{◌≡◌, ℕ, zero, suc, ◌<◌, ◌==◌, All, Bool, true, false, List, [], ◌∷◌, ◌++◌, drop, length, take, Option, Some, None, refl, sym, ap, ◌∙◌, subst, append-nil}
use Rattle.std.specs.Prelude.{⊤, Contains, if◌then◌else◌}
use Rattle.std.specs.List.{AllByRecursion}
use Rattle.std.proofs.Math.Seq.{drop-append_seam}
use Rattle.std.proofs.lemmas.List.Elements.{All-contains, All-from_recursion}
use Rattle.pico_board.specs.declared.Step.{Step}
use Rattle.pico_board.specs.declared.boot.Cpu.{Cpu}
use Rattle.pico_board.specs.Content.{Content, IsContent}
use Rattle.pico_board.specs.Cuts.{Cut, CutOutcome, cut_by, cut_with, nearer}
use Rattle.pico_board.specs.Steps.{after, after_all}
use Rattle.pico_board.proofs.ContentLemmas.{IsContent-after, IsContent-cut_by, length-after, length-cut_by}
use Rattle.boot_script.specs.Events.{EventView}
use Rattle.text_lines.specs.declared.outcome.EventOutcome.{EventOutcome}
use Rattle.boot_machine.specs.Boots.{booted}
use Rattle.boot_machine.specs.Machines.{MachineView, StateView, Off, InBootsel, Running, FromFlash, FromRam}
use Rattle.boot_machine.specs.Moves.{Plays, armed_for, buy_effect, effect}
use Rattle.boot_machine.specs.Plays.{HasPatternBytes, IsOfBytes, IsTelling, moved_machine, powerless, told_cut}
use Rattle.boot_machine.proofs.TornLemmas.{moved-moves}
use Rattle.boot_tape.specs.declared.notes.Behind.{Behind}
use Rattle.boot_tape.specs.declared.notes.Behind.TheVariants as behinds
use Rattle.boot_tape.specs.declared.trace.Trace.{Trace}
use Rattle.boot_tape.specs.CutMoves.{CutMoves, cut_moves, move_first}
use Rattle.boot_tape.specs.Moving.{IsMoveIn, MoveView, Done, Torn, after_moves, done_steps}
use Rattle.boot_tape.specs.Playing.{IsTraceOf, flash_long}
use Rattle.boot_tape.specs.Traces.{behind, event_moves, moves_in, own_moves, own_steps}
use Rattle.boot_tape.proofs.NoteLemmas.{Begins, boot-behind, own-moves}
use Rattle.boot_tape.proofs.TraceLemmas.{cut-steps, prefix-lost, whole-is}
use Rattle.law_updates.specs.Played.{IsOnBoard}
use Rattle.check_laws.specs.OwnLaws.{BootMade, BuyMade, boot_by, boots_in, buy_by, buys_in, content_behind, steps_behind}

-- lists
all-both : {X : Type 0} (P : X → Type 0) (xs ys : List X) → AllByRecursion P xs → AllByRecursion P ys
    → AllByRecursion P (xs ++ ys)
all-both P [] ys one two = two
all-both P (x ∷ xs) ys one two = (one.0, all-both P xs ys one.1 two)

all-parts : {X : Type 0} (P : X → Type 0) (xs ys : List X) → AllByRecursion P (xs ++ ys)
    → AllByRecursion P xs × AllByRecursion P ys
all-parts P [] ys all = (tt, all)
all-parts P (x ∷ xs) ys all = let rest = all-parts P xs ys all.1 in ((all.0, rest.0), rest.1)

all-taken : {X : Type 0} (P : X → Type 0) (n : ℕ) (xs : List X) → AllByRecursion P xs → AllByRecursion P (take n xs)
all-taken P zero xs all = tt
all-taken P (suc n) [] all = tt
all-taken P (suc n) (x ∷ xs) all = (all.0, all-taken P n xs all.1)

all-map : {X : Type 0} (P Q : X → Type 0) (xs : List X) → ((x : X) → P x → Q x) → AllByRecursion P xs
    → AllByRecursion Q xs
all-map P Q [] f all = tt
all-map P Q (x ∷ xs) f all = (f x all.0, all-map P Q xs f all.1)

drop-self : {X : Type 0} (xs : List X) → drop (length xs) xs ≡ []
drop-self xs = ap (λ ys. drop (length xs) ys) (sym (append-nil xs)) ∙ drop-append_seam xs []

-- the pattern of a move that is cut is of bytes
abbrev HasBytes : MoveView → Type 0
HasBytes (Done step) = ⊤
HasBytes (Torn step within pattern) = All (λ b. b < 256) pattern

-- moves that lie in the flash leave the content of a board, of the same size
moves-content : (c : Content) (moves : List MoveView) → IsContent c → AllByRecursion (IsMoveIn (length c.flash)) moves
    → AllByRecursion HasBytes moves → IsContent (after_moves c moves)
moves-content c [] right inside bytes = right
moves-content c (Done step ∷ moves) right inside bytes =
    moves-content (after c step) moves (IsContent-after c step right inside.0)
    (subst (λ n. AllByRecursion (IsMoveIn n) moves) (sym (length-after c step)) inside.1) bytes.1
moves-content c (Torn step within pattern ∷ moves) right inside bytes =
    let cut : Cut = cut_with 0 within pattern in
    moves-content (cut_by cut c step) moves (IsContent-cut_by cut c step bytes.0 right inside.0.0)
    (subst (λ n. AllByRecursion (IsMoveIn n) moves) (sym (length-cut_by cut c step)) inside.1) bytes.1

moves-long : (c : Content) (moves : List MoveView) → length (after_moves c moves).flash ≡ length c.flash
moves-long c [] = refl
moves-long c (Done step ∷ moves) = moves-long (after c step) moves ∙ length-after c step
moves-long c (Torn step within pattern ∷ moves) =
    let cut : Cut = cut_with 0 within pattern in
    moves-long (cut_by cut c step) moves ∙ length-cut_by cut c step

-- the moves of an armed cut of bytes
cut-bytes : (steps : List Step) (cut : Option Cut) → HasPatternBytes cut
    → AllByRecursion HasBytes (cut_moves cut steps).moves
cut-bytes [] cut of = tt
cut-bytes (step ∷ steps) None of = (tt, cut-bytes steps None of)
cut-bytes (step ∷ steps) (Some cut) of = go (cut.left == 0) (cut-bytes steps (Some (nearer cut)) of)
  where
    go : (b : Bool) → AllByRecursion HasBytes (cut_moves (Some (nearer cut)) steps).moves
        → AllByRecursion HasBytes (if b then record { moves = Torn step cut.within cut.pattern ∷ []; whole = false; armed = None }
        else move_first (Done step) (cut_moves (Some (nearer cut)) steps)).moves
    go true rest = (of, tt)
    go false rest = (tt, rest)

-- what completes of steps comes first of them
done-first : (steps : List Step) (cut : Option Cut) → Begins (done_steps (cut_moves cut steps).moves) steps
done-first [] cut = ([], refl)
done-first (step ∷ steps) None =
    let more = done-first steps None in (more.0, ap (λ xs. step ∷ xs) more.1)
done-first (step ∷ steps) (Some cut) = go (cut.left == 0) (done-first steps (Some (nearer cut)))
  where
    go : (b : Bool) → Begins (done_steps (cut_moves (Some (nearer cut)) steps).moves) steps
        → Begins (done_steps (if b then record { moves = Torn step cut.within cut.pattern ∷ []; whole = false; armed = None }
        else move_first (Done step) (cut_moves (Some (nearer cut)) steps)).moves) (step ∷ steps)
    go true more = (step ∷ steps, refl)
    go false more = (more.0, ap (λ xs. step ∷ xs) more.1)

-- where the first steps complete, the others come behind them
whole-then : (xs ys : List Step) (cut : Option Cut) → (cut_moves cut xs).whole ≡ true
    → (cut_moves cut (xs ++ ys)).moves ≡ (cut_moves cut xs).moves ++ (cut_moves (cut_moves cut xs).armed ys).moves
whole-then [] ys cut whole = refl
whole-then (x ∷ xs) ys None whole = ap (λ ms. Done x ∷ ms) (whole-then xs ys None whole)
whole-then (x ∷ xs) ys (Some cut) whole =
    go (cut.left == 0) whole (λ h. whole-then xs ys (Some (nearer cut)) h)
  where
    by : Bool → List Step → CutMoves
    by b steps =
        if b then record { moves = Torn x cut.within cut.pattern ∷ []; whole = false; armed = None }
        else move_first (Done x) (cut_moves (Some (nearer cut)) steps)

    go : (b : Bool) → (by b xs).whole ≡ true
        → ((cut_moves (Some (nearer cut)) xs).whole ≡ true → (cut_moves (Some (nearer cut)) (xs ++ ys)).moves
        ≡ (cut_moves (Some (nearer cut)) xs).moves ++ (cut_moves (cut_moves (Some (nearer cut)) xs).armed ys).moves)
        → (by b (xs ++ ys)).moves ≡ (by b xs).moves ++ (cut_moves (by b xs).armed ys).moves
    go true whole more = cc
    go false whole more = ap (λ ms. Done x ∷ ms) (more whole)

-- what completes behind some steps comes first of what is made on what they leave; where they do not complete, nothing
-- does
behind-first : (c : Content) (own : List Step) (makes : Content → List Step) (cut : Option Cut)
    → Begins (done_steps (drop (length (cut_moves cut own).moves) (cut_moves cut (own ++ makes (after_all c own))).moves))
    (makes (after_moves c (cut_moves cut own).moves))
behind-first c own makes cut = go (cut_moves cut own).whole refl
  where
    mine : List MoveView
    mine = (cut_moves cut own).moves

    more : List Step
    more = makes (after_all c own)

    later : List MoveView
    later = (cut_moves (cut_moves cut own).armed more).moves

    go : (b : Bool) → (cut_moves cut own).whole ≡ b
        → Begins (done_steps (drop (length mine) (cut_moves cut (own ++ more)).moves)) (makes (after_moves c mine))
    go true whole =
        subst (λ xs. Begins (done_steps (drop (length mine) xs)) (makes (after_moves c mine)))
        (sym (whole-then own more cut whole))
        (subst (λ xs. Begins (done_steps xs) (makes (after_moves c mine))) (sym (drop-append_seam mine later))
        (subst (λ x. Begins (done_steps later) (makes x)) (sym (whole-is own cut c whole).content)
        (done-first more (cut_moves cut own).armed)))
    go false lost =
        subst (λ (w : CutMoves). Begins (done_steps (drop (length mine) w.moves)) (makes (after_moves c mine)))
        (sym (prefix-lost own more cut lost))
        (subst (λ xs. Begins (done_steps xs) (makes (after_moves c mine))) (sym (drop-self mine))
        (makes (after_moves c mine), refl))

-- a machine on its way: its board tells its armed cut, and has the content of a board with a flash of n bytes
pub record IsPlaying (n : ℕ) (cpu : Cpu) (m : MachineView) : Type 0 where
  pub telling : IsTelling m
  pub content : IsContent m.content
  pub long : length m.content.flash ≡ n
  pub cpu_is : m.cpu ≡ cpu

told-bytes : (cut : Option Cut) (event : EventView) → HasPatternBytes cut → IsOfBytes event
    → HasPatternBytes (told_cut (armed_for (Some cut) event))
told-bytes cut (EventView.Cut left within pattern) of bytes = bytes
told-bytes cut EventView.End of bytes = of
told-bytes cut (EventView.Command command payload) of bytes = of
told-bytes cut (EventView.Uf2 block) of bytes = of
told-bytes cut EventView.PowerOn of bytes = of
told-bytes cut (EventView.Reset kind) of bytes = of
told-bytes cut EventView.Buy of bytes = of

module _ (n : ℕ) (cpu : Cpu) (m : MachineView) (event : EventView) (playing : IsPlaying n cpu m) (bytes : IsOfBytes event)
    (inside : AllByRecursion (IsMoveIn n) (event_moves m event)) where
  patterns : AllByRecursion HasBytes (event_moves m event)
  patterns =
      cut-bytes (effect m event).steps (told_cut (armed_for m.armed event))
      (subst (λ a. HasPatternBytes (told_cut (armed_for a event))) (sym playing.telling.told)
      (told-bytes playing.telling.cut event playing.telling.pattern bytes))

  -- of the moves of the event so many leave a content
  some-content : (moves : List MoveView) → AllByRecursion (IsMoveIn n) moves → AllByRecursion HasBytes moves
      → IsContent (after_moves m.content moves)
  some-content moves all of =
      moves-content m.content moves playing.content
      (subst (λ k. AllByRecursion (IsMoveIn k) moves) (sym playing.long) all) of

  behind-content : IsContent (content_behind m event)
  behind-content =
      let k = length (own_moves m event) in
      subst (λ ms. IsContent (after_moves m.content ms)) (own-moves m event)
      (some-content (take k (event_moves m event)) (all-taken (IsMoveIn n) k (event_moves m event) inside)
      (all-taken HasBytes k (event_moves m event) patterns))

  next-content : (moved_machine m event).next.content ≡ after_moves m.content (event_moves m event)
  unfolding moved_machine
  next-content =
      ap (λ (o : CutOutcome). o.content) (cut-steps (effect m event).steps (told_cut (armed_for m.armed event)) m.content)

  next-cpu : (moved_machine m event).next.cpu ≡ m.cpu
  unfolding moved_machine
  next-cpu = refl

  next-playing : IsPlaying n cpu (moved_machine m event).next
  next-playing = record {
    telling = (moved-moves m event playing.telling bytes).telling;
    content = subst IsContent (sym next-content) (some-content (event_moves m event) inside patterns);
    long = ap (λ (x : Content). length x.flash) next-content ∙ (moves-long m.content (event_moves m event) ∙ playing.long);
    cpu_is = next-cpu ∙ playing.cpu_is;
  }

-- a boot of a play: it is made on the content of a board, and does the first steps of what it comes to
pub record IsBootOf (cpu : Cpu) (b : BootMade) : Type 0 where
  pub content : IsContent b.before
  pub begins : Begins b.done (booted b.before cpu b.kind None).steps

boot-here : (n : ℕ) (cpu : Cpu) (m : MachineView) (event : EventView) → IsPlaying n cpu m → IsOfBytes event
    → AllByRecursion (IsMoveIn n) (event_moves m event) → (by : Behind) → behind m event ≡ by
    → AllByRecursion (IsBootOf cpu) (boot_by by (content_behind m event) (steps_behind m event))
boot-here n cpu m event playing bytes inside behinds.Nothing is = tt
boot-here n cpu m event playing bytes inside (behinds.Buy image) is = tt
boot-here n cpu m event playing bytes inside (behinds.Boot kind) is = (
  record {
    content = behind-content n cpu m event playing bytes inside;
    begins =
        (let makes : Content → List Step = λ x. (booted x m.cpu kind None).steps in
        let cut = told_cut (armed_for m.armed event) in
        subst (λ p. Begins (steps_behind m event) (booted (content_behind m event) p kind None).steps) playing.cpu_is
        (subst (λ xs. Begins (done_steps (drop (length (own_moves m event)) (cut_moves cut xs).moves))
        (makes (content_behind m event))) (sym (boot-behind m event kind is))
        (behind-first m.content (own_steps m event) makes cut)));
  },
  tt,
)

boots-all : (n : ℕ) (cpu : Cpu) (m : MachineView) (events : List EventView) → IsPlaying n cpu m
    → AllByRecursion IsOfBytes events → AllByRecursion (IsMoveIn n) (moves_in m events)
    → AllByRecursion (IsBootOf cpu) (boots_in m events)
boots-all n cpu m [] playing bytes inside = tt
boots-all n cpu m (event ∷ events) playing bytes inside =
    let next = (moved_machine m event).next in
    let parts = all-parts (IsMoveIn n) (event_moves m event) (moves_in next events) inside in
    all-both (IsBootOf cpu) (boot_by (behind m event) (content_behind m event) (steps_behind m event))
    (boots_in next events)
    (boot-here n cpu m event playing bytes.0 parts.0 (behind m event) refl)
    (boots-all n cpu next events (next-playing n cpu m event playing bytes.0 parts.0) bytes.1 parts.1)

-- a buy of a play from m on: the image runs then, it is made on the content of a board, and does the first steps of
-- what it comes to
pub record IsBuyOf (cpu : Cpu) (m : MachineView) (b : BuyMade) : Type 0 where
  pub machine : MachineView
  pub events : List EventView
  pub outcomes : List EventOutcome
  pub plays : Plays m events machine outcomes
  pub runs : machine.place ≡ Running (FromFlash b.choice)
  pub cpu_is : machine.cpu ≡ cpu
  pub before : b.before ≡ machine.content
  pub content : IsContent b.before
  pub begins : Begins b.done (buy_effect machine.content machine.cpu (FromFlash b.choice)).steps

buy-here : (n : ℕ) (cpu : Cpu) (c : Content) (armed : Option (Option Cut)) (own : Cpu) (place : StateView)
    (event : EventView) → (let m : MachineView = record { content = c; armed = armed; cpu = own; place = place } in
    IsPlaying n cpu m → AllByRecursion (IsBuyOf cpu m) (buy_by place event (content_behind m event) (steps_behind m event)))
buy-here n cpu c armed own Off event playing = tt
buy-here n cpu c armed own (InBootsel host) event playing = tt
buy-here n cpu c armed own (Running (FromRam image)) event playing = tt
buy-here n cpu c armed own (Running (FromFlash choice)) EventView.Buy playing = (
  record {
    machine = record { content = c; armed = armed; cpu = own; place = Running (FromFlash choice) };
    events = [];
    outcomes = [];
    plays = (refl, refl);
    runs = refl;
    cpu_is = playing.cpu_is;
    before = refl;
    content = playing.content;
    begins = done-first (buy_effect c own (FromFlash choice)).steps (told_cut armed);
  },
  tt,
)
buy-here n cpu c armed own (Running (FromFlash choice)) EventView.End playing = tt
buy-here n cpu c armed own (Running (FromFlash choice)) EventView.PowerOn playing = tt
buy-here n cpu c armed own (Running (FromFlash choice)) (EventView.Command command payload) playing = tt
buy-here n cpu c armed own (Running (FromFlash choice)) (EventView.Uf2 block) playing = tt
buy-here n cpu c armed own (Running (FromFlash choice)) (EventView.Cut left within pattern) playing = tt
buy-here n cpu c armed own (Running (FromFlash choice)) (EventView.Reset kind) playing = tt

buy-later : (cpu : Cpu) (m : MachineView) (event : EventView) → IsTelling m → IsOfBytes event → (b : BuyMade)
    → IsBuyOf cpu (moved_machine m event).next b → IsBuyOf cpu m b
buy-later cpu m event telling bytes b is = record {
  machine = is.machine;
  events = event ∷ is.events;
  outcomes = (moved_machine m event).outcome ∷ is.outcomes;
  plays = (
    (moved_machine m event).next,
    (moved_machine m event).outcome,
    is.outcomes,
    (moved-moves m event telling bytes).moves,
    is.plays,
    refl,
  );
  runs = is.runs;
  cpu_is = is.cpu_is;
  before = is.before;
  content = is.content;
  begins = is.begins;
}

buys-all : (n : ℕ) (cpu : Cpu) (m : MachineView) (events : List EventView) → IsPlaying n cpu m
    → AllByRecursion IsOfBytes events → AllByRecursion (IsMoveIn n) (moves_in m events)
    → AllByRecursion (IsBuyOf cpu m) (buys_in m events)
buys-all n cpu m [] playing bytes inside = tt
buys-all n cpu m (event ∷ events) playing bytes inside =
    let next = (moved_machine m event).next in
    let parts = all-parts (IsMoveIn n) (event_moves m event) (moves_in next events) inside in
    all-both (IsBuyOf cpu m) (buy_by m.place event (content_behind m event) (steps_behind m event)) (buys_in next events)
    (buy-here n cpu m.content m.armed m.cpu m.place event playing)
    (all-map (IsBuyOf cpu next) (IsBuyOf cpu m) (buys_in next events)
    (λ b. buy-later cpu m event playing.telling bytes.0 b)
    (buys-all n cpu next events (next-playing n cpu m event playing bytes.0 parts.0) bytes.1 parts.1))

-- a script whose trace is told is played on a board
pub traced-on : (c : Content) (cpu : Cpu) (events : List EventView) (found : Trace) → IsContent c
    → AllByRecursion IsOfBytes events → IsTraceOf c cpu events found → IsOnBoard c cpu events
traced-on c cpu events found right bytes is = record {
  content = right;
  bytes = bytes;
  inside = subst (λ n. AllByRecursion (IsMoveIn n) (moves_in (powerless c cpu) events)) is.size
      (subst (λ ms. AllByRecursion (IsMoveIn (flash_long found)) ms) is.moves is.ready.inside);
}

module _ (c : Content) (cpu : Cpu) (events : List EventView) (on : IsOnBoard c cpu events) where
  begins-so : IsPlaying (length c.flash) cpu (powerless c cpu)
  begins-so = record {
    telling = record { cut = None; told = refl; pattern = tt; flash = on.content.flash_bytes };
    content = on.content;
    long = refl;
    cpu_is = refl;
  }

  pub boot-of : (b : BootMade) → Contains (boots_in (powerless c cpu) events) b → IsBootOf cpu b
  boot-of b among =
      All-contains (IsBootOf cpu) (boots_in (powerless c cpu) events) b
      (All-from_recursion (IsBootOf cpu) (boots_in (powerless c cpu) events)
      (boots-all (length c.flash) cpu (powerless c cpu) events begins-so on.bytes on.inside)) among

  pub buy-of : (b : BuyMade) → Contains (buys_in (powerless c cpu) events) b → IsBuyOf cpu (powerless c cpu) b
  buy-of b among =
      All-contains (IsBuyOf cpu (powerless c cpu)) (buys_in (powerless c cpu) events) b
      (All-from_recursion (IsBuyOf cpu (powerless c cpu)) (buys_in (powerless c cpu) events)
      (buys-all (length c.flash) cpu (powerless c cpu) events begins-so on.bytes on.inside)) among
