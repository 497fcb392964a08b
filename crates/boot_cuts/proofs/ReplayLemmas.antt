-- A cut is a replay: a script that arms it before its event leaves its content, and power that comes back boots it.
use Rattle.std.proofs.Common.{◌≡◌, ℕ, zero, suc, ◌+◌, ◌-◌, ◌*◌, Bool, true, false, List, [], ◌∷◌, ◌++◌, length, take, Option, Some, None, refl, sym, ap, ◌∙◌, subst, arith, append_assoc}
use Rattle.std.specs.Prelude.{◌==◌, if◌then◌else◌, slice_get, option_map}
use Rattle.std.proofs.lemmas.Bool.Decides.{nat_tests}
use Rattle.pico_board.specs.declared.Step.{Step}
use Rattle.pico_board.specs.declared.boot.Cpu.{Cpu}
use Rattle.pico_board.specs.declared.boot.BootKind.TheVariants.{Normal}
use Rattle.pico_board.specs.Content.{Content}
use Rattle.pico_board.specs.Cuts.{Cut, CutOutcome, cut_by, cut_steps, cut_with}
use Rattle.pico_board.specs.Steps.{after, after_all}
use Rattle.boot_rules.specs.Choosing.{decision_in}
use Rattle.boot_script.specs.Events.{EventView}
use Rattle.text_lines.specs.declared.outcome.EventOutcome.TheVariants as event_outcomes
use Rattle.boot_machine.specs.Machines.{MachineView, Off}
use Rattle.boot_machine.specs.Moves.{armed_for, effect, reset}
use Rattle.boot_machine.specs.Plays.{Moved, Played, moved_as, moved_machine, played, powerless, told_cut}
use Rattle.boot_machine.proofs.PlayLemmas.{moved-as, moved-told}
use Rattle.boot_cuts.specs.Contents.{cut_content, cut_contents}
use Rattle.boot_tape.specs.Moving.{Done, Torn, after_moves}
use Rattle.boot_tape.specs.Playing.{CutMoves, cut_in, cut_moves, move_first}
use Rattle.boot_cuts.specs.Replaying.{replay_of}
use Rattle.boot_tape.specs.Traces.{Traced, completed, event_steps, traced, traced_from}
use Rattle.boot_tape.proofs.PlayLemmas.{moved-by}

-- a list of events behind others
pub played-append : (m : MachineView) (xs ys : List EventView)
    → played m (xs ++ ys) ≡ (record {
      last = (played (played m xs).last ys).last;
      outcomes = (played m xs).outcomes ++ (played (played m xs).last ys).outcomes;
    })
played-append m [] ys = refl
played-append m (x ∷ xs) ys =
    ap (λ (p : Played). record { last = p.last; outcomes = (moved_machine m x).outcome ∷ p.outcomes })
    (played-append (moved_machine m x).next xs ys)

-- a machine with another cut armed
abbrev armed_with : MachineView → Option Cut → MachineView
armed_with m cut = record { content = m.content; armed = Some cut; cpu = m.cpu; place = m.place }

effect-armed : (m : MachineView) (cut : Option Cut) (event : EventView) → effect (armed_with m cut) event ≡ effect m event
effect-armed m cut EventView.End = refl
effect-armed m cut (EventView.Command command payload) = refl
effect-armed m cut (EventView.Uf2 block) = refl
effect-armed m cut (EventView.Cut left within pattern) = refl
effect-armed m cut EventView.PowerOn = refl
effect-armed m cut (EventView.Reset kind) = refl
effect-armed m cut EventView.Buy = refl

-- a Cut event takes the place of a former cut
arms : (m : MachineView) (former : Option Cut) (n : ℕ) (within : Bool) (pattern : List ℕ) → m.armed ≡ Some former
    → moved_machine m (EventView.Cut n within pattern)
    ≡ (record { next = armed_with m (Some (cut_with n within pattern)); outcome = event_outcomes.CutArmed })
arms m former n within pattern told =
    moved-as m (EventView.Cut n within pattern) (Some (cut_with n within pattern))
    (ap (option_map (λ x. Some (cut_with n within pattern))) told)

-- the steps up to the one that is cut
pub record IsCutThere (c d : Content) (w : CutMoves) : Type 0 where
  pub lost : w.whole ≡ false
  pub none : w.armed ≡ None
  pub left : after_moves c w.moves ≡ d

cut-there : (steps : List Step) (c : Content) (k : ℕ) (within : Bool) (pattern : List ℕ) (t : Traced)
    → slice_get (traced_from c steps) k ≡ Some t
    → IsCutThere c (cut_by (cut_with 0 within pattern) t.before t.step)
    (cut_moves (Some (cut_with k within pattern)) steps)
cut-there [] c zero within pattern t at = cc
cut-there [] c (suc k) within pattern t at = cc
cut-there (step ∷ steps) c zero within pattern t at =
    let same : (let here : Traced = record { before = c; step = step } in here ≡ t) = cc in record {
      lost = refl;
      none = refl;
      left = ap (λ (x : Traced). cut_by (cut_with 0 within pattern) x.before x.step) same;
    }
cut-there (step ∷ steps) c (suc k) within pattern t at =
    let d = cut_by (cut_with 0 within pattern) t.before t.step in
    let rest = cut-there steps (after c step) k within pattern t at in
    let some : (suc k == 0) ≡ false = grind (arith, nat_tests) in
    let less : suc k - 1 ≡ k = omega arith in
    let more : IsCutThere c d (move_first (Done step) (cut_moves (Some (cut_with (suc k - 1) within pattern)) steps)) =
    subst (λ n. IsCutThere c d (move_first (Done step) (cut_moves (Some (cut_with n within pattern)) steps))) (sym less)
    (record { lost = rest.lost; none = rest.none; left = rest.left }) in
    subst (λ (b : Bool). IsCutThere c d (if b then record {
      moves = Torn step within pattern ∷ [];
      whole = false;
      armed = None;
    }
    else move_first (Done step) (cut_moves (Some (cut_with (suc k - 1) within pattern)) steps))) (sym some) more

-- a step that completes is one of the event's
at-take : (n : ℕ) (steps : List Step) (c : Content) (k : ℕ) (t : Traced)
    → slice_get (traced_from c (take n steps)) k ≡ Some t → slice_get (traced_from c steps) k ≡ Some t
at-take zero steps c zero t at = cc
at-take zero steps c (suc k) t at = cc
at-take (suc n) [] c k t at = at
at-take (suc n) (step ∷ steps) c zero t at = at
at-take (suc n) (step ∷ steps) c (suc k) t at = at-take n steps (after c step) k t at

at-completed : (cut : Option Cut) (steps : List Step) (c : Content) (k : ℕ) (t : Traced)
    → slice_get (traced_from c (completed cut steps)) k ≡ Some t → slice_get (traced_from c steps) k ≡ Some t
at-completed None steps c k t at = at
at-completed (Some cut) steps c k t at = at-take cut.left steps c k t at

-- power that comes back on a content, where no cut is armed, boots it
abbrev pub off_with : Content → Cpu → MachineView
off_with d cpu = record { content = d; armed = Some None; cpu = cpu; place = Off }

told-none : (steps : List Step) (c : Content)
    → cut_steps steps None c ≡ (record { answer = true; content = after_all c steps; armed = None })
told-none [] c = refl
told-none (step ∷ steps) c = told-none steps (after c step)

pub boots : (d : Content) (cpu : Cpu)
    → (moved_machine (off_with d cpu) EventView.PowerOn).outcome
    ≡ event_outcomes.Booted (decision_in d cpu Normal)
boots d cpu =
    let e = reset d cpu Normal in
    ap (λ (x : Moved). x.outcome) (moved-as (off_with d cpu) EventView.PowerOn None refl)
    ∙ ap (λ (o : CutOutcome). (moved_as (off_with d cpu) e o).outcome) (told-none e.steps d)

-- the event in which power is lost, and power that comes back
pub replayed : (m : MachineView) (former : Option Cut) (event : EventView) (k : ℕ) (within : Bool) (pattern : List ℕ)
    (t : Traced) → m.armed ≡ Some former → cut_in event ≡ None
    → slice_get (traced_from m.content (event_steps m event)) k ≡ Some t
    → (played m (EventView.Cut k within pattern ∷ event ∷ EventView.PowerOn ∷ [])).outcomes
    ≡ (event_outcomes.CutArmed ∷ event_outcomes.PowerLost
    ∷ event_outcomes.Booted (decision_in (cut_by (cut_with 0 within pattern) t.before t.step) m.cpu Normal) ∷ [])
replayed m former event k within pattern t told uncut at =
    let cut = cut_with k within pattern in
    let d = cut_by (cut_with 0 within pattern) t.before t.step in
    let m1 = armed_with m (Some cut) in
    let e = effect m event in
    let there = cut-there e.steps m.content k within pattern t
    (at-completed (told_cut (armed_for m.armed event)) e.steps m.content k t at) in
    let w = cut_moves (Some cut) e.steps in
    let by : moved_machine m1 event
    ≡ moved_as m1 e (record { answer = w.whole; content = after_moves m.content w.moves; armed = w.armed }) =
    moved-by m1 (Some cut) event refl uncut
    ∙ ap (λ x. moved_as m1 x (record {
      answer = (cut_moves (Some cut) x.steps).whole;
      content = after_moves m.content (cut_moves (Some cut) x.steps).moves;
      armed = (cut_moves (Some cut) x.steps).armed;
    })) (effect-armed m (Some cut) event) in
    let lost : moved_machine m1 event ≡ (record { next = off_with d m.cpu; outcome = event_outcomes.PowerLost }) =
    by
    ∙ (ap (λ b. moved_as m1 e (record { answer = b; content = after_moves m.content w.moves; armed = w.armed })) there.lost
    ∙ (ap (λ x. moved_as m1 e (record { answer = false; content = x; armed = w.armed })) there.left
    ∙ ap (λ x. moved_as m1 e (record { answer = false; content = d; armed = x })) there.none)) in
    ap (λ (x : Moved). x.outcome ∷ (played x.next (event ∷ EventView.PowerOn ∷ [])).outcomes)
    (arms m former k within pattern told)
    ∙ (ap (λ (x : Moved). event_outcomes.CutArmed ∷ x.outcome ∷ (played x.next (EventView.PowerOn ∷ [])).outcomes) lost
    ∙ ap (λ outcome. event_outcomes.CutArmed ∷ event_outcomes.PowerLost ∷ outcome ∷ []) (boots d m.cpu))

-- a board that tells its cut tells it after events
pub told-after : (m : MachineView) (cut : Option Cut) (events : List EventView) → m.armed ≡ Some cut
    → (next : Option Cut) × ((played m events).last.armed ≡ Some next)
told-after m cut [] told = (cut, told)
told-after m cut (event ∷ events) told =
    let next = moved-told m event in told-after (moved_machine m event).next (next.0) events next.1

moved-cpu : (m : MachineView) (event : EventView) → (moved_machine m event).next.cpu ≡ m.cpu
unfolding moved_machine
moved-cpu m event = refl

-- the processor stays
pub cpu-after : (m : MachineView) (events : List EventView) → (played m events).last.cpu ≡ m.cpu
cpu-after m [] = refl
cpu-after m (event ∷ events) = cpu-after (moved_machine m event).next events ∙ moved-cpu m event

pub a-replay : (c : Content) (cpu : Cpu) (before : List EventView) (event : EventView) (k : ℕ) (within : Bool)
    (pattern : List ℕ) (t : Traced) → cut_in event ≡ None
    → slice_get (traced_from (played (powerless c cpu) before).last.content
    (event_steps (played (powerless c cpu) before).last event)) k ≡ Some t
    → (played (powerless c cpu) (replay_of before event k within pattern)).outcomes
    ≡ (played (powerless c cpu) before).outcomes ++ (event_outcomes.CutArmed ∷ event_outcomes.PowerLost
    ∷ event_outcomes.Booted (decision_in (cut_by (cut_with 0 within pattern) t.before t.step) cpu Normal) ∷ [])
a-replay c cpu before event k within pattern t uncut at =
    let m = powerless c cpu in
    let mid = (played m before).last in
    let told = told-after m None before refl in
    ap (λ (p : Played). p.outcomes) (played-append m before
    (EventView.Cut k within pattern ∷ event ∷ EventView.PowerOn ∷ []))
    ∙ ap (λ ts. (played m before).outcomes ++ ts)
    (replayed mid (told.0) event k within pattern t told.1 uncut at
    ∙ ap (λ x. event_outcomes.CutArmed ∷ event_outcomes.PowerLost
    ∷ event_outcomes.Booted (decision_in (cut_by (cut_with 0 within pattern) t.before t.step) x Normal) ∷ [])
    (cpu-after m before))

-- the events before and behind one make up the trace
pub traced-append : (m : MachineView) (xs ys : List EventView)
    → traced m (xs ++ ys) ≡ traced m xs ++ traced (played m xs).last ys
traced-append m [] ys = refl
traced-append m (x ∷ xs) ys =
    ap (λ ts. traced_from m.content (event_steps m x) ++ ts) (traced-append (moved_machine m x).next xs ys)
    ∙ sym (append_assoc (traced_from m.content (event_steps m x)) (traced (moved_machine m x).next xs)
    (traced (played (moved_machine m x).next xs).last ys))

get-behind : {X : Type 0} (xs ys : List X) (k : ℕ) → slice_get (xs ++ ys) (length xs + k) ≡ slice_get ys k
get-behind [] ys k = let e : 0 + k ≡ k = omega arith in ap (slice_get ys) e
get-behind (x ∷ xs) ys k =
    let e : length (x ∷ xs) + k ≡ suc (length xs + k) = omega arith in
    ap (slice_get (x ∷ (xs ++ ys))) e ∙ get-behind xs ys k

get-front : {X : Type 0} (xs ys : List X) (k : ℕ) (x : X) → slice_get xs k ≡ Some x → slice_get (xs ++ ys) k ≡ Some x
get-front [] ys zero x at = cc
get-front [] ys (suc k) x at = cc
get-front (y ∷ xs) ys zero x at = at
get-front (y ∷ xs) ys (suc k) x at = get-front xs ys k x at

-- step k of an event stands in the trace behind those of the events before it
pub in-trace : (m : MachineView) (before after_ : List EventView) (event : EventView) (k : ℕ) (t : Traced)
    → slice_get (traced_from (played m before).last.content (event_steps (played m before).last event)) k ≡ Some t
    → slice_get (traced m (before ++ event ∷ after_)) (length (traced m before) + k) ≡ Some t
in-trace m before after_ event k t at =
    let mid = (played m before).last in
    ap (λ ts. slice_get ts (length (traced m before) + k)) (traced-append m before (event ∷ after_))
    ∙ (get-behind (traced m before) (traced mid (event ∷ after_)) k
    ∙ get-front (traced_from mid.content (event_steps mid event)) (traced (moved_machine mid event).next after_) k t at)

-- the cuts of step k are those of the numbers 2k and 2k + 1
pub cuts-at : (pattern : List ℕ) (done : List Traced) (k : ℕ) (t : Traced) → slice_get done k ≡ Some t
    → (slice_get (cut_contents pattern done) (2 * k) ≡ Some (cut_content pattern t false))
    × (slice_get (cut_contents pattern done) (2 * k + 1) ≡ Some (cut_content pattern t true))
cuts-at pattern [] zero t at = cc
cuts-at pattern [] (suc k) t at = cc
cuts-at pattern (x ∷ done) zero t at =
    let same : x ≡ t = cc in (
      ap (λ (y : Traced). Some (cut_content pattern y false)) same,
      ap (λ (y : Traced). Some (cut_content pattern y true)) same,
    )
cuts-at pattern (x ∷ done) (suc k) t at =
    let rest = cuts-at pattern done k t at in
    let e : 2 * suc k ≡ suc (suc (2 * k)) = omega arith in
    let f : 2 * suc k + 1 ≡ suc (suc (2 * k + 1)) = omega arith in (
      ap (slice_get (cut_contents pattern (x ∷ done))) e ∙ rest.0,
      ap (slice_get (cut_contents pattern (x ∷ done))) f ∙ rest.1,
    )
