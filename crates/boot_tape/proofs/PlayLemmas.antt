-- A play whose cuts stand beside the machine is the play of the machine.
use Rattle.std.proofs.Common.{◌≡◌, ◌≢◌, ℕ, ◌+◌, ◌-◌, ◌≤◌, Bool, true, false, zero, suc, List, [], ◌∷◌, ◌++◌, length, replicate, take, drop, Option, Some, None, refl, sym, ap, ◌∙◌, subst, arith, inl, inr, append_assoc, length-append}
use Rattle.std.specs.Prelude.{All, IfOk, Result, Ok, Err, if◌then◌else◌, min, option_map}
use Rattle.std.specs.List.{AllByRecursion}
use Rattle.std.proofs.lemmas.List.{append-nil, length-map, length-take, take-append-drop, take_all}
use Rattle.std.proofs.lemmas.List.Elements.{All-drop, All-from_recursion, All-take}
use Rattle.pico_board.proofs.CuttingLemmas.{length-after_all}
use Rattle.std.proofs.Math.Seq.{drop-append_seam, take-append-add}
use Rattle.pico_board.specs.declared.mem_board.MemBoard.{MemBoard}
use Rattle.pico_board.specs.declared.Step.{Step}
use Rattle.pico_board.specs.declared.boot.Cpu.{Cpu}
use Rattle.pico_board.specs.Content.{Content}
use Rattle.pico_board.specs.Cuts.{Cut, CutOutcome, cut_steps, cut_with}
use Rattle.pico_board.specs.Board.{State as BoardState, with_power}
use Rattle.pico_board.specs.MemBoard.{state_of}
use Rattle.pico_board.specs.Histories.{Extends}
use Rattle.pico_board.specs.Steps.{IsStepIn, after, after_all}
use Rattle.boot_script.specs.Events.{EventView, IsWritableEvent}
use Rattle.boot_machine.specs.declared.parts.Parts.{Parts}
use Rattle.boot_machine.specs.Boots.{Effect}
use Rattle.text_lines.specs.declared.outcome.EventOutcome.{EventOutcome}
use Rattle.text_lines.specs.declared.outcome.EventOutcome.TheVariants as event_outcomes
use Rattle.boot_machine.specs.Machines.{MachineView, Off}
use Rattle.boot_machine.specs.Moves.{IsLost, Moves, MovesBy, armed_for, effect}
use Rattle.boot_machine.specs.Standing.{IsStep, Stands, StandsAt}
use Rattle.boot_machine.specs.Plays.{Moved, moved_as, moved_machine, played, powerless, told_cut}
use Rattle.boot_machine.proofs.PlayLemmas.{moved-as}
use Rattle.boot_tape.specs.declared.notes.Came.{Came}
use Rattle.boot_tape.specs.declared.notes.Behind.TheVariants.{Nothing}
use Rattle.boot_tape.specs.declared.trace.ArmedCut.{ArmedCut}
use Rattle.boot_tape.specs.declared.trace.Tape.{Tape}
use Rattle.boot_tape.specs.declared.trace.Trace.{Trace}
use Rattle.boot_session.specs.declared.recorder.Recorder.{Recorder}
use Rattle.boot_sweep.specs.declared.moves.Move.{Move}
use Rattle.boot_tape.specs.Moving.{AreMovesIn, after_moves, done_count, MoveView, move_from, moves_from, traced_by}
use Rattle.boot_tape.specs.Playing.{CutMoves, HasCome, HasFollowed, HasPattern, IsFollowed, IsLeftBy, IsLong, IsPlay, IsPlayedTo, IsStepped, IsTapeIn, IsTraceOf, bare, cut_from, cut_in, cut_moves, told_of, recorded_state, with_cut, with_notes}
use Rattle.boot_tape.specs.Traces.{Traced, behind, came_of, completed, event_moves, event_steps, moves_in, note_of, noted, outcome_before, own_steps, served_in, step_numbers, traced, traced_from}
use Rattle.boot_session.specs.Recordings.{HasRecorded, IsHistoryOf, IsRecordOf, first_steps, mark}
use Rattle.boot_tape.specs.Examples.{noting}
use Rattle.boot_tape.proofs.NoteLemmas.{note-armed, note-is}
use Rattle.boot_tape.proofs.MovingLemmas.{length-after_moves}
use Rattle.boot_tape.proofs.TraceLemmas.{after-append, completed-more, count-append, count-traced, cut-steps, first-all, first-moves, length-traced, prefix-lost, traced-append, traced-steps, whole-is}

-- what an event does is the same with no cut armed
pub effect-bare : (m : MachineView) (event : EventView) → effect (bare m) event ≡ effect m event
effect-bare m EventView.End = refl
effect-bare m (EventView.Command command payload) = refl
effect-bare m (EventView.Uf2 block) = refl
effect-bare m (EventView.Cut left within pattern) = refl
effect-bare m EventView.PowerOn = refl
effect-bare m (EventView.Reset kind) = refl
effect-bare m EventView.Buy = refl

-- an event that arms no cut leaves the one that is armed
pub armed-stays : (armed : Option (Option Cut)) (event : EventView) → cut_in event ≡ None
    → armed_for armed event ≡ armed
armed-stays armed EventView.End uncut = refl
armed-stays armed (EventView.Command command payload) uncut = refl
armed-stays armed (EventView.Uf2 block) uncut = refl
armed-stays armed (EventView.Cut left within pattern) uncut = cc
armed-stays armed EventView.PowerOn uncut = refl
armed-stays armed (EventView.Reset kind) uncut = refl
armed-stays armed EventView.Buy uncut = refl

-- what an event comes to, by what is done of its steps
abbrev outcome_by : Content → CutMoves → CutOutcome
outcome_by c w = record { answer = w.whole; content = after_moves c w.moves; armed = w.armed }

pub moved-by : (m : MachineView) (cut : Option Cut) (event : EventView) → m.armed ≡ Some cut → cut_in event ≡ None
    → moved_machine m event
    ≡ moved_as m (effect m event) (outcome_by m.content (cut_moves cut (effect m event).steps))
moved-by m cut event told uncut =
    moved-as m event cut (armed-stays m.armed event uncut ∙ told)
    ∙ ap (moved_as m (effect m event)) (cut-steps (effect m event).steps cut m.content)

steps-by : (m : MachineView) (cut : Option Cut) (event : EventView) → m.armed ≡ Some cut → cut_in event ≡ None
    → event_steps m event ≡ completed cut (effect m event).steps
steps-by m cut event told uncut =
    ap (λ a. completed (told_cut a) (effect m event).steps) (armed-stays m.armed event uncut ∙ told)

-- what was traced of the steps of an event
fresh-of : {X : Type 0} (n : ℕ) (h es : List X) → length h ≤ n
    → drop (length h) (take n (h ++ es)) ≡ take (n - length h) es
fresh-of n h es few =
    let at : n ≡ length h + (n - length h) = omega arith in
    ap (λ k. drop (length h) (take k (h ++ es))) at
    ∙ (ap (drop (length h)) (take-append-add h es (n - length h))
    ∙ drop-append_seam h (take (n - length h) es))

-- what the machine's board did in an event
pub record IsDoneBy (om nm : Parts (Recorder MemBoard)) (mid : MachineView) (e : Effect) : Type 0 where
  pub stands : Stands recorded_state nm (record {
    content = after_all mid.content e.steps;
    armed = Some None;
    cpu = mid.cpu;
    place = e.place;
  })
  pub kept : nm.board.steps.items ≡ first_steps (om.board.steps.items ++ e.steps)
  pub record_ : IsRecordOf state_of nm.board (om.board.steps.items ++ e.steps)

pub done-by : (om nm : Parts (Recorder MemBoard)) (ot : Tape) (mid : MachineView) (event : EventView) (came : Came)
    → cut_in event ≡ None → IsFollowed om ot mid → ot.done ≤ 262144
    → ((n : MachineView) → Stands recorded_state om n → armed_for n.armed event ≡ Some None
    → HasCome om n event came nm)
    → IsDoneBy om nm mid (effect mid event)
done-by om nm ot mid event came uncut followed short stepped =
    let h = om.board.steps.items in
    let is : IsStepped om (bare mid) (effect mid event) nm =
    subst (λ e. IsStepped om (bare mid) e nm) (effect-bare mid event)
    (stepped (bare mid) followed.stands (armed-stays (Some None) event uncut)).did in
    let now = is.recorded h followed.recorded in record {
      stands = is.stands;
      kept = now.known.kept;
      record_ = now;
    }

-- what came of the event, and what was traced of its own steps
pub record IsToldBy (om : Parts (Recorder MemBoard)) (mid : MachineView) (event : EventView) (came : Came)
    : Type 0 where
  pub outcome : came.outcome ≡ came_of mid event
  pub behind_ : came.behind ≡ behind mid event
  pub own : came.own
      ≡ length (first_steps (om.board.steps.items ++ own_steps mid event)) - length om.board.steps.items

pub told-by : (om nm : Parts (Recorder MemBoard)) (ot : Tape) (mid : MachineView) (event : EventView) (came : Came)
    → cut_in event ≡ None → IsFollowed om ot mid → ot.done ≤ 262144
    → ((n : MachineView) → Stands recorded_state om n → armed_for n.armed event ≡ Some None
    → HasCome om n event came nm)
    → IsToldBy om mid event came
told-by om nm ot mid event came uncut followed short stepped =
    let h = om.board.steps.items in
    let few = followed.few in
    let is : HasCome om (bare mid) event came nm =
    stepped (bare mid) followed.stands (armed-stays (Some None) event uncut) in record {
      outcome = is.outcome
          ∙ ap (outcome_before (served_in mid.content mid.cpu mid.place event)) (effect-bare mid event);
      behind_ = is.behind_;
      own = is.own h followed.recorded
          ∙ ap (λ (xs : List Step). length (first_steps (h ++ own_steps mid event)) - length xs)
          (first-all h (omega (arith, few, short)));
    }

-- what was traced of the event is the front of its steps
pub record IsFront (h es fresh : List Step) : Type 0 where
  pub front : fresh ≡ take (262145 - length h) es
  pub both : es ≡ fresh ++ drop (262145 - length h) es

pub front-of : (h es steps fresh : List Step) → length h ≤ 262144 → steps ≡ first_steps (h ++ es)
    → fresh ≡ drop (length h) steps → IsFront h es fresh
unfolding first_steps
front-of h es steps fresh few kept is =
    let n = 262145 - length h in
    let front : fresh ≡ take n es =
    is ∙ (ap (drop (length h)) kept ∙ fresh-of 262145 h es (omega (arith, few))) in record {
      front = front;
      both = sym (take-append-drop n es) ∙ ap (λ xs. xs ++ drop n es) (sym front);
    }

-- where all that was traced completes and is not too much, it is all
pub front-all : (h es fresh : List Step) (done : ℕ) → IsFront h es fresh → length h ≤ done
    → done + length fresh ≤ 262144 → fresh ≡ es
front-all h es fresh done is few short =
    let long = ap (λ (xs : List Step). length xs) is.front in
    let size = length-take (262145 - length h) es in
    is.front ∙ take_all (262145 - length h) es (omega (arith, long, size, few, short))

-- what is done of the steps that were traced is what is done of all
pub same-moves : (h es fresh : List Step) (cut : Option Cut) (done : ℕ) (whole : Bool) → IsFront h es fresh
    → length h ≤ done → whole ≡ (cut_moves cut fresh).whole
    → done + done_count (cut_moves cut fresh).moves ≤ 262144 → (c : Content)
    → cut_moves cut es ≡ cut_moves cut fresh
same-moves h es fresh cut done false is few whole short c =
    ap (cut_moves cut) is.both ∙ prefix-lost fresh (drop (262145 - length h) es) cut (sym whole)
same-moves h es fresh cut done true is few whole short c =
    let all = whole-is fresh cut c (sym whole) in
    let count = all.count in
    ap (cut_moves cut) (sym (front-all h es fresh done is few (omega (arith, short, count))))

-- where the event's steps are many, so is the trace
pub long-by : (ot nt : Tape) (m mid : MachineView) (all left : List EventView) (event : EventView)
    (number : ℕ) (fresh : List Step) (whole : Bool) (h : List Step)
    → IsPlayedTo ot m all (event ∷ left) number mid → cut_in event ≡ None
    → IsFront h (effect mid event).steps fresh
    → IsLeftBy ot (cut_moves (told_of ot) fresh) number whole nt → IsLong nt m all
long-by ot nt m mid all left event number fresh whole h to uncut front is many =
    let es = (effect mid event).steps in
    let cut = told_of ot in
    let rest = traced (moved_machine mid event).next left in
    let past = traced_by m.content (moves_from ot.moves.items) in
    let here = traced_from mid.content (event_steps mid event) in
    let sum : length (traced m all) ≡ length past + (length here + length rest) =
    ap (λ (ts : List Traced). length ts) (sym to.steps)
    ∙ (length-append past (here ++ rest) ∙ ap (λ n. length past + n) (length-append here rest)) in
    let before : ot.done ≡ length past = to.counted ∙ count-traced m.content (moves_from ot.moves.items) in
    let now : length here ≡ length (completed cut es) =
    length-traced mid.content (event_steps mid event)
    ∙ ap (λ (xs : List Step). length xs) (steps-by mid cut event to.told uncut) in
    let more : length (completed cut fresh) ≤ length (completed cut es) =
    subst (λ (xs : List Step). length (completed cut fresh) ≤ length (completed cut xs)) (sym front.both)
    (completed-more cut fresh (drop (262145 - length h) es)) in
    let count : done_count (cut_moves cut fresh).moves ≡ length (completed cut fresh) =
    count-traced mid.content (cut_moves cut fresh).moves
    ∙ (ap (λ (ts : List Traced). length ts) (traced-steps fresh cut mid.content)
    ∙ length-traced mid.content (completed cut fresh)) in
    let done = is.done in omega (arith, sum, before, now, more, count, done, many)

-- the trace is that of one event more
pub played-more : (ot nt u : Tape) (m mid : MachineView) (all left : List EventView) (event : EventView) (number : ℕ)
    (w : CutMoves) (whole : Bool) → IsPlayedTo ot m all (event ∷ left) number mid → cut_in event ≡ None
    → w ≡ cut_moves (told_of ot) (effect mid event).steps → IsLeftBy ot w number whole nt
    → u.notes.items ≡ ot.notes.items ++ note_of mid event ∷ []
    → IsPlayedTo (with_notes nt u) m all left (number + 1)
    (moved_as mid (effect mid event) (outcome_by mid.content w)).next
played-more ot nt u m mid all left event number w whole to uncut w_is is more =
    let e = effect mid event in
    let cut = told_of ot in
    let moved : moved_machine mid event ≡ moved_as mid e (outcome_by mid.content w) =
    moved-by mid cut event to.told uncut ∙ ap (λ x. moved_as mid e (outcome_by mid.content x)) (sym w_is) in
    let next = (moved_as mid e (outcome_by mid.content w)).next in
    let past = moves_from ot.moves.items in
    let here : after_moves m.content past ≡ mid.content = sym to.content in
    let steps : traced_by mid.content w.moves ≡ traced_from mid.content (event_steps mid event) =
    ap (λ (x : CutMoves). traced_by mid.content x.moves) w_is
    ∙ (traced-steps e.steps cut mid.content
    ∙ ap (traced_from mid.content) (sym (steps-by mid cut event to.told uncut))) in
    let count : done_count w.moves ≡ length (event_steps mid event) =
    count-traced mid.content w.moves ∙ (ap (λ (ts : List Traced). length ts) steps
    ∙ length-traced mid.content (event_steps mid event)) in
    let came : w.moves ≡ event_moves mid event =
    ap (λ (x : CutMoves). x.moves) w_is
    ∙ ap (λ a. (cut_moves (told_cut a) e.steps).moves) (sym (armed-stays mid.armed event uncut ∙ to.told)) in record {
      numbers = ap (λ ns. ns ++ step_numbers (number + 1) next left) is.numbers
          ∙ (append_assoc ot.numbers.items (replicate (done_count w.moves) number) (step_numbers (number + 1) next left)
          ∙ (ap (λ k. ot.numbers.items ++ (replicate k number ++ step_numbers (number + 1) next left)) count
          ∙ (ap (λ (x : Moved). ot.numbers.items ++ (replicate (length (event_steps mid event)) number
          ++ step_numbers (number + 1) x.next left)) (sym moved) ∙ to.numbers)));
      moves = ap (λ ms. ms ++ moves_in next left) is.moves
          ∙ (append_assoc past w.moves (moves_in next left)
          ∙ (ap (λ ms. past ++ (ms ++ moves_in next left)) came
          ∙ (ap (λ (x : Moved). past ++ (event_moves mid event ++ moves_in x.next left)) (sym moved) ∙ to.moves)));
      notes = ap (λ ns. ns ++ noted next left) more
          ∙ (append_assoc ot.notes.items (note_of mid event ∷ []) (noted next left)
          ∙ (ap (λ (x : Moved). ot.notes.items ++ (note_of mid event ∷ noted x.next left)) (sym moved) ∙ to.notes));
      told = ap (λ a. Some a) (sym is.armed);
      cpu = to.cpu;
      content = ap (λ c. after_moves c w.moves) to.content
          ∙ (sym (after-append m.content past w.moves) ∙ ap (after_moves m.content) (sym is.moves));
      steps = ap (λ ms. traced_by m.content ms ++ traced next left) is.moves
          ∙ (ap (λ ts. ts ++ traced next left) (traced-append m.content past w.moves)
          ∙ (ap (λ c. (traced_by m.content past ++ traced_by c w.moves) ++ traced next left) here
          ∙ (ap (λ ts. (traced_by m.content past ++ ts) ++ traced next left) steps
          ∙ (append_assoc (traced_by m.content past) (traced_from mid.content (event_steps mid event)) (traced next left)
          ∙ (ap (λ (x : Moved). traced_by m.content past
          ++ (traced_from mid.content (event_steps mid event) ++ traced x.next left)) (sym moved)
          ∙ to.steps)))));
      last = ap (λ (x : Moved). (played x.next left).last.content) (sym moved) ∙ to.last;
      counted =
          let d = is.done in let n = to.counted in
          let sum = ap done_count is.moves ∙ count-append past w.moves in omega (arith, d, n, sum);
    }

-- the flash stays as long as it was
pub long-as : (tape : Tape) (m mid : MachineView) (all left : List EventView) (k : ℕ)
    → IsPlayedTo tape m all left k mid → length m.content.flash ≡ length mid.content.flash
long-as tape m mid all left k to =
    sym (ap (λ (x : Content). length x.flash) to.content ∙ length-after_moves m.content (moves_from tape.moves.items))

-- how many moves of an event were done
moved-count : (ot nt : Tape) (w : CutMoves) (number : ℕ) (whole : Bool) (former : ℕ) → IsLeftBy ot w number whole nt
    → former ≡ length ot.moves.items → length nt.moves.items - former ≡ length w.moves
moved-count ot nt w number whole former is former_is =
    let both = ap (λ (ms : List MoveView). length ms) is.moves in
    let now = length-map nt.moves.items move_from in
    let past = length-map ot.moves.items move_from in
    let sum = length-append (moves_from ot.moves.items) w.moves in omega (arith, both, now, past, sum, former_is)

-- what was noted of the event is its note
noted-on : (om : Parts (Recorder MemBoard)) (ot nt u : Tape) (mid : MachineView) (event : EventView) (number : ℕ)
    (whole : Bool) (fresh : List Step) (came : Came) (former : ℕ) → IsFollowed om ot mid
    → ot.done ≤ 262144 → mid.armed ≡ Some (told_of ot) → cut_in event ≡ None → IsToldBy om mid event came
    → IsFront om.board.steps.items (effect mid event).steps fresh
    → IsLeftBy ot (cut_moves (told_of ot) fresh) number whole nt
    → cut_moves (told_of ot) (effect mid event).steps ≡ cut_moves (told_of ot) fresh
    → former ≡ length ot.moves.items
    → u.notes.items ≡ nt.notes.items
    ++ noting came.outcome (min came.own (length nt.moves.items - former)) came.behind (length nt.moves.items - former) whole ∷ []
    → u.notes.items ≡ ot.notes.items ++ note_of mid event ∷ []
noted-on om ot nt u mid event number whole fresh came former followed short told uncut says front is same
    former_is more =
    let h = om.board.steps.items in
    let w = cut_moves (told_of ot) fresh in
    let count = length nt.moves.items - former in
    let few = followed.few in
    let size = first-moves fresh [] (told_of ot) in
    let long = ap (λ (xs : List Step). length xs) front.front in
    let most = length-take (262145 - length h) (effect mid event).steps in
    more
    ∙ (ap (λ ns. ns.items ++ noting came.outcome (min came.own count) came.behind count whole ∷ []) is.notes
    ∙ ap (λ x. ot.notes.items ++ x ∷ [])
    (note-is mid event (told_of ot) came w h count whole
    (ap told_cut (armed-stays mid.armed event uncut ∙ told)) (sym same) says.outcome says.own
    (omega (arith, few, short)) (omega (arith, size, long, most)) says.behind_
    (moved-count ot nt w number whole former is former_is) is.whole_))

pub play-on : (om nm : Parts (Recorder MemBoard)) (ot nt u : Tape) (m : MachineView) (all left : List EventView)
    (event : EventView) (number : ℕ) (whole : Bool) (fresh : List Step) (came : Came) (former : ℕ)
    → IsPlay om ot m all (event ∷ left) number → cut_in event ≡ None
    → ((n : MachineView) → Stands recorded_state om n → armed_for n.armed event ≡ Some None
    → HasCome om n event came nm)
    → fresh ≡ drop (length om.board.steps.items) nm.board.steps.items
    → IsLeftBy ot (cut_moves (told_of ot) fresh) number whole nt → ot.done ≤ 262144
    → former ≡ length ot.moves.items → u ≡ with_notes nt u
    → u.notes.items ≡ nt.notes.items
    ++ noting came.outcome (min came.own (length nt.moves.items - former)) came.behind (length nt.moves.items - former) whole ∷ []
    → IsLong u m all × (u.done ≤ 262144 → HasFollowed whole nm u m all left (number + 1))
play-on om nm ot nt u m all left event number whole fresh came former play uncut stepped fresh_is is short former_is
    noted_as more =
    subst (λ (t : Tape). IsLong t m all × (t.done ≤ 262144 → HasFollowed whole nm t m all left (number + 1)))
    (sym noted_as)
    (let mid = play.mid in
    let to = play.to in
    let e = effect mid event in
    let h = om.board.steps.items in
    let few = play.followed.few in
    let done = done-by om nm ot mid event came uncut play.followed short stepped in
    let says = told-by om nm ot mid event came uncut play.followed short stepped in
    let front = front-of h e.steps nm.board.steps.items fresh (omega (arith, few, short)) done.kept fresh_is in (
      long-by ot nt m mid all left event number fresh whole h to uncut front is,
      λ (less : nt.done ≤ 262144).
          let w = cut_moves (told_of ot) fresh in
          let count = is.done in
          let same : cut_moves (told_of ot) e.steps ≡ w =
          same-moves h e.steps fresh (told_of ot) ot.done whole front few is.whole_ (omega (arith, count, less)) mid.content in
          let next = (moved_as mid e (outcome_by mid.content w)).next in record {
            mid = next;
            to = played-more ot nt u m mid all left event number w whole to uncut (sym same) is
                (noted-on om ot nt u mid event number whole fresh came former play.followed short to.told uncut
                says front is same former_is more);
            goes = λ yes.
                let wh : w.whole ≡ true = sym is.whole_ ∙ yes in
                let all_of = whole-is fresh (told_of ot) mid.content wh in
                let size = all_of.count in
                let whole_fresh : fresh ≡ e.steps =
                front-all h e.steps fresh ot.done front few (omega (arith, count, less, size)) in
                let left_as : after_moves mid.content w.moves ≡ after_all mid.content e.steps =
                all_of.content ∙ ap (after_all mid.content) whole_fresh in
                let long = length-append h e.steps in
                let same_long = ap (λ (xs : List Step). length xs) whole_fresh in
                let kept : nm.board.steps.items ≡ h ++ e.steps =
                done.kept ∙ first-all (h ++ e.steps) (omega (arith, long, same_long, few, count, less, size)) in
                let kept_long = ap (λ (xs : List Step). length xs) kept in record {
                  stands = record {
                    content = left_as ∙ done.stands.content;
                    armed = done.stands.armed;
                    cpu = done.stands.cpu;
                    place = subst (λ b. StandsAt nm (if b then e.place else Off)) (sym wh) done.stands.place;
                  };
                  few = omega (arith, kept_long, long, same_long, few, count, size);
                  recorded = subst (λ xs. IsRecordOf state_of nm.board xs) (sym kept) done.record_;
                };
            stops = λ no. ap (λ b. if b then e.place else Off) (sym is.whole_ ∙ no);
          },
    ))

-- a machine that is made anew
pub made-anew : (machine : Parts (Recorder MemBoard)) (tape : Tape) (m mid : MachineView) (all left : List EventView)
    (number : ℕ) → IsPlayedTo tape m all left number mid → mid.place ≡ Off
    → Stands recorded_state machine (powerless (after_moves m.content (moves_from tape.moves.items)) m.cpu)
    → HasRecorded machine.board [] → IsPlay machine tape m all left number
made-anew machine tape m mid all left number to off stands none = record {
  mid = mid;
  to = to;
  followed = record {
    stands = record {
      content = to.content ∙ stands.content;
      armed = stands.armed;
      cpu = to.cpu ∙ stands.cpu;
      place = subst (λ p. StandsAt machine p) (sym off) stands.place;
    };
    few =
        let n = ap (λ (xs : List Step). length xs) (none.kept ∙ first-all [] (omega arith)) in omega (arith, n);
    recorded = subst (λ xs. IsRecordOf state_of machine.board xs) (sym (none.kept ∙ first-all [] (omega arith)))
        (record { known = none; inside = tt });
  };
}

-- before the first event
pub play-first : (machine : Parts (Recorder MemBoard)) (tape : Tape) (c : Content) (cpu : Cpu)
    (events : List EventView) → tape.moves.items ≡ [] → tape.numbers.items ≡ []
    → tape.done ≡ 0 → tape.armed ≡ None → tape.notes.items ≡ []
    → Stands recorded_state machine (powerless c cpu)
    → HasRecorded machine.board [] → IsPlay machine tape (powerless c cpu) events events 0
play-first machine tape c cpu events none_yet numbers done armed notes stands none =
    made-anew machine tape (powerless c cpu) (powerless c cpu) events events 0 (record {
      numbers = ap (λ ns. ns ++ step_numbers 0 (powerless c cpu) events) numbers;
      moves = ap (λ ms. moves_from ms ++ moves_in (powerless c cpu) events) none_yet;
      notes = ap (λ ns. ns ++ noted (powerless c cpu) events) notes;
      told = ap (λ a. Some (option_map cut_from a)) (sym armed);
      cpu = refl;
      content = ap (λ ms. after_moves c (moves_from ms)) (sym none_yet);
      steps = ap (λ ms. traced_by c (moves_from ms) ++ traced (powerless c cpu) events) none_yet;
      last = refl;
      counted = done ∙ ap (λ ms. done_count (moves_from ms)) (sym none_yet);
    }) refl
    (subst (λ ms. Stands recorded_state machine (powerless (after_moves c (moves_from ms)) cpu)) (sym none_yet) stands)
    none

take-nothing : {X : Type 0} (n : ℕ) → (let none : List X = [] in take n none ≡ none)
take-nothing zero = refl
take-nothing (suc n) = refl

completed-none : (cut : Option Cut) → completed cut [] ≡ []
completed-none None = refl
completed-none (Some cut) = take-nothing cut.left

-- an event that arms a cut
pub play-armed : (machine : Parts (Recorder MemBoard)) (old new : Tape) (m : MachineView) (all left : List EventView)
    (event : EventView) (number : ℕ) (cut : ArmedCut) → cut_in event ≡ Some (cut_from cut)
    → new ≡ with_notes (with_cut old cut) new
    → new.notes.items ≡ old.notes.items ++ noting event_outcomes.CutArmed 0 Nothing 0 true ∷ []
    → IsPlay machine old m all (event ∷ left) number → IsPlay machine new m all left (number + 1)
play-armed machine old new m all left (EventView.Cut n within pattern) number cut is same more play =
    let mid = play.mid in
    let to = play.to in
    let event : EventView = EventView.Cut n within pattern in
    let armed : Some (cut_with n within pattern) ≡ Some (cut_from cut) = is in
    let next : MachineView = record {
      content = mid.content;
      armed = Some (Some (cut_from cut));
      cpu = mid.cpu;
      place = mid.place;
    } in
    let moved : (moved_machine mid event).next ≡ next =
    ap (λ (x : Moved). x.next) (moved-as mid event (Some (cut_from cut))
    (ap (option_map (λ former. Some (cut_with n within pattern))) to.told ∙ ap (λ a. Some a) armed)) in
    let none : event_steps mid event ≡ [] = completed-none (told_cut (armed_for mid.armed event)) in
    subst (λ (t : Tape). IsPlay machine t m all left (number + 1)) (sym same) (record {
      mid = next;
      to = record {
        numbers = ap (λ x. old.numbers.items ++ step_numbers (number + 1) x left) (sym moved)
            ∙ (ap (λ (xs : List Step). old.numbers.items ++ (replicate (length xs) number
            ++ step_numbers (number + 1) (moved_machine mid event).next left)) (sym none) ∙ to.numbers);
        moves = ap (λ x. moves_from old.moves.items ++ moves_in x left) (sym moved) ∙ to.moves;
        notes = ap (λ ns. ns ++ noted next left) more
            ∙ (append_assoc old.notes.items (noting event_outcomes.CutArmed 0 Nothing 0 true ∷ []) (noted next left)
            ∙ (ap (λ x. old.notes.items ++ (x ∷ noted next left)) (note-armed mid n within pattern)
            ∙ (ap (λ x. old.notes.items ++ (note_of mid event ∷ noted x left)) (sym moved) ∙ to.notes)));
        told = refl;
        cpu = to.cpu;
        content = to.content;
        steps = ap (λ x. traced_by m.content (moves_from old.moves.items) ++ traced x left) (sym moved)
            ∙ (ap (λ (xs : List Step). traced_by m.content (moves_from old.moves.items)
            ++ (traced_from mid.content xs ++ traced (moved_machine mid event).next left)) (sym none) ∙ to.steps);
        last = ap (λ x. (played x left).last.content) (sym moved) ∙ to.last;
        counted = to.counted;
      };
      followed = record {
        stands = play.followed.stands;
        few = play.followed.few;
        recorded = play.followed.recorded;
      };
    })
play-armed machine old new m all left EventView.End number cut is same more play = cc
play-armed machine old new m all left (EventView.Command command payload) number cut is same more play = cc
play-armed machine old new m all left (EventView.Uf2 block) number cut is same more play = cc
play-armed machine old new m all left EventView.PowerOn number cut is same more play = cc
play-armed machine old new m all left (EventView.Reset kind) number cut is same more play = cc
play-armed machine old new m all left EventView.Buy number cut is same more play = cc

-- the pattern of a cut that a writable event arms
pub pattern-of : (event : EventView) (cut : Cut) → cut_in event ≡ Some cut → IsWritableEvent event
    → HasPattern (Some cut)
pattern-of (EventView.Cut left within pattern) cut is writable = subst HasPattern is writable
pattern-of EventView.End cut is writable = cc
pattern-of (EventView.Command command payload) cut is writable = cc
pattern-of (EventView.Uf2 block) cut is writable = cc
pattern-of EventView.PowerOn cut is writable = cc
pattern-of (EventView.Reset kind) cut is writable = cc
pattern-of EventView.Buy cut is writable = cc

told-none : (steps : List Step) (c : Content)
    → cut_steps steps None c ≡ (record { answer = true; content = after_all c steps; armed = None })
told-none [] c = refl
told-none (step ∷ steps) c = told-none steps (after c step)

pub no-loss : (m : MachineView) (e : Effect) (n : MachineView) (outcome : EventOutcome) → IsLost m (Some None) e n outcome → ⊥
no-loss m e n outcome lost =
    let no : true ≡ false = sym (ap (λ (o : CutOutcome). o.answer) (told-none e.steps m.content))
    ∙ lost.armed_cut.answer in cc

-- the steps of a recorder's histories are what it knows of
pub records-more : (old new : Recorder MemBoard) (steps : List Step) → Extends (IsHistoryOf state_of) old steps new
    → Extends (IsRecordOf state_of) old steps new
records-more old new steps more = λ h is. (more (mark old.units.items ∷ h) (refl, is)).1

-- an event on a board of which no cut is armed does its steps whole
pub stepped-by : (old : Parts (Recorder MemBoard)) (m : MachineView) (event : EventView) (new : Parts (Recorder MemBoard))
    (outcome : EventOutcome) → armed_for m.armed event ≡ Some None
    → IsStep recorded_state (IsHistoryOf state_of) old m event new outcome
    → ((n : MachineView) (came : EventOutcome) → Moves m event n came → came ≡ event_outcomes.PowerLost
    → IsLost m (armed_for m.armed event) (effect m event) n came)
    → IsStepped old m (effect m event) new
stepped-by old m event new outcome none is says =
    go (subst (λ a. MovesBy m a (effect m event) is.next outcome) none is.moves)
    (λ lost. no-loss m (effect m event) is.next outcome
    (subst (λ a. IsLost m a (effect m event) is.next outcome) none (says is.next outcome is.moves lost)))
  where
    go : MovesBy m (Some None) (effect m event) is.next outcome → outcome ≢ event_outcomes.PowerLost
        → IsStepped old m (effect m event) new
    go (inr lost) kept = absurd (no-loss m (effect m event) is.next outcome lost)
    go (inl done) kept = record {
      stands = record {
        content = sym done.content ∙ is.stands.content;
        armed = sym (done.armed_cut.next
            ∙ ap (λ (o : CutOutcome). Some o.armed) (told-none (effect m event).steps m.content)) ∙ is.stands.armed;
        cpu = sym done.cpu ∙ is.stands.cpu;
        place = subst (λ p. StandsAt new p) done.place is.stands.place;
      };
      recorded = records-more old.board new.board (effect m event).steps (is.recorded kept);
    }

-- the trace has what the tape tells, and this board
pub record IsEnded (tape : Tape) (board : MemBoard) (found : Trace) : Type 0 where
  pub board_ : found.board ≡ board
  pub moves : found.moves ≡ tape.moves
  pub numbers : found.numbers ≡ tape.numbers
  pub notes : found.notes ≡ tape.notes

-- the whole trace of a script, on the board of the machine
pub traced-end : (machine : Parts (Recorder MemBoard)) (tape : Tape) (board : MemBoard) (found : Trace) (c : Content)
    (cpu : Cpu) (events left : List EventView) (number : ℕ) → left ≡ [] → IsTapeIn (length c.flash) tape
    → tape.done ≤ 262144 → IsPlay machine tape (powerless c cpu) events left number
    → state_of board ≡ with_power (recorded_state machine.board) → IsEnded tape board found
    → IsTraceOf c cpu events found
traced-end machine tape board found c cpu events left number none ready short play on ended =
    let mid = play.mid in
    let to = play.to in
    let past = moves_from tape.moves.items in
    let same : moves_from found.moves.items ≡ past = ap (λ ms. moves_from ms.items) ended.moves in
    let held : (state_of found.board).content ≡ mid.content =
    ap (λ b. (state_of b).content) ended.board_
    ∙ (ap (λ (s : BoardState). s.content) on ∙ sym play.followed.stands.content) in
    let moved : (state_of found.board).content ≡ after_moves c (moves_from found.moves.items) =
    held ∙ (to.content ∙ ap (after_moves c) (sym same)) in
    let size : length (state_of found.board).content.flash ≡ length c.flash =
    ap (λ (x : Content). length x.flash) moved ∙ length-after_moves c (moves_from found.moves.items) in
    let steps : traced_by c past ≡ traced (powerless c cpu) events =
    sym (append-nil (traced_by c past)) ∙ (ap (λ es. traced_by c past ++ traced mid es) (sym none) ∙ to.steps) in
    let count : tape.done ≡ length (traced (powerless c cpu) events) =
    to.counted ∙ (count-traced c past ∙ ap (λ (ts : List Traced). length ts) steps) in record {
      ready = record {
        unarmed = record {
          power = ap (λ b. (state_of b).powered) ended.board_ ∙ ap (λ (s : BoardState). s.powered) on;
          unarmed = ap (λ b. (state_of b).armed) ended.board_
              ∙ (ap (λ (s : BoardState). s.armed) on ∙ sym play.followed.stands.armed);
        };
        inside = subst (λ n. AreMovesIn n found.moves.items) (sym size)
            (subst (λ ms. AreMovesIn (length c.flash) ms) (ap (λ ms. ms.items) (sym ended.moves)) ready.inside);
      };
      steps = ap (traced_by c) same ∙ steps;
      numbers = ap (λ ns. ns.items) ended.numbers ∙ (sym (append-nil tape.numbers.items)
          ∙ (ap (λ es. tape.numbers.items ++ step_numbers number mid es) (sym none) ∙ to.numbers));
      moves = same ∙ (sym (append-nil past) ∙ (ap (λ es. past ++ moves_in mid es) (sym none) ∙ to.moves));
      notes = ap (λ ns. ns.items) ended.notes ∙ (sym (append-nil tape.notes.items)
          ∙ (ap (λ es. tape.notes.items ++ noted mid es) (sym none) ∙ to.notes));
      content = held ∙ (ap (λ es. (played mid es).last.content) (sym none) ∙ to.last);
      moved = moved;
      short = omega (arith, count, short);
      size = size;
    }

-- what was traced of an event is more than before
pub former-within : (om nm : Parts (Recorder MemBoard)) (mid : MachineView) (e : Effect) (ot : Tape)
    → IsFollowed om ot mid → ot.done ≤ 262144 → IsDoneBy om nm mid e
    → length om.board.steps.items ≤ length nm.board.steps.items
unfolding first_steps
former-within om nm mid e ot followed short done =
    let h = om.board.steps.items in
    let few = followed.few in
    let long = ap (λ (xs : List Step). length xs) done.kept in
    let size = length-take 262145 (h ++ e.steps) in
    let sum = length-append h e.steps in omega (arith, few, short, long, size, sum)

-- what was traced of an event lies in the flash
pub fresh-in : (om nm : Parts (Recorder MemBoard)) (mid : MachineView) (e : Effect) (n k : ℕ) (read : List Step)
    → IsDoneBy om nm mid e → read ≡ nm.board.steps.items → n ≡ length mid.content.flash
    → All (IsStepIn n) (take (length read - k) (drop k read))
unfolding first_steps
fresh-in om nm mid e n k read done read_is long =
    let P : Step → Type 0 = IsStepIn n in
    let same : length (state_of nm.board.bench).content.flash ≡ n =
    ap (λ (x : Content). length x.flash) (sym done.stands.content)
    ∙ (length-after_all mid.content e.steps ∙ sym long) in
    let all : All P (om.board.steps.items ++ e.steps) =
    All-from_recursion P (om.board.steps.items ++ e.steps)
    (subst (λ j. AllByRecursion (IsStepIn j) (om.board.steps.items ++ e.steps)) same done.record_.inside) in
    All-take P (length read - k) (drop k read) (All-drop P k read
    (subst (λ xs. All P xs) (sym (read_is ∙ done.kept)) (All-take P 262145 (om.board.steps.items ++ e.steps) all)))

pub if-ok : {A E : Type 0} (r : Result A E) (P Q : A → Type 0) → ((a : A) → P a → Q a) → IfOk r P → IfOk r Q
if-ok (Ok a) P Q f h = f a h
if-ok (Err e) P Q f h = tt

-- an event that was followed
pub follow-whole : (nm : Parts (Recorder MemBoard)) (nt : Tape) (m : MachineView) (all left : List EventView)
    (number : ℕ) (whole : Bool) → whole ≡ true → HasFollowed whole nm nt m all left number
    → IsPlay nm nt m all left number
follow-whole nm nt m all left number whole held is = record { mid = is.mid; to = is.to; followed = is.goes held }

pub follow-anew : (nm machine : Parts (Recorder MemBoard)) (nt : Tape) (moves : List Move) (m : MachineView)
    (all left : List EventView) (number : ℕ) (whole : Bool) → whole ≡ false → moves ≡ nt.moves.items
    → HasFollowed whole nm nt m all left number
    → Stands recorded_state machine (powerless (after_moves m.content (moves_from moves)) m.cpu)
    → HasRecorded machine.board [] → IsPlay machine nt m all left number
follow-anew nm machine nt moves m all left number whole fell same has stands none =
    made-anew machine nt m has.mid all left number has.to (has.stops fell)
    (subst (λ ms. Stands recorded_state machine (powerless (after_moves m.content (moves_from ms)) m.cpu)) same stands)
    none

-- a tape that has not begun
pub begins-in : (n : ℕ) (tape : Tape) → tape.moves.items ≡ [] → tape.armed ≡ None → IsTapeIn n tape
begins-in n tape none unarmed = record {
  pattern = subst (λ a. HasPattern (option_map cut_from a)) (sym unarmed) tt;
  inside = subst (λ ms. AreMovesIn n ms) (sym none) tt;
}
