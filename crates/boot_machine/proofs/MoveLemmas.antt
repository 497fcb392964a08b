-- What a move is: by a told cut, without steps, without power.
use Rattle.std.proofs.Common.{◌≡◌, Bool, true, false, List, [], ◌∷◌, Option, Some, None, refl, sym, ap, ◌∙◌, subst, inl, inr, true≢false, length}
use Rattle.std.specs.Prelude.{◌==◌, if◌then◌else◌}
use Rattle.pico_board.specs.declared.Step.{Step}
use Rattle.pico_board.specs.declared.boot.Cpu.{Cpu}
use Rattle.std.specs.Prelude.{◌<◌, All, IfSome}
use Rattle.std.specs.List.{AllByRecursion}
use Rattle.pico_board.specs.Content.{Content, IsContent}
use Rattle.pico_board.specs.Cuts.{Cut, CutOutcome, cut_by, nearer, cut_steps, unless_cut}
use Rattle.pico_board.specs.Steps.{CutOf, IsStepIn, after, after_all}
use Rattle.pico_board.proofs.ContentLemmas.{IsContent-after}
use Rattle.pico_board.proofs.TornStepLemmas.{Torn-cut_by}
use Rattle.pico_board.proofs.CuttingLemmas.{in_range-after}
use Rattle.pico_board.proofs.CutListLemmas.{told_all-none}
use Rattle.boot_script.specs.Events.{EventView}
use Rattle.boot_machine.specs.Boots.{Effect}
use Rattle.boot_machine.specs.Machines.{MachineView, StateView, Off}
use Rattle.text_lines.specs.declared.outcome.EventOutcome.{EventOutcome}
use Rattle.text_lines.specs.declared.outcome.EventOutcome.TheVariants as event_outcomes
use Rattle.boot_machine.specs.Moves.{Decides, IsDoneWhole, Moves, MovesBy, armed_for, effect}

abbrev machine : Content → Option (Option Cut) → Cpu → StateView → MachineView
machine c armed cpu place = record { content = c; armed = armed; cpu = cpu; place = place }

pub same-machine : (m n : MachineView) → m.content ≡ n.content → m.armed ≡ n.armed → m.cpu ≡ n.cpu
    → m.place ≡ n.place → m ≡ n
same-machine m n e f g h =
    ap (λ x. machine x m.armed m.cpu m.place) e ∙ ap (λ x. machine n.content x m.cpu m.place) f
    ∙ ap (λ x. machine n.content n.armed x m.place) g ∙ ap (λ x. machine n.content n.armed n.cpu x) h

-- what a board told of the steps
module _ (m : MachineView) (cut : Option Cut) (e : Effect) where
  abbrev told : CutOutcome
  told = cut_steps e.steps cut m.content

  one-move : (n o : MachineView) (outcome other : EventOutcome) → MovesBy m (Some cut) e n outcome → MovesBy m (Some cut) e o other
      → (n ≡ o) × (outcome ≡ other)
  one-move n o outcome other (inl a) (inl b) = (
    same-machine n o (a.content ∙ sym b.content) (a.armed_cut.next ∙ sym b.armed_cut.next) (a.cpu ∙ sym b.cpu)
        (a.place ∙ sym b.place),
    a.told ∙ sym b.told,
  )
  one-move n o outcome other (inl a) (inr b) =
      absurd (true≢false (sym a.armed_cut.answer ∙ b.armed_cut.answer))
  one-move n o outcome other (inr a) (inl b) =
      absurd (true≢false (sym b.armed_cut.answer ∙ a.armed_cut.answer))
  one-move n o outcome other (inr a) (inr b) = (
    same-machine n o (a.armed_cut.left ∙ sym b.armed_cut.left) (a.armed_cut.next ∙ sym b.armed_cut.next)
        (a.cpu ∙ sym b.cpu) (a.place ∙ sym b.place),
    a.told ∙ sym b.told,
  )

  next-told : (n : MachineView) (outcome : EventOutcome) → MovesBy m (Some cut) e n outcome
      → ((next : Option Cut) × (n.armed ≡ Some next))
  next-told n outcome (inl done) = (told.armed, done.armed_cut.next)
  next-told n outcome (inr lost) = (told.armed, lost.armed_cut.next)

-- a told cut stays told, whatever the event
armed-told : (cut : Option Cut) (event : EventView)
    → ((former : Option Cut) × (armed_for (Some cut) event ≡ Some former))
armed-told cut EventView.End = (cut, refl)
armed-told cut (EventView.Command command payload) = (cut, refl)
armed-told cut (EventView.Uf2 block) = (cut, refl)
armed-told cut (EventView.Cut left within pattern) =
    (Some (record { left = left; within = within; pattern = pattern }), refl)
armed-told cut EventView.PowerOn = (cut, refl)
armed-told cut (EventView.Reset kind) = (cut, refl)
armed-told cut EventView.Buy = (cut, refl)

armed-untold : (event : EventView) → armed_for None event ≡ None
armed-untold EventView.End = refl
armed-untold (EventView.Command command payload) = refl
armed-untold (EventView.Uf2 block) = refl
armed-untold (EventView.Cut left within pattern) = refl
armed-untold EventView.PowerOn = refl
armed-untold (EventView.Reset kind) = refl
armed-untold EventView.Buy = refl

pub told-one : (m n o : MachineView) (cut : Option Cut) (event : EventView) (outcome other : EventOutcome) → m.armed ≡ Some cut
    → Moves m event n outcome → Moves m event o other → (n ≡ o) × (outcome ≡ other)
told-one m n o cut event outcome other armed one two =
    let former = armed-told cut event in
    let is : armed_for m.armed event ≡ Some (former.0) = ap (λ a. armed_for a event) armed ∙ former.1 in
    one-move m (former.0) (effect m event) n o outcome other
    (subst (λ a. MovesBy m a (effect m event) n outcome) is one)
    (subst (λ a. MovesBy m a (effect m event) o other) is two)

pub told-next : (m n : MachineView) (cut : Option Cut) (event : EventView) (outcome : EventOutcome) → m.armed ≡ Some cut
    → Moves m event n outcome → ((next : Option Cut) × (n.armed ≡ Some next))
told-next m n cut event outcome armed one =
    let former = armed-told cut event in
    next-told m (former.0) (effect m event) n outcome
    (subst (λ a. MovesBy m a (effect m event) n outcome) (ap (λ a. armed_for a event) armed ∙ former.1) one)

pub untold-next : (m n : MachineView) (event : EventView) (outcome : EventOutcome) → m.armed ≡ None → Moves m event n outcome
    → n.armed ≡ None
untold-next m n event outcome armed one =
    by (subst (λ a. MovesBy m a (effect m event) n outcome) (ap (λ a. armed_for a event) armed ∙ armed-untold event) one)
  where
    by : MovesBy m None (effect m event) n outcome → n.armed ≡ None
    by (inl done) = done.armed_cut
    by (inr lost) = lost.armed_cut

-- what a board tells of a step and those behind it, by whether the cut falls in the step
abbrev after_it : List Step → Cut → Content → Step → Bool → CutOutcome
after_it steps cut c step t =
    unless_cut (if t then record { answer = false; content = cut_by cut c step; armed = None }
    else record { answer = true; content = after c step; armed = Some (nearer cut) }) (cut_steps steps)

-- what a board tells that lost no power in the steps, and one that did
done-content : (steps : List Step) (cut : Option Cut) (c : Content) → (cut_steps steps cut c).answer ≡ true
    → (cut_steps steps cut c).content ≡ after_all c steps
done-content [] cut c is = refl
done-content (step ∷ steps) None c is = done-content steps None (after c step) is
done-content (step ∷ steps) (Some cut) c is =
    by (cut.left == 0) (done-content steps (Some (nearer cut)) (after c step)) is
  where
    by : (t : Bool) → ((cut_steps steps (Some (nearer cut)) (after c step)).answer ≡ true
        → (cut_steps steps (Some (nearer cut)) (after c step)).content ≡ after_all (after c step) steps)
        → (after_it steps cut c step t).answer ≡ true
        → (after_it steps cut c step t).content ≡ after_all c (step ∷ steps)
    by true rest is = absurd (true≢false (sym is))
    by false rest is = rest is

cut-content : (steps : List Step) (cut : Option Cut) (c : Content) → IfSome cut (λ x. All (λ b. b < 256) x.pattern)
    → IsContent c → AllByRecursion (IsStepIn (length c.flash)) steps → (cut_steps steps cut c).answer ≡ false
    → CutOf c steps (cut_steps steps cut c).content
cut-content [] cut c small right all is = absurd (true≢false is)
cut-content (step ∷ steps) None c small right all is =
    inr (cut-content steps None (after c step) tt (IsContent-after c step right (all.0))
    (in_range-after c step steps (all.1)) is)
cut-content (step ∷ steps) (Some cut) c small right all is =
    by (cut.left == 0)
    (cut-content steps (Some (nearer cut)) (after c step) small (IsContent-after c step right (all.0))
    (in_range-after c step steps (all.1))) is
  where
    by : (t : Bool) → ((cut_steps steps (Some (nearer cut)) (after c step)).answer ≡ false
        → CutOf (after c step) steps (cut_steps steps (Some (nearer cut)) (after c step)).content)
        → (after_it steps cut c step t).answer ≡ false → CutOf c (step ∷ steps) (after_it steps cut c step t).content
    by true rest is = inl (Torn-cut_by cut c step small right.flash_bytes)
    by false rest is = inr (rest is)

pub move-untold : (m : MachineView) (event : EventView) → m.armed ≡ None
    → ((n : MachineView) × (outcome : EventOutcome) × IsDoneWhole m (armed_for m.armed event) (effect m event) n outcome)
move-untold m event armed =
    let e = effect m event in (
      machine (after_all m.content e.steps) None m.cpu e.place,
      e.outcome,
      record {
        content = refl;
        armed_cut =
            subst (λ a. Decides a m.content e.steps true (after_all m.content e.steps) None)
            (sym (ap (λ a. armed_for a event) armed ∙ armed-untold event)) refl;
        cpu = refl;
        place = refl;
        told = refl;
      },
    )

none-told : (m : MachineView) (e : Effect)
    → Decides (Some None) m.content e.steps true (after_all m.content e.steps) (Some None)
none-told m e =
    let whole = told_all-none e.steps m.content in
    record {
      answer = ap (λ (o : CutOutcome). o.answer) whole;
      left = sym (ap (λ (o : CutOutcome). o.content) whole);
      next = sym (ap (λ (o : CutOutcome). Some o.armed) whole);
    }

pub move-unarmed : (m : MachineView) (event : EventView) → armed_for m.armed event ≡ Some None
    → ((n : MachineView) × (outcome : EventOutcome) × IsDoneWhole m (armed_for m.armed event) (effect m event) n outcome)
move-unarmed m event armed =
    let e = effect m event in (
      machine (after_all m.content e.steps) (Some None) m.cpu e.place,
      e.outcome,
      record {
        content = refl;
        armed_cut =
            subst (λ a. Decides a m.content e.steps true (after_all m.content e.steps) (Some None)) (sym armed)
            (none-told m e);
        cpu = refl;
        place = refl;
        told = refl;
      },
    )

pub move-alone : (m n : MachineView) (event : EventView) (outcome : EventOutcome) → armed_for m.armed event ≡ Some None
    → Moves m event n outcome → IsDoneWhole m (armed_for m.armed event) (effect m event) n outcome
move-alone m n event outcome armed (inl done) = done
move-alone m n event outcome armed (inr lost) =
    let told = subst (λ a. Decides a m.content (effect m event).steps false n.content n.armed) armed lost.armed_cut in
    absurd (true≢false
    (sym (ap (λ (o : CutOutcome). o.answer) (told_all-none (effect m event).steps m.content)) ∙ told.answer))

pub move-armed : (m : MachineView) (event : EventView) (cut : Cut) → armed_for m.armed event ≡ Some (Some cut)
    → All (λ b. b < 256) cut.pattern → IsContent m.content
    → AllByRecursion (IsStepIn (length m.content.flash)) (effect m event).steps
    → ((n : MachineView) × (outcome : EventOutcome) × Moves m event n outcome)
move-armed m event cut armed small right all =
    let some = by (cut_steps e.steps (Some cut) m.content).answer refl in
    (some.0, some.1, subst (λ a. MovesBy m a e some.0 some.1) (sym armed) (some.2))
  where
    e : Effect
    e = effect m event

    by : (ok : Bool) → (cut_steps e.steps (Some cut) m.content).answer ≡ ok
        → ((n : MachineView) × (outcome : EventOutcome) × MovesBy m (Some (Some cut)) e n outcome)
    by true is =
        let o = cut_steps e.steps (Some cut) m.content in (
          machine o.content (Some o.armed) m.cpu e.place,
          e.outcome,
          inl (record {
            content = done-content e.steps (Some cut) m.content is;
            armed_cut = record { answer = is; left = refl; next = refl };
            cpu = refl;
            place = refl;
            told = refl;
          }),
        )
    by false is =
        let o = cut_steps e.steps (Some cut) m.content in (
          machine o.content (Some o.armed) m.cpu Off,
          event_outcomes.PowerLost,
          inr (record {
            content = cut-content e.steps (Some cut) m.content small right all is;
            armed_cut = record { answer = is; left = refl; next = refl };
            cpu = refl;
            place = refl;
            told = refl;
          }),
        )
