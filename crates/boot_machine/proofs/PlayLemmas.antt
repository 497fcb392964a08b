-- What events do to a machine whose board tells its armed cut: Moves and Plays name the one machine and the outcomes.
use Rattle.std.proofs.Common.{◌≡◌, true, false, cond, Option, Some, List, [], ◌∷◌, refl, sym, ◌∙◌, ap, subst, inl, inr}
use Rattle.pico_board.specs.Content.{Content}
use Rattle.pico_board.specs.Cuts.{Cut, cut_steps}
use Rattle.boot_script.specs.Events.{EventView, End, Command, Uf2, Cut as ArmsCut, PowerOn, Reset, Buy}
use Rattle.text_lines.specs.declared.outcome.EventOutcome.{EventOutcome}
use Rattle.text_lines.specs.declared.outcome.EventOutcome.TheVariants as event_outcomes
use Rattle.boot_machine.specs.Machines.{MachineView, Off}
use Rattle.boot_machine.specs.Boots.{Effect}
use Rattle.boot_machine.specs.Moves.{Moves, MovesBy, Plays, armed_for, effect}
use Rattle.boot_machine.specs.Plays.{Moved, Played, moved_machine, moved_as, played, told_cut}

-- a machine that is one of another's parts
same-machine : (n : MachineView) (content : Content) (armed : Option (Option Cut)) (m : MachineView)
    → n.content ≡ content → n.armed ≡ armed → n.cpu ≡ m.cpu → (place : _) → n.place ≡ place
    → n ≡ record { content = content; armed = armed; cpu = m.cpu; place = place }
same-machine n content armed m a b c place d =
    ap (λ x. record { content = x; armed = n.armed; cpu = n.cpu; place = n.place }) a
    ∙ (ap (λ x. record { content = content; armed = x; cpu = n.cpu; place = n.place }) b
    ∙ (ap (λ x. record { content = content; armed = armed; cpu = x; place = n.place }) c
    ∙ ap (λ x. record { content = content; armed = armed; cpu = m.cpu; place = x }) d))

-- the machine and the outcome are those
pub record AreOf (w : Moved) (n : MachineView) (outcome : EventOutcome) : Type 0 where
  pub machine : n ≡ w.next
  pub told : outcome ≡ w.outcome

moves-by : (m : MachineView) (cut : Option Cut) (e : Effect) (n : MachineView) (outcome : EventOutcome)
    → MovesBy m (Some cut) e n outcome
    → AreOf (moved_as m e (cut_steps e.steps cut m.content)) n outcome
moves-by m cut e n outcome (inl done) =
    let o = cut_steps e.steps cut m.content in
    let yes : o.answer ≡ true = done.armed_cut.answer in record {
      machine = same-machine n o.content (Some o.armed) m done.armed_cut.left done.armed_cut.next done.cpu
          (cond o.answer e.place Off) (done.place ∙ sym (ap (λ b. cond b e.place Off) yes));
      told = done.told ∙ sym (ap (λ b. cond b e.outcome event_outcomes.PowerLost) yes);
    }
moves-by m cut e n outcome (inr lost) =
    let o = cut_steps e.steps cut m.content in
    let no : o.answer ≡ false = lost.armed_cut.answer in record {
      machine = same-machine n o.content (Some o.armed) m lost.armed_cut.left lost.armed_cut.next lost.cpu
          (cond o.answer e.place Off) (lost.place ∙ sym (ap (λ b. cond b e.place Off) no));
      told = lost.told ∙ sym (ap (λ b. cond b e.outcome event_outcomes.PowerLost) no);
    }

-- the cut that is armed while the steps are done
unfoldable pub armed_as : Option Cut → EventView → Option Cut
armed_as cut (ArmsCut left within pattern) = Some (record { left = left; within = within; pattern = pattern })
armed_as cut End = cut
armed_as cut (Command command payload) = cut
armed_as cut (Uf2 block) = cut
armed_as cut PowerOn = cut
armed_as cut (Reset kind) = cut
armed_as cut Buy = cut

armed-as : (cut : Option Cut) (event : EventView) → armed_for (Some cut) event ≡ Some (armed_as cut event)
unfolding armed_as
armed-as cut (ArmsCut left within pattern) = refl
armed-as cut End = refl
armed-as cut (Command command payload) = refl
armed-as cut (Uf2 block) = refl
armed-as cut PowerOn = refl
armed-as cut (Reset kind) = refl
armed-as cut Buy = refl

pub armed-told : (m : MachineView) (cut : Option Cut) (event : EventView) → m.armed ≡ Some cut
    → armed_for m.armed event ≡ Some (armed_as cut event)
armed-told m cut event told = ap (λ a. armed_for a event) told ∙ armed-as cut event

-- what an event comes to, by the cut that is armed while its steps are done
pub moved-as : (m : MachineView) (event : EventView) (cut : Option Cut) → armed_for m.armed event ≡ Some cut
    → moved_machine m event ≡ moved_as m (effect m event) (cut_steps (effect m event).steps cut m.content)
unfolding moved_machine
moved-as m event cut is =
    ap (λ a. moved_as m (effect m event) (cut_steps (effect m event).steps (told_cut a) m.content)) is

-- an event takes a machine to no other one, with no other outcome
pub moves-only : (m : MachineView) (cut : Option Cut) (event : EventView) (n : MachineView) (outcome : EventOutcome)
    → m.armed ≡ Some cut
    → Moves m event n outcome → AreOf (moved_machine m event) n outcome
moves-only m cut event n outcome told moves =
    let a = armed-told m cut event told in
    let by : MovesBy m (Some (armed_as cut event)) (effect m event) n outcome =
    subst (λ armed. MovesBy m armed (effect m event) n outcome) a moves in
    subst (λ w. AreOf w n outcome) (sym (moved-as m event (armed_as cut event) a))
    (moves-by m (armed_as cut event) (effect m event) n outcome by)

-- afterwards the board tells its armed cut too
pub moved-told : (m : MachineView) (event : EventView)
    → (cut : Option Cut) × ((moved_machine m event).next.armed ≡ Some cut)
unfolding moved_machine
moved-told m event =
    ((cut_steps (effect m event).steps (told_cut (armed_for m.armed event)) m.content).armed, refl)

-- the machine and the outcomes are those
pub record ArePlayed (w : Played) (n : MachineView) (outcomes : List EventOutcome) : Type 0 where
  pub machine : n ≡ w.last
  pub told : outcomes ≡ w.outcomes

-- events take a machine to no other one, with no other outcomes
pub plays-only : (m : MachineView) (cut : Option Cut) (events : List EventView) (n : MachineView)
    (outcomes : List EventOutcome)
    → m.armed ≡ Some cut → Plays m events n outcomes → ArePlayed (played m events) n outcomes
plays-only m cut [] n outcomes told (same, none) = record { machine = same; told = none }
plays-only m cut (event ∷ events) n outcomes told (mid, outcome, others, moves, plays, is) =
    let one = moves-only m cut event mid outcome told moves in
    let next = moved-told m event in
    let rest = plays-only (moved_machine m event).next next.0 events n others next.1
    (subst (λ x. Plays x events n others) one.machine plays) in record {
      machine = rest.machine;
      told = is ∙ (ap (λ t. t ∷ others) one.told ∙ ap (λ ts. (moved_machine m event).outcome ∷ ts) rest.told);
    }
