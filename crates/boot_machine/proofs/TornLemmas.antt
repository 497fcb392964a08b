-- What events do to a machine whose board tells its armed cut is by the table of the machine: a told cut leaves what
-- the loss of power may leave, where the flash and the patterns are of bytes.
use Rattle.std.proofs.Common.{◌≡◌, ◌⊎◌, All, ◌<◌, ◌==◌, Bool, true, false, cond, Option, Some, None, List, [], ◌∷◌, refl, sym, ap, subst, inl, inr}
use Rattle.std.specs.List.{AllByRecursion}
use Rattle.pico_board.specs.Content.{Content}
use Rattle.pico_board.specs.declared.Step.{Step}
use Rattle.pico_board.specs.Steps.{after, after_all, CutOf}
use Rattle.pico_board.specs.Cuts.{Cut, CutOutcome, cut_by, nearer, cut_steps, unless_cut}
use Rattle.pico_board.proofs.ContentLemmas.{flash_bytes-after, flash_bytes-cut_by}
use Rattle.pico_board.proofs.TornStepLemmas.{Torn-cut_by}
use Rattle.boot_script.specs.Events.{EventView, End, Command, Uf2, Cut as ArmsCut, PowerOn, Reset, Buy}
use Rattle.text_lines.specs.declared.outcome.EventOutcome.TheVariants as event_outcomes
use Rattle.boot_machine.specs.Machines.{MachineView, Off}
use Rattle.boot_machine.specs.Boots.{Effect}
use Rattle.boot_machine.specs.Moves.{Moves, MovesBy, Plays, effect}
use Rattle.boot_machine.specs.Plays.{HasPatternBytes, IsOfBytes, IsTelling, Moved, moved_machine, moved_as, played}
use Rattle.boot_machine.proofs.PlayLemmas.{armed_as, armed-told, moved-as}

-- what a board tells of steps: all are done, or power was lost in one of them
pub record IsToldOf (c : Content) (steps : List Step) (o : CutOutcome) : Type 0 where
  pub ends : ((o.answer ≡ true) × (o.content ≡ after_all c steps))
      ⊎ ((o.answer ≡ false) × CutOf c steps o.content)
  pub pattern : HasPatternBytes o.armed
  pub flash : All (λ b. b < 256) o.content.flash

told-more : (c : Content) (step : Step) (steps : List Step) (o : CutOutcome) → IsToldOf (after c step) steps o
    → IsToldOf c (step ∷ steps) o
told-more c step steps o is = record {
  ends = elim is.ends [ inl done ↦ inl done | inr lost ↦ inr (lost.0, inr lost.1) ];
  pattern = is.pattern;
  flash = is.flash;
}

-- what a step tells by whether the armed cut falls due in it
abbrev told_step : Cut → Content → Step → Bool → CutOutcome
told_step cut c step due =
    cond due (record { answer = false; content = cut_by cut c step; armed = None })
    (record { answer = true; content = after c step; armed = Some (nearer cut) })

told-by : (cut : Cut) (c : Content) (step : Step) (steps : List Step) (b : Bool) → (cut.left == 0) ≡ b
    → cut_steps (step ∷ steps) (Some cut) c ≡ unless_cut (told_step cut c step b) (cut_steps steps)
told-by cut c step steps b is = ap (λ (due : Bool). unless_cut (told_step cut c step due) (cut_steps steps)) is

told-one : (cut : Cut) (c : Content) (step : Step) (steps : List Step) (b : Bool) → (cut.left == 0) ≡ b
    → All (λ b. b < 256) cut.pattern → All (λ b. b < 256) c.flash
    → IsToldOf (after c step) steps (cut_steps steps (Some (nearer cut)) (after c step))
    → IsToldOf c (step ∷ steps) (cut_steps (step ∷ steps) (Some cut) c)
told-one cut c step steps true is of small rest =
    subst (IsToldOf c (step ∷ steps)) (sym (told-by cut c step steps true is)) (record {
      ends = inr (refl, inl (Torn-cut_by cut c step of small));
      pattern = tt;
      flash = flash_bytes-cut_by cut c step of small;
    })
told-one cut c step steps false is of small rest =
    subst (IsToldOf c (step ∷ steps)) (sym (told-by cut c step steps false is))
    (told-more c step steps (cut_steps steps (Some (nearer cut)) (after c step)) rest)

pub told-of : (steps : List Step) (cut : Option Cut) (c : Content) → HasPatternBytes cut → All (λ b. b < 256) c.flash
    → IsToldOf c steps (cut_steps steps cut c)
told-of [] cut c of small = record { ends = inl (refl, refl); pattern = of; flash = small }
told-of (step ∷ steps) None c of small =
    told-more c step steps (cut_steps steps None (after c step))
    (told-of steps None (after c step) tt (flash_bytes-after c step small))
told-of (step ∷ steps) (Some cut) c of small =
    told-one cut c step steps (cut.left == 0) refl of small
    (told-of steps (Some (nearer cut)) (after c step) of (flash_bytes-after c step small))

-- the cut that is armed while the steps are done is of bytes
armed-bytes : (cut : Option Cut) (event : EventView) → HasPatternBytes cut → IsOfBytes event
    → HasPatternBytes (armed_as cut event)
unfolding armed_as
armed-bytes cut (ArmsCut left within pattern) of bytes = bytes
armed-bytes cut End of bytes = of
armed-bytes cut (Command command payload) of bytes = of
armed-bytes cut (Uf2 block) of bytes = of
armed-bytes cut PowerOn of bytes = of
armed-bytes cut (Reset kind) of bytes = of
armed-bytes cut Buy of bytes = of

-- what the board told is by the table, and the machine tells afterwards too
pub record IsMoved (m : MachineView) (event : EventView) (w : Moved) : Type 0 where
  pub moves : Moves m event w.next w.outcome
  pub telling : IsTelling w.next

moves-told : (m : MachineView) (cut : Option Cut) (e : Effect)
    → IsToldOf m.content e.steps (cut_steps e.steps cut m.content)
    → MovesBy m (Some cut) e (moved_as m e (cut_steps e.steps cut m.content)).next
    (moved_as m e (cut_steps e.steps cut m.content)).outcome
moves-told m cut e is = elim is.ends [
  | inl done ↦ inl (record {
    content = done.1;
    armed_cut = record { answer = done.0; left = refl; next = refl };
    cpu = refl;
    place = ap (λ b. cond b e.place Off) done.0;
    told = ap (λ b. cond b e.outcome event_outcomes.PowerLost) done.0;
  })
  | inr lost ↦ inr (record {
    content = lost.1;
    armed_cut = record { answer = lost.0; left = refl; next = refl };
    cpu = refl;
    place = ap (λ b. cond b e.place Off) lost.0;
    told = ap (λ b. cond b e.outcome event_outcomes.PowerLost) lost.0;
  })
]

pub moved-moves : (m : MachineView) (event : EventView) → IsTelling m → IsOfBytes event
    → IsMoved m event (moved_machine m event)
moved-moves m event is of =
    let a = armed-told m is.cut event is.told in
    let cut = armed_as is.cut event in
    let e = effect m event in
    let o = told-of e.steps cut m.content (armed-bytes is.cut event is.pattern of) is.flash in
    subst (IsMoved m event) (sym (moved-as m event cut a)) (record {
      moves = subst (λ armed. MovesBy m armed e (moved_as m e (cut_steps e.steps cut m.content)).next
          (moved_as m e (cut_steps e.steps cut m.content)).outcome) (sym a) (moves-told m cut e o);
      telling = record {
        cut = (cut_steps e.steps cut m.content).armed;
        told = refl;
        pattern = o.pattern;
        flash = o.flash;
      };
    })

-- the events, one after another, take the machine to the one that is played, with those texts
pub played-plays : (m : MachineView) (events : List EventView) → IsTelling m → AllByRecursion IsOfBytes events
    → Plays m events (played m events).last (played m events).outcomes
played-plays m [] is of = (refl, refl)
played-plays m (event ∷ events) is of =
    let one = moved-moves m event is of.0 in (
      (moved_machine m event).next,
      (moved_machine m event).outcome,
      (played (moved_machine m event).next events).outcomes,
      one.moves,
      played-plays (moved_machine m event).next events one.telling of.1,
      refl,
    )
