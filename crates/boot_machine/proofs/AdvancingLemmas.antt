-- What an event of a host comes to, with the boot that it asks for.
use Rattle.std.proofs.Common.{◌≡◌, inr, Bool, true, false, List, ◌++◌, Option, Some, None, refl, sym, ◌∙◌, subst}
use Rattle.std.specs.Prelude.{IsTrue}
use Rattle.std.specs.Bool.{OnFalse, OnTrue}
use Rattle.std.proofs.lemmas.Option.{same_Some}
use Rattle.slot_choice.specs.declared.choice.Choice.{Choice}
use Rattle.pico_board.specs.declared.Step.{Step}
use Rattle.pico_board.specs.declared.boot.Cpu.{Cpu}
use Rattle.pico_board.specs.declared.boot.BootKind.{BootKind}
use Rattle.pico_board.specs.Content.{Content}
use Rattle.pico_board.specs.Steps.{after_all}
use Rattle.pico_board.specs.Board.{State as BoardState, DoesAll}
use Rattle.pico_board.proofs.StepLemmas.{DoesAll-append, DoesAll-append_cut}
use Rattle.boot_script.specs.Events.{EventView}
use Rattle.text_lines.specs.declared.outcome.EventOutcome.{EventOutcome}
use Rattle.boot_machine.specs.declared.parts.Parts.{Parts}
use Rattle.boot_machine.specs.declared.state.State.TheVariants as states
use Rattle.boot_machine.specs.Machines.{Host, InBootsel, MachineView, Off, StateView, Running, FromFlash, FromRam}
use Rattle.boot_machine.specs.Boots.{Effect, booted}
use Rattle.boot_machine.specs.Moves.{bootsel_effect, buy_effect, effect_in}
use Rattle.boot_machine.specs.Serving.{ServedEvent, before_boot, followed, followed_by, is_hosted, served_event}
use Rattle.boot_machine.specs.Standing.{Advances, Comes, IsBy, IsHost, IsRunning, IsServed, Serves, Stands, StandsAt, membership_of, powerless}

-- a machine in BOOTSEL has a host
pub record HasHost {B : Type 0} (p : Parts B) (place : StateView) : Type 0 where
  pub host : Host
  pub is : place ≡ InBootsel host
  pub serves : IsHost p host

pub has-host : {B : Type 0} (p : Parts B) (place : StateView) → p.state ≡ states.Bootsel → StandsAt p place
    → HasHost p place
has-host p Off is off = let no : states.Bootsel ≡ states.Off = sym is ∙ off in cc no
has-host p (InBootsel host) is at = record { host = host; is = refl; serves = at }
has-host p (Running (FromFlash choice)) is run =
    let no : states.Bootsel ≡ states.Running choice.image = sym is ∙ run.state in cc no
has-host p (Running (FromRam image)) is run =
    let no : states.Bootsel ≡ states.Running image = sym is ∙ run.state in cc no

-- the effect of an event of a host is what is served, and the boot that follows
hosted-effect : (c : Content) (cpu : Cpu) (host : Host) (event : EventView) → is_hosted event ≡ true
    → followed c cpu (served_event c cpu host event) ≡ bootsel_effect c cpu host event
hosted-effect c cpu host (EventView.Command command payload) is = refl
hosted-effect c cpu host (EventView.Uf2 block) is = refl
hosted-effect c cpu host EventView.End is = cc is
hosted-effect c cpu host (EventView.Cut left within pattern) is = cc is
hosted-effect c cpu host EventView.PowerOn is = cc is
hosted-effect c cpu host (EventView.Reset kind) is = cc is
hosted-effect c cpu host EventView.Buy is = cc is

module _ {B : Type 0} (state : B → BoardState) (history : B → List Step → Type 0) where
  -- an effect of the parts' own content is that of the machine
  pub advance-by : (old new : Parts B) (event : EventView) (outcome : EventOutcome)
      → ((m : MachineView) → Stands state old m
      → Comes state history old (effect_in (state old.board).content old.cpu m.place event) new outcome)
      → Advances state history old event new outcome
  advance-by old new event outcome comes m stands =
      inr (subst (λ c. Comes state history old (effect_in c m.cpu m.place event) new outcome) (sym stands.content)
      (subst (λ cpu. Comes state history old (effect_in (state old.board).content cpu m.place event) new outcome)
      (sym stands.cpu) (comes m stands)))

  -- the boot that is asked for is known
  pub serves-at : (old new : Parts B) (s : Content → Cpu → Host → ServedEvent) (boot known : Option BootKind)
      (outcome : EventOutcome) → boot ≡ known → Serves state history old s boot new outcome
      → Serves state history old s known new outcome
  serves-at old new s boot known outcome is serves = subst (λ b. Serves state history old s b new outcome) is serves

  -- power is lost before the boot
  lost-by : (old new : Parts B) (s : ServedEvent) (boot : Option BootKind) (c : Content) (cpu : Cpu) (outcome : EventOutcome)
      → IsBy state history old (before_boot s) false new outcome
      → IsBy state history old (followed_by c cpu s boot) false new outcome
  lost-by old new s None c cpu outcome by = by
  lost-by old new s (Some kind) c cpu outcome by = record {
    board = DoesAll-append_cut (booted (after_all c s.steps) cpu kind (Some s.outcome)).steps by.board;
    cpu = by.cpu;
    place = tt;
    told = tt;
    off = by.off;
    lost = by.lost;
  }

  -- no boot is asked for, or power was lost
  served-alone : (old new : Parts B) (s : ServedEvent) (c : Content) (cpu : Cpu) (outcome : EventOutcome)
      → IsServed state history old s None new outcome → Comes state history old (followed c cpu s) new outcome
  served-alone old new s c cpu outcome is = with_ok is.ok is.by is.asked
    where
      with_ok : (ok : Bool) → IsBy state history old (before_boot s) ok new outcome
          → OnTrue ok (None ≡ s.boot) → Comes state history old (followed c cpu s) new outcome
      with_ok true by asked =
          (true, subst (λ boot. IsBy state history old (followed_by c cpu s boot) true new outcome) asked by)
      with_ok false by asked = (false, lost-by old new s s.boot c cpu outcome by)

  -- what is done first, and then another effect
  pub by-then : (old mid new : Parts B) (first : Effect) (steps : List Step) (e : Effect) (ok : Bool)
      (told outcome : EventOutcome) → first.steps ≡ steps → IsBy state history old first true mid told
      → IsBy state history mid e ok new outcome
      → IsBy state history old (record { steps = steps ++ e.steps; place = e.place; outcome = e.outcome }) ok new outcome
  by-then old mid new first steps e ok told outcome same one two = record {
    board = DoesAll-append (subst (λ xs. DoesAll state history old.board xs true mid.board) same one.board) two.board;
    cpu = two.cpu ∙ one.cpu;
    place = two.place;
    told = two.told;
    off = two.off;
    lost = two.lost;
  }

  -- what is known once a boot is asked for
  pub asked-power : (old mid : Parts B) (s : ServedEvent) (kind : BootKind) (outcome : EventOutcome)
      → IsServed state history old s (Some kind) mid outcome → IsTrue (state mid.board).powered
  asked-power old mid s kind outcome is = with_ok is.ok is.by is.silent
    where
      with_ok : (ok : Bool) → IsBy state history old (before_boot s) ok mid outcome
          → OnFalse ok (Some kind ≡ None) → IsTrue (state mid.board).powered
      with_ok true by silent = by.board.power
      with_ok false by silent = cc silent

  -- the boot that is asked for is made
  served-boot : (old mid new : Parts B) (s : ServedEvent) (kind : BootKind) (told outcome : EventOutcome)
      → IsServed state history old s (Some kind) mid told
      → Comes state history mid (booted (state mid.board).content mid.cpu kind (Some told)) new outcome
      → Comes state history old (followed (state old.board).content old.cpu s) new outcome
  served-boot old mid new s kind told outcome is comes = with_ok is.ok is.by is.asked is.silent
    where
      with_ok : (ok : Bool) → IsBy state history old (before_boot s) ok mid told
          → OnTrue ok (Some kind ≡ s.boot) → OnFalse ok (Some kind ≡ None)
          → Comes state history old (followed (state old.board).content old.cpu s) new outcome
      with_ok false by asked silent = cc silent
      with_ok true by asked silent =
          let moved = subst (λ was. Comes state history mid
          (booted (state mid.board).content mid.cpu kind (Some was)) new outcome) by.told comes in
          let there = subst (λ cpu. Comes state history mid
          (booted (state mid.board).content cpu kind (Some s.outcome)) new outcome) by.cpu moved in
          let done = subst (λ c. Comes state history mid
          (booted c old.cpu kind (Some s.outcome)) new outcome) by.board.done there in (
            done.0,
            subst (λ boot. IsBy state history old (followed_by (state old.board).content old.cpu s boot) (done.0) new
                outcome) asked (by-then old mid new (before_boot s) s.steps _ (done.0) told outcome refl by (done.1)),
          )

  pub advances-alone : (old new : Parts B) (event : EventView) (outcome : EventOutcome) → old.state ≡ states.Bootsel
      → is_hosted event ≡ true → Serves state history old (λ c cpu host. served_event c cpu host event) None new outcome
      → Advances state history old event new outcome
  advances-alone old new event outcome is hosted serves = advance-by old new event outcome (λ m stands.
      let at = has-host old m.place is stands.place in
      let c = (state old.board).content in
      subst (λ place. Comes state history old (effect_in c old.cpu place event) new outcome) (sym at.is)
      (subst (λ e. Comes state history old e new outcome) (hosted-effect c old.cpu at.host event hosted)
      (served-alone old new (served_event c old.cpu at.host event) c old.cpu outcome (serves at.host at.serves))))

  pub advances-boot : (old mid new : Parts B) (event : EventView) (kind : BootKind) (told outcome : EventOutcome)
      → old.state ≡ states.Bootsel → is_hosted event ≡ true
      → Serves state history old (λ c cpu host. served_event c cpu host event) (Some kind) mid told
      → Comes state history mid (booted (state mid.board).content mid.cpu kind (Some told)) new outcome
      → Advances state history old event new outcome
  advances-boot old mid new event kind told outcome is hosted serves comes = advance-by old new event outcome (λ m stands.
      let at = has-host old m.place is stands.place in
      let c = (state old.board).content in
      subst (λ place. Comes state history old (effect_in c old.cpu place event) new outcome) (sym at.is)
      (subst (λ e. Comes state history old e new outcome) (hosted-effect c old.cpu at.host event hosted)
      (served-boot old mid new (served_event c old.cpu at.host event) kind told outcome (serves at.host at.serves) comes)))

  -- the choice that runs was asked to buy itself
  pub advances-buy : (old mid new : Parts B) (choice : Choice) (outcome : EventOutcome)
      → IsRunning old choice.image (Some (membership_of choice))
      → ((other : Choice) → IsRunning old other.image (Some (membership_of other)) → Some choice ≡ Some other)
      → mid ≡ powerless old
      → Comes state history mid (buy_effect (state mid.board).content mid.cpu (FromFlash choice)) new outcome
      → Advances state history old EventView.Buy new outcome
  advances-buy old mid new choice outcome runs one is comes =
      advance-by old new EventView.Buy outcome (λ m stands. by m.place stands.place)
    where
      there : Comes state history (powerless old)
          (buy_effect (state old.board).content old.cpu (FromFlash choice)) new outcome
      there = subst (λ p. Comes state history p
          (buy_effect (state p.board).content p.cpu (FromFlash choice)) new outcome) is comes

      here : (e : Effect) → Comes state history (powerless old) e new outcome
          → Comes state history old e new outcome
      here e (ok, at) = (
        ok,
        record {
          board = at.board;
          cpu = at.cpu;
          place = at.place;
          told = at.told;
          off = at.off;
          lost = at.lost;
        },
      )

      by : (place : StateView) → StandsAt old place
          → Comes state history old (effect_in (state old.board).content old.cpu place EventView.Buy) new outcome
      by Off at = let no : states.Off ≡ states.Running choice.image = sym at ∙ runs.state in cc no
      by (InBootsel host) at =
          let no : states.Bootsel ≡ states.Running choice.image = sym at.state ∙ runs.state in cc no
      by (Running (FromRam image)) at =
          let no : None ≡ Some (membership_of choice) = sym at.membership ∙ runs.membership in cc no
      by (Running (FromFlash other)) at =
          subst (λ (x : Choice). Comes state history old
          (buy_effect (state old.board).content old.cpu (FromFlash x)) new outcome)
          (same_Some choice other (one other at))
          (here (buy_effect (state old.board).content old.cpu (FromFlash choice)) there)
