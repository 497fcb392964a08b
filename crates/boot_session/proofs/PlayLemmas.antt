-- What a machine in BOOTSEL does of a script is its session, whole or until power is lost in it.
use Rattle.std.proofs.Common.{◌≡◌, ◌≢◌, ◌⊎◌, inl, inr, Bool, true, false, List, [], ◌∷◌, ◌++◌, append-nil, append_assoc, Option, Some, None, refl, sym, ap, ◌∙◌, subst, true≢false}
use Rattle.std.specs.Prelude.{MatchBool, if◌then◌else◌}
use Rattle.std.specs.List.{AllByRecursion}
use Rattle.pico_board.specs.declared.Step.{Step}
use Rattle.pico_board.specs.declared.boot.BootKind.{BootKind}
use Rattle.pico_board.specs.declared.boot.Cpu.{Cpu}
use Rattle.pico_board.specs.Content.{Content}
use Rattle.pico_board.specs.Steps.{CutOf, after_all}
use Rattle.pico_board.proofs.StepLemmas.{CutOf-append_cases, CutOf-append_left, CutOf-append_right, after_all-append}
use Rattle.boot_script.specs.Events.{EventView}
use Rattle.boot_machine.specs.Boots.{Effect, booted}
use Rattle.text_lines.specs.declared.outcome.EventOutcome.{EventOutcome}
use Rattle.boot_machine.specs.Machines.{Host, MachineView, StateView, Off, InBootsel, Running}
use Rattle.boot_machine.specs.Moves.{Moves, MovesBy, Plays, effect, effect_in}
use Rattle.boot_machine.specs.Serving.{ServedEvent, followed_by, is_hosted, served_event}
use Rattle.boot_machine.proofs.MovePlaceLemmas.{cut-moves, end-moves, off-lost, off-stays}
use Rattle.boot_session.specs.Sessions.{IsCutBoot, StaysIn, going_on, makes_boot, session_from, stays_on}

-- no event makes a boot by itself
abbrev MakeNone : List EventView → Type 0
MakeNone events = AllByRecursion (λ event. makes_boot event ≡ false) events

none-staying : (events : List EventView) (rest : Host → Type 0) (boot : Option BootKind) (place : StateView)
    → ((next : Host) → rest next → MakeNone events) → stays_on rest boot place → MakeNone events
none-staying events rest (Some kind) place ih stays = absurd stays
none-staying events rest None Off ih stays = absurd stays
none-staying events rest None (Running program) ih stays = absurd stays
none-staying events rest None (InBootsel next) ih stays = ih next stays

none-made : (events : List EventView) (c : Content) (cpu : Cpu) (host : Host) → StaysIn c cpu host events
    → MakeNone events
none-made [] c cpu host stays = tt
none-made (event ∷ events) c cpu host stays = (
  stays.0,
  go (served_event c cpu host event) (is_hosted event) stays.1 (λ d next. none-made events d cpu next),
)
  where
    go : (s : ServedEvent) (hosted : Bool)
        → MatchBool hosted (stays_on (λ next. StaysIn (after_all c s.steps) cpu next events) s.boot s.place)
        (StaysIn c cpu host events)
        → ((d : Content) (next : Host) → StaysIn d cpu next events → MakeNone events) → MakeNone events
    go s true stays ih =
        none-staying events (λ next. StaysIn (after_all c s.steps) cpu next events) s.boot s.place
        (λ next. ih (after_all c s.steps) next) stays
    go s false stays ih = ih c host stays

-- without power nothing is done
off-rest : (events : List EventView) (m n : MachineView) (outcomes : List EventOutcome) → m.place ≡ Off → MakeNone events
    → Plays m events n outcomes → (n.content ≡ m.content) × (n.place ≡ Off)
off-rest [] m n outcomes off none plays =
    (ap (λ (x : MachineView). x.content) plays.0, ap (λ (x : MachineView). x.place) plays.0 ∙ off)
off-rest (event ∷ events) m n outcomes off none (mid, outcome, others, moves, rest, all) =
    let stayed = still event none.0 moves in
    let end = off-rest events mid n others (stayed.1 ∙ off) none.1 rest in (end.0 ∙ stayed.0, end.1)
  where
    same : mid ≡ m → (mid.content ≡ m.content) × (mid.place ≡ m.place)
    same e = (ap (λ (x : MachineView). x.content) e, ap (λ (x : MachineView). x.place) e)

    still : (e : EventView) → makes_boot e ≡ false → Moves m e mid outcome
        → (mid.content ≡ m.content) × (mid.place ≡ m.place)
    still EventView.PowerOn makes moves = absurd (true≢false makes)
    still (EventView.Reset kind) makes moves = absurd (true≢false makes)
    still EventView.End makes moves = same (end-moves m mid outcome moves).0
    still EventView.Buy makes moves =
        same (off-stays m mid outcome off EventView.Buy (λ e. cc e) (λ l w p e. cc e) moves)
    still (EventView.Command command payload) makes moves =
        same (off-stays m mid outcome off (EventView.Command command payload) (λ e. cc e) (λ l w p e. cc e) moves)
    still (EventView.Uf2 block) makes moves =
        same (off-stays m mid outcome off (EventView.Uf2 block) (λ e. cc e) (λ l w p e. cc e) moves)
    still (EventView.Cut left within pattern) makes moves =
        let e = (cut-moves m mid left within pattern outcome moves).0 in
        (ap (λ (x : MachineView). x.content) e, ap (λ (x : MachineView). x.place) e)

-- The machine n is in BOOTSEL behind the session of some events, or it has no power, and lost it in
-- that session; by the sessions of these events with others behind them.
record IsBehind (c : Content) (cpu : Cpu) (joined : List EventView → List Step) (n : MachineView) : Type 0 where
  next : Host
  place : n.place ≡ InBootsel next
  content : n.content ≡ after_all c (joined [])
  processor : n.cpu ≡ cpu
  more : (rest : List EventView) → joined rest ≡ joined [] ++ session_from n.content cpu next rest

record IsLostIn (c : Content) (joined : List EventView → List Step) (n : MachineView) : Type 0 where
  off : n.place ≡ Off
  content : (rest : List EventView) → CutOf c (joined rest) n.content

abbrev Ends : Content → Cpu → (List EventView → List Step) → MachineView → Type 0
Ends c cpu joined n = IsBehind c cpu joined n ⊎ IsLostIn c joined n

abbrev before : Content → Cpu → Host → List EventView → List EventView → List Step
before c cpu host events rest = session_from c cpu host (events ++ rest)

-- steps that are done before
ends-behind : (c : Content) (cpu : Cpu) (xs : List Step) (joined : List EventView → List Step) (n : MachineView)
    → Ends (after_all c xs) cpu joined n → Ends c cpu (λ rest. xs ++ joined rest) n
ends-behind c cpu xs joined n (inl b) = inl (record {
  next = b.next;
  place = b.place;
  content = b.content ∙ sym (after_all-append c xs (joined []));
  processor = b.processor;
  more = λ rest. ap (λ ys. xs ++ ys) (b.more rest)
      ∙ sym (append_assoc xs (joined []) (session_from n.content cpu b.next rest));
})
ends-behind c cpu xs joined n (inr lost) = inr (record {
  off = lost.off;
  content = λ rest. CutOf-append_right c xs (joined rest) n.content (lost.content rest);
})

-- from a machine of the same content and processor
ends-from : (m mid n : MachineView) (c : Content) (host : Host) (events : List EventView) → mid.content ≡ c
    → mid.cpu ≡ m.cpu → Ends mid.content mid.cpu (before mid.content mid.cpu host events) n
    → Ends c m.cpu (before c m.cpu host events) n
ends-from m mid n c host events content cpu ends =
    subst (λ x. Ends x m.cpu (before x m.cpu host events) n) content
    (subst (λ p. Ends mid.content p (before mid.content p host events) n) cpu ends)

stays-at : (m mid : MachineView) (c : Content) (host : Host) (events : List EventView) → mid.content ≡ c
    → mid.cpu ≡ m.cpu → StaysIn c m.cpu host events → StaysIn mid.content mid.cpu host events
stays-at m mid c host events content cpu stays =
    subst (λ x. StaysIn x mid.cpu host events) (sym content)
    (subst (λ p. StaysIn c p host events) (sym cpu) stays)

-- what is known of the events behind the first one
abbrev Known : List EventView → MachineView → Type 0
Known events n = (m : MachineView) (host : Host) (outcomes : List EventOutcome) → m.place ≡ InBootsel host
    → StaysIn m.content m.cpu host events → Plays m events n outcomes
    → Ends m.content m.cpu (before m.content m.cpu host events) n

module _ (events : List EventView) (m mid n : MachineView) (host : Host) (outcome : EventOutcome) (others : List EventOutcome)
    (known : Known events n) (rest : Plays mid events n others) where
  -- an event that leaves the machine where it is
  passed : mid.content ≡ m.content → mid.cpu ≡ m.cpu → mid.place ≡ InBootsel host
      → StaysIn m.content m.cpu host events → Ends m.content m.cpu (before m.content m.cpu host events) n
  passed content cpu place stays =
      ends-from m mid n m.content host events content cpu
      (known mid host others place (stays-at m mid m.content host events content cpu stays) rest)

  -- an event that is served
  module _ (s : ServedEvent) where
    abbrev z : Content
    z = after_all m.content s.steps

    abbrev joined : Option BootKind → StateView → List EventView → List Step
    joined boot place behind =
        s.steps ++ going_on (λ next. session_from z m.cpu next (events ++ behind)) boot place

    hosted : (boot : Option BootKind) (place : StateView) → s.place ≡ place
        → stays_on (λ next. StaysIn z m.cpu next events) boot place
        → MovesBy m m.armed (followed_by m.content m.cpu s boot) mid outcome → Ends m.content m.cpu (joined boot place) n
    hosted (Some kind) place at stays moves = absurd stays
    hosted None Off at stays moves = absurd stays
    hosted None (Running program) at stays moves = absurd stays
    hosted None (InBootsel next) at stays (inl done) =
        ends-behind m.content m.cpu s.steps (before z m.cpu next events) n
        (ends-from m mid n z next events done.content done.cpu
        (known mid next others (done.place ∙ at) (stays-at m mid z next events done.content done.cpu stays) rest))
    hosted None (InBootsel next) at stays (inr lost) =
        let end = off-rest events mid n others lost.place (none-made events z m.cpu next stays) rest in
        inr (record {
          off = end.1;
          content = λ behind. CutOf-append_left m.content s.steps (before z m.cpu next events behind) n.content
              (subst (CutOf m.content s.steps) (sym end.0) lost.content);
        })

-- what BOOTSEL does by an event, at the place where it is
at-host : (m mid : MachineView) (host : Host) (event : EventView) (outcome : EventOutcome) → m.place ≡ InBootsel host
    → MovesBy m m.armed (effect_in m.content m.cpu m.place event) mid outcome
    → MovesBy m m.armed (effect_in m.content m.cpu (InBootsel host) event) mid outcome
at-host m mid host event outcome at moves =
    subst (λ (p : StateView). MovesBy m m.armed (effect_in m.content m.cpu p event) mid outcome) at moves

plays-end : (events : List EventView) (n : MachineView) → Known events n
plays-end [] n m host outcomes at stays plays = inl (record {
  next = host;
  place = ap (λ (x : MachineView). x.place) plays.0 ∙ at;
  content = ap (λ (x : MachineView). x.content) plays.0;
  processor = ap (λ (x : MachineView). x.cpu) plays.0;
  more = λ rest. ap (λ x. session_from x m.cpu host rest) (sym (ap (λ (x : MachineView). x.content) plays.0));
})
plays-end (EventView.PowerOn ∷ events) n m host outcomes at stays plays = absurd (true≢false stays.0)
plays-end (EventView.Reset kind ∷ events) n m host outcomes at stays plays = absurd (true≢false stays.0)
plays-end (EventView.End ∷ events) n m host outcomes at stays (mid, outcome, others, moves, rest, all) =
    let e = (end-moves m mid outcome moves).0 in
    passed events m mid n host outcome others (plays-end events n) rest (ap (λ (x : MachineView). x.content) e)
    (ap (λ (x : MachineView). x.cpu) e) (ap (λ (x : MachineView). x.place) e ∙ at) stays.1
plays-end (EventView.Cut left within pattern ∷ events) n m host outcomes at stays (mid, outcome, others, moves, rest, all) =
    let e = (cut-moves m mid left within pattern outcome moves).0 in
    passed events m mid n host outcome others (plays-end events n) rest (ap (λ (x : MachineView). x.content) e)
    (ap (λ (x : MachineView). x.cpu) e) (ap (λ (x : MachineView). x.place) e ∙ at) stays.1
plays-end (EventView.Buy ∷ events) n m host outcomes at stays (mid, outcome, others, moves, rest, all) =
    go (at-host m mid host EventView.Buy outcome at moves) (plays-end events n)
  where
    go : MovesBy m m.armed (effect_in m.content m.cpu (InBootsel host) EventView.Buy) mid outcome → Known events n
        → Ends m.content m.cpu (before m.content m.cpu host (EventView.Buy ∷ events)) n
    go (inl done) known =
        passed events m mid n host outcome others known rest done.content done.cpu done.place stays.1
    go (inr lost) known = absurd lost.content
plays-end (EventView.Command command payload ∷ events) n m host outcomes at stays (mid, outcome, others, moves, rest, all) =
    let s = served_event m.content m.cpu host (EventView.Command command payload) in
    hosted events m mid n host outcome others (plays-end events n) rest s s.boot s.place refl stays.1
    (at-host m mid host (EventView.Command command payload) outcome at moves)
plays-end (EventView.Uf2 block ∷ events) n m host outcomes at stays (mid, outcome, others, moves, rest, all) =
    let s = served_event m.content m.cpu host (EventView.Uf2 block) in
    hosted events m mid n host outcome others (plays-end events n) rest s s.boot s.place refl stays.1
    (at-host m mid host (EventView.Uf2 block) outcome at moves)

-- the session of the events alone
alone : (c : Content) (cpu : Cpu) (host : Host) (events : List EventView)
    → before c cpu host events [] ≡ session_from c cpu host events
alone c cpu host events = ap (session_from c cpu host) (append-nil events)

pub plays-whole : (m n : MachineView) (host : Host) (events : List EventView) (outcomes : List EventOutcome)
    → m.place ≡ InBootsel host → StaysIn m.content m.cpu host events → Plays m events n outcomes → n.place ≢ Off
    → n.content ≡ after_all m.content (session_from m.content m.cpu host events)
plays-whole m n host events outcomes at stays plays on = go (plays-end events n m host outcomes at stays plays)
  where
    go : Ends m.content m.cpu (before m.content m.cpu host events) n
        → n.content ≡ after_all m.content (session_from m.content m.cpu host events)
    go (inl b) = b.content ∙ ap (after_all m.content) (alone m.content m.cpu host events)
    go (inr lost) = absurd (on lost.off)

pub plays-lost : (m n : MachineView) (host : Host) (events : List EventView) (outcomes : List EventOutcome)
    → m.place ≡ InBootsel host → StaysIn m.content m.cpu host events → Plays m events n outcomes → n.place ≡ Off
    → CutOf m.content (session_from m.content m.cpu host events) n.content
plays-lost m n host events outcomes at stays plays off = go (plays-end events n m host outcomes at stays plays)
  where
    go : Ends m.content m.cpu (before m.content m.cpu host events) n
        → CutOf m.content (session_from m.content m.cpu host events) n.content
    go (inl b) = let e : InBootsel b.next ≡ Off = sym b.place ∙ off in cc
    go (inr lost) =
        subst (λ xs. CutOf m.content xs n.content) (alone m.content m.cpu host events) (lost.content [])

-- a play of one more event
split : (events : List EventView) (m n : MachineView) (event : EventView) (outcomes : List EventOutcome)
    → Plays m (events ++ event ∷ []) n outcomes
    → (mid : MachineView) × (outcome : EventOutcome) × (others : List EventOutcome) × Plays m events mid others
    × Moves mid event n outcome
split [] m n event outcomes (mid, outcome, others, moves, rest, all) =
    (m, outcome, [], (refl, refl), subst (λ (x : MachineView). Moves m event x outcome) (sym rest.0) moves)
split (first ∷ events) m n event outcomes (mid, outcome, others, moves, rest, all) =
    let behind = split events mid n event others rest in
    (behind.0, behind.1, outcome ∷ behind.2, (mid, outcome, behind.2, moves, behind.3, refl), behind.4)

going-nothing : (boot : Option BootKind) (place : StateView) → going_on (λ next. []) boot place ≡ []
going-nothing (Some kind) place = refl
going-nothing None Off = refl
going-nothing None (Running program) = refl
going-nothing None (InBootsel next) = refl

-- power is lost in what is served, or in the boot that follows
cut-served : (c : Content) (cpu : Cpu) (s : ServedEvent) (boot : Option BootKind) (d : Content)
    → CutOf c (followed_by c cpu s boot).steps d → CutOf c s.steps d ⊎ IsCutBoot (after_all c s.steps) cpu d
cut-served c cpu s None d cut = inl cut
cut-served c cpu s (Some kind) d cut =
    elim (CutOf-append_cases c s.steps (booted (after_all c s.steps) cpu kind None).steps d cut) [
      | inl here ↦ inl here
      | inr later ↦ inr (kind, later)
    ]

module _ (m n : MachineView) (host : Host) (events : List EventView) (event : EventView)
    (hosted_event : is_hosted event ≡ true) where
  abbrev whole : List Step
  whole = session_from m.content m.cpu host (events ++ event ∷ [])

  abbrev Left : Type 0
  Left = CutOf m.content whole n.content ⊎ IsCutBoot (after_all m.content whole) m.cpu n.content

  -- the session of the last event alone
  last-steps : (c : Content) (cpu : Cpu) (next : Host)
      → session_from c cpu next (event ∷ []) ≡ (served_event c cpu next event).steps
  last-steps c cpu next =
      let s = served_event c cpu next event in
      ap (λ b. if b then s.steps ++ going_on (λ later. []) s.boot s.place else []) hosted_event
      ∙ ap (λ xs. s.steps ++ xs) (going-nothing s.boot s.place) ∙ append-nil s.steps

  behind-left : (mid : MachineView) (outcome : EventOutcome) → Moves mid event n outcome → n.place ≡ Off
      → IsBehind m.content m.cpu (before m.content m.cpu host events) mid → Left
  behind-left mid outcome moves off b =
      let lost = off-lost mid n event outcome moves
      (λ e. (let wrong : InBootsel b.next ≡ Off = sym b.place ∙ e in cc)) off in
      elim (cut-served mid.content mid.cpu s s.boot n.content
      (subst (λ (e : Effect). CutOf mid.content e.steps n.content) (is event hosted_event) lost.content)) [
        | inl here ↦ inl (subst (λ xs. CutOf m.content xs n.content) (sym all)
            (CutOf-append_right m.content first s.steps n.content
            (subst (λ x. CutOf x s.steps n.content) b.content here)))
        | inr later ↦ inr (
          later.0,
          subst (λ x. CutOf x (booted x m.cpu later.0 None).steps n.content) end
              (subst (λ p. CutOf (after_all mid.content s.steps)
              (booted (after_all mid.content s.steps) p later.0 None).steps n.content) b.processor later.1),
        )
      ]
    where
      s : ServedEvent
      s = served_event mid.content mid.cpu b.next event

      first : List Step
      first = before m.content m.cpu host events []

      -- the effect of the event in BOOTSEL
      is : (e : EventView) → is_hosted e ≡ true
          → effect mid e ≡ followed_by mid.content mid.cpu (served_event mid.content mid.cpu b.next e)
          (served_event mid.content mid.cpu b.next e).boot
      is (EventView.Command command payload) h =
          ap (λ p. effect_in mid.content mid.cpu p (EventView.Command command payload)) b.place
      is (EventView.Uf2 block) h = ap (λ p. effect_in mid.content mid.cpu p (EventView.Uf2 block)) b.place
      is EventView.PowerOn h = absurd (true≢false (sym h))
      is (EventView.Reset kind) h = absurd (true≢false (sym h))
      is EventView.End h = absurd (true≢false (sym h))
      is EventView.Buy h = absurd (true≢false (sym h))
      is (EventView.Cut left within pattern) h = absurd (true≢false (sym h))

      all : whole ≡ first ++ s.steps
      all =
          b.more (event ∷ [])
          ∙ ap (λ xs. first ++ xs) (ap (λ p. session_from mid.content p b.next (event ∷ [])) (sym b.processor)
          ∙ last-steps mid.content mid.cpu b.next)

      end : after_all mid.content s.steps ≡ after_all m.content whole
      end =
          ap (λ x. after_all x s.steps) b.content ∙ sym (after_all-append m.content first s.steps)
          ∙ ap (after_all m.content) (sym all)

  lost-left : (mid : MachineView) (outcome : EventOutcome) → Moves mid event n outcome
      → IsLostIn m.content (before m.content m.cpu host events) mid → Left
  lost-left mid outcome moves lost =
      inl (subst (CutOf m.content whole)
      (sym (off-rest (event ∷ []) mid n (outcome ∷ []) lost.off (none event hosted_event, tt)
      (n, outcome, [], moves, (refl, refl), refl)).0) (lost.content (event ∷ [])))
    where
      none : (e : EventView) → is_hosted e ≡ true → makes_boot e ≡ false
      none (EventView.Command command payload) h = refl
      none (EventView.Uf2 block) h = refl
      none EventView.PowerOn h = absurd (true≢false (sym h))
      none (EventView.Reset kind) h = absurd (true≢false (sym h))
      none EventView.End h = refl
      none EventView.Buy h = refl
      none (EventView.Cut left within pattern) h = refl

  pub plays-last : (outcomes : List EventOutcome) → m.place ≡ InBootsel host → StaysIn m.content m.cpu host events
      → Plays m (events ++ event ∷ []) n outcomes → n.place ≡ Off → Left
  plays-last outcomes at stays plays off =
      let parts = split events m n event outcomes plays in
      elim (plays-end events parts.0 m host parts.2 at stays parts.3) [
        | inl b ↦ behind-left parts.0 parts.1 parts.4 off b
        | inr lost ↦ lost-left parts.0 parts.1 parts.4 lost
      ]
