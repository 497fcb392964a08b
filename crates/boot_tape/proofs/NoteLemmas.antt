-- What is noted of an event: its own steps are the first ones.
use Rattle.std.proofs.Common.{◌≡◌, ℕ, ◌-◌, ◌≤◌, Bool, true, false, List, [], ◌∷◌, ◌++◌, length, take, Option, Some, None, refl, sym, ap, ◌∙◌, subst, arith, append-nil, length-append}
use Rattle.std.specs.Prelude.{◌||◌, if◌then◌else◌, min, nat_lt, replicate}
use Rattle.std.proofs.lemmas.List.{length-replicate, length-take}
use Rattle.pico_board.specs.declared.Step.{Step}
use Rattle.pico_board.specs.declared.boot.Cpu.{Cpu}
use Rattle.pico_board.specs.declared.boot.BootKind.{BootKind}
use Rattle.pico_board.specs.declared.boot.BootKind.TheVariants.{Normal}
use Rattle.pico_board.specs.Content.{Content}
use Rattle.pico_board.specs.Cuts.{Cut, cut_with}
use Rattle.pico_board.specs.Steps.{after_all}
use Rattle.image_def.specs.declared.started.Started.{Started}
use Rattle.boot_script.specs.Events.{EventView}
use Rattle.text_lines.specs.declared.outcome.EventOutcome.{EventOutcome}
use Rattle.text_lines.specs.declared.outcome.EventOutcome.TheVariants as event_outcomes
use Rattle.boot_machine.specs.Boots.{booted}
use Rattle.boot_machine.specs.Machines.{MachineView, StateView, Off, InBootsel, Running}
use Rattle.boot_machine.specs.Moves.{armed_for, effect, effect_in, off_effect, reset, running_effect, stays_with}
use Rattle.boot_machine.specs.Serving.{ServedEvent, followed_by, is_hosted, served_event}
use Rattle.boot_machine.specs.Plays.{moved_machine, told_cut}
use Rattle.boot_tape.specs.declared.notes.Came.{Came}
use Rattle.boot_tape.specs.declared.notes.Doer.TheVariants.{Boot, Buy, Host}
use Rattle.boot_tape.specs.declared.notes.Behind.{Behind}
use Rattle.boot_tape.specs.declared.notes.Behind.TheVariants as behinds
use Rattle.boot_tape.specs.CutMoves.{CutMoves, cut_moves}
use Rattle.boot_tape.specs.Doers.{doers, doers_behind, is_own_whole, note_doers}
use Rattle.boot_tape.specs.Examples.{noting}
use Rattle.boot_tape.specs.Traces.{IsBuy, behind, behind_asked, behind_other, behind_served, came_of, event_moves, moves_in, note_of, noted, outcome_before, own_moves, own_steps, served_in, served_steps}
use Rattle.boot_session.specs.Recordings.{first_steps}
use Rattle.boot_tape.proofs.TraceLemmas.{first-moves, first-whole, front-moves}

-- these steps come first
abbrev pub Begins : List Step → List Step → Type 0
Begins own steps = (rest : List Step) × (steps ≡ own ++ rest)

-- an event that is none of a host's is not served
pub unserved : (c : Content) (cpu : Cpu) (place : StateView) (event : EventView) → is_hosted event ≡ false
    → served_in c cpu place event ≡ None
unserved c cpu Off event other = refl
unserved c cpu (Running program) event other = refl
unserved c cpu (InBootsel host) event other =
    ap (λ (b : Bool). if b then Some (served_event c cpu host event) else None) other

followed-first : (c : Content) (cpu : Cpu) (s : ServedEvent) (boot : Option BootKind)
    → Begins s.steps (followed_by c cpu s boot).steps
followed-first c cpu s None = ([], sym (append-nil s.steps))
followed-first c cpu s (Some kind) = ((booted (after_all c s.steps) cpu kind (Some s.outcome)).steps, refl)

first-in : (c : Content) (cpu : Cpu) (place : StateView) (event : EventView)
    → Begins (served_steps (served_in c cpu place event)) (effect_in c cpu place event).steps
first-in c cpu Off event = ((off_effect c cpu event).steps, refl)
first-in c cpu (Running program) event = ((running_effect c cpu program event).steps, refl)
first-in c cpu (InBootsel host) (EventView.Command command payload) =
    let s = served_event c cpu host (EventView.Command command payload) in followed-first c cpu s s.boot
first-in c cpu (InBootsel host) (EventView.Uf2 block) =
    let s = served_event c cpu host (EventView.Uf2 block) in followed-first c cpu s s.boot
first-in c cpu (InBootsel host) (EventView.Reset kind) = ((reset c cpu kind).steps, refl)
first-in c cpu (InBootsel host) EventView.End = ([], refl)
first-in c cpu (InBootsel host) EventView.PowerOn = ([], refl)
first-in c cpu (InBootsel host) EventView.Buy = ([], refl)
first-in c cpu (InBootsel host) (EventView.Cut left within pattern) = ([], refl)

-- a host's event does its own steps first
pub own-first : (m : MachineView) (event : EventView) → Begins (own_steps m event) (effect m event).steps
own-first m (EventView.Cut left within pattern) = (
  [],
  sym (ap (λ o. served_steps o ++ []) (unserved m.content m.cpu m.place (EventView.Cut left within pattern) refl)),
)
own-first m EventView.End =
    ([], sym (ap (λ o. served_steps o ++ []) (unserved m.content m.cpu m.place EventView.End refl)))
own-first m (EventView.Command command payload) =
    first-in m.content m.cpu m.place (EventView.Command command payload)
own-first m (EventView.Uf2 block) = first-in m.content m.cpu m.place (EventView.Uf2 block)
own-first m EventView.PowerOn = first-in m.content m.cpu m.place EventView.PowerOn
own-first m (EventView.Reset kind) = first-in m.content m.cpu m.place (EventView.Reset kind)
own-first m EventView.Buy = first-in m.content m.cpu m.place EventView.Buy

-- how many of its own moves an event does, by what was traced of its own steps
pub own-count : (h own es : List Step) (kept : ℕ) (cut : Option Cut) → Begins own es → length h ≤ 262144
    → kept ≡ length (first_steps (h ++ own)) - length h
    → length (cut_moves cut es).moves ≤ 262145 - length h
    → min kept (length (cut_moves cut es).moves) ≡ length (cut_moves cut own).moves
unfolding first_steps
own-count h own es kept cut begins few is less =
    let long = length-take 262145 (h ++ own) in
    let sum = length-append h own in
    let all : length (cut_moves cut es).moves ≡ length (cut_moves cut (own ++ begins.0)).moves =
    ap (λ (xs : List Step). length (cut_moves cut xs).moves) begins.1 in
    let first = first-moves own begins.0 cut in omega (arith, few, is, less, long, sum, all, first)

same-note : (o p : EventOutcome) (a b : ℕ) (d e : Behind) (i j : ℕ) (x y : Bool) → o ≡ p → a ≡ b → d ≡ e → i ≡ j → x ≡ y
    → noting o a d i x ≡ noting p b e j y
same-note o p a b d e i j x y first second third fourth fifth =
    ap (λ z. noting z a d i x) first
    ∙ (ap (λ z. noting p z d i x) second
    ∙ (ap (λ z. noting p b z i x) third
    ∙ (ap (λ z. noting p b e z x) fourth ∙ ap (λ z. noting p b e j z) fifth)))

-- what was noted is the note of the event
pub note-is : (m : MachineView) (event : EventView) (cut : Option Cut) (came : Came) (w : CutMoves) (h : List Step)
    (count : ℕ) (whole : Bool) → told_cut (armed_for m.armed event) ≡ cut
    → w ≡ cut_moves cut (effect m event).steps → came.outcome ≡ came_of m event
    → came.own ≡ length (first_steps (h ++ own_steps m event)) - length h → length h ≤ 262144
    → length w.moves ≤ 262145 - length h → came.behind ≡ behind m event → count ≡ length w.moves → whole ≡ w.whole
    → noting came.outcome (min came.own count) came.behind count whole ≡ note_of m event
note-is m event cut came w h count whole armed w_is outcome own few less behind_is count_is whole_is =
    let es = (effect m event).steps in
    let here : w ≡ cut_moves (told_cut (armed_for m.armed event)) es =
    w_is ∙ ap (λ x. cut_moves x es) (sym armed) in
    let moves : count ≡ length (event_moves m event) = count_is ∙ ap (λ (x : CutMoves). length x.moves) here in
    let most : length (event_moves m event) ≤ 262145 - length h =
    subst (λ (x : CutMoves). length x.moves ≤ 262145 - length h) here less in
    same-note came.outcome (came_of m event) (min came.own count) (length (own_moves m event)) came.behind (behind m event) count
    (length (event_moves m event)) whole (cut_moves (told_cut (armed_for m.armed event)) es).whole outcome
    (ap (min came.own) moves
    ∙ own-count h (own_steps m event) es came.own (told_cut (armed_for m.armed event)) (own-first m event) few own most)
    behind_is moves (whole_is ∙ ap (λ (x : CutMoves). x.whole) here)

-- nothing is behind an event that arms a cut
cut-alone : (place : StateView) (n : ℕ) (within : Bool) (pattern : List ℕ)
    → behind_other place (EventView.Cut n within pattern) ≡ behinds.Nothing
cut-alone Off n within pattern = refl
cut-alone (InBootsel host) n within pattern = refl
cut-alone (Running program) n within pattern = refl

-- the note of an event that arms a cut
pub note-armed : (m : MachineView) (n : ℕ) (within : Bool) (pattern : List ℕ)
    → noting event_outcomes.CutArmed 0 behinds.Nothing 0 true ≡ note_of m (EventView.Cut n within pattern)
note-armed m n within pattern =
    let event : EventView = EventView.Cut n within pattern in
    sym (ap (λ o. noting (outcome_before o (stays_with m.place event_outcomes.CutArmed))
    (length (cut_moves (told_cut (armed_for m.armed event)) (served_steps o)).moves)
    (behind_served o m.place event) 0 true)
    (unserved m.content m.cpu m.place event refl)
    ∙ ap (λ b. noting event_outcomes.CutArmed 0 b 0 true) (cut-alone m.place n within pattern))

-- what is behind the steps that BOOTSEL does for a host's event
followed-nothing : (c : Content) (cpu : Cpu) (s : ServedEvent) (boot : Option BootKind)
    → behind_asked boot ≡ behinds.Nothing → (followed_by c cpu s boot).steps ≡ s.steps
followed-nothing c cpu s None is = refl
followed-nothing c cpu s (Some kind) is = cc

followed-boot : (c : Content) (cpu : Cpu) (s : ServedEvent) (boot : Option BootKind) (kind : BootKind)
    → behind_asked boot ≡ behinds.Boot kind
    → (followed_by c cpu s boot).steps ≡ s.steps ++ (booted (after_all c s.steps) cpu kind None).steps
followed-boot c cpu s None kind is = cc
followed-boot c cpu s (Some k) kind is =
    let same : k ≡ kind = cc in ap (λ x. s.steps ++ (booted (after_all c s.steps) cpu x None).steps) same

-- what is behind an event, in a place
abbrev behind_at : Content → Cpu → StateView → EventView → Behind
behind_at c cpu place event = behind_served (served_in c cpu place event) place event

abbrev own_at : Content → Cpu → StateView → EventView → List Step
own_at c cpu place event = served_steps (served_in c cpu place event)

nothing-at : (c : Content) (cpu : Cpu) (place : StateView) (event : EventView)
    → behind_at c cpu place event ≡ behinds.Nothing
    → (effect_in c cpu place event).steps ≡ own_at c cpu place event
nothing-at c cpu Off EventView.PowerOn is = cc
nothing-at c cpu Off EventView.End is = refl
nothing-at c cpu Off (EventView.Command command payload) is = refl
nothing-at c cpu Off (EventView.Uf2 block) is = refl
nothing-at c cpu Off (EventView.Cut left within pattern) is = refl
nothing-at c cpu Off (EventView.Reset kind) is = refl
nothing-at c cpu Off EventView.Buy is = refl
nothing-at c cpu (InBootsel host) (EventView.Command command payload) is =
    let s = served_event c cpu host (EventView.Command command payload) in followed-nothing c cpu s s.boot is
nothing-at c cpu (InBootsel host) (EventView.Uf2 block) is =
    let s = served_event c cpu host (EventView.Uf2 block) in followed-nothing c cpu s s.boot is
nothing-at c cpu (InBootsel host) (EventView.Reset kind) is = cc
nothing-at c cpu (InBootsel host) EventView.End is = refl
nothing-at c cpu (InBootsel host) EventView.PowerOn is = refl
nothing-at c cpu (InBootsel host) EventView.Buy is = refl
nothing-at c cpu (InBootsel host) (EventView.Cut left within pattern) is = refl
nothing-at c cpu (Running program) (EventView.Reset kind) is = cc
nothing-at c cpu (Running program) EventView.Buy is = cc
nothing-at c cpu (Running program) EventView.End is = refl
nothing-at c cpu (Running program) EventView.PowerOn is = refl
nothing-at c cpu (Running program) (EventView.Command command payload) is = refl
nothing-at c cpu (Running program) (EventView.Uf2 block) is = refl
nothing-at c cpu (Running program) (EventView.Cut left within pattern) is = refl

-- an event does nothing but its own steps where nothing is behind these
pub nothing-behind : (m : MachineView) (event : EventView) → behind m event ≡ behinds.Nothing
    → (effect m event).steps ≡ own_steps m event
nothing-behind m EventView.End is = sym (ap served_steps (unserved m.content m.cpu m.place EventView.End refl))
nothing-behind m (EventView.Cut left within pattern) is =
    sym (ap served_steps (unserved m.content m.cpu m.place (EventView.Cut left within pattern) refl))
nothing-behind m (EventView.Command command payload) is =
    nothing-at m.content m.cpu m.place (EventView.Command command payload) is
nothing-behind m (EventView.Uf2 block) is = nothing-at m.content m.cpu m.place (EventView.Uf2 block) is
nothing-behind m EventView.PowerOn is = nothing-at m.content m.cpu m.place EventView.PowerOn is
nothing-behind m (EventView.Reset kind) is = nothing-at m.content m.cpu m.place (EventView.Reset kind) is
nothing-behind m EventView.Buy is = nothing-at m.content m.cpu m.place EventView.Buy is

-- its own steps, and those of a boot of this kind behind them
abbrev booted_behind : Content → Cpu → List Step → BootKind → List Step
booted_behind c cpu own kind = own ++ (booted (after_all c own) cpu kind None).steps

reset-kind : (c : Content) (cpu : Cpu) (k kind : BootKind) → behinds.Boot k ≡ behinds.Boot kind
    → (booted c cpu k None).steps ≡ (booted c cpu kind None).steps
reset-kind c cpu k kind is = let same : k ≡ kind = cc in ap (λ x. (booted c cpu x None).steps) same

boot-at : (c : Content) (cpu : Cpu) (place : StateView) (event : EventView) (kind : BootKind)
    → behind_at c cpu place event ≡ behinds.Boot kind
    → (effect_in c cpu place event).steps ≡ booted_behind c cpu (own_at c cpu place event) kind
boot-at c cpu Off EventView.PowerOn kind is = reset-kind c cpu Normal kind is
boot-at c cpu Off EventView.End kind is = cc
boot-at c cpu Off (EventView.Command command payload) kind is = cc
boot-at c cpu Off (EventView.Uf2 block) kind is = cc
boot-at c cpu Off (EventView.Cut left within pattern) kind is = cc
boot-at c cpu Off (EventView.Reset k) kind is = cc
boot-at c cpu Off EventView.Buy kind is = cc
boot-at c cpu (InBootsel host) (EventView.Command command payload) kind is =
    let s = served_event c cpu host (EventView.Command command payload) in followed-boot c cpu s s.boot kind is
boot-at c cpu (InBootsel host) (EventView.Uf2 block) kind is =
    let s = served_event c cpu host (EventView.Uf2 block) in followed-boot c cpu s s.boot kind is
boot-at c cpu (InBootsel host) (EventView.Reset k) kind is = reset-kind c cpu k kind is
boot-at c cpu (InBootsel host) EventView.End kind is = cc
boot-at c cpu (InBootsel host) EventView.PowerOn kind is = cc
boot-at c cpu (InBootsel host) EventView.Buy kind is = cc
boot-at c cpu (InBootsel host) (EventView.Cut left within pattern) kind is = cc
boot-at c cpu (Running program) (EventView.Reset k) kind is = reset-kind c cpu k kind is
boot-at c cpu (Running program) EventView.Buy kind is = cc
boot-at c cpu (Running program) EventView.End kind is = cc
boot-at c cpu (Running program) EventView.PowerOn kind is = cc
boot-at c cpu (Running program) (EventView.Command command payload) kind is = cc
boot-at c cpu (Running program) (EventView.Uf2 block) kind is = cc
boot-at c cpu (Running program) (EventView.Cut left within pattern) kind is = cc

asked-no-buy : (boot : Option BootKind) (image : Started) → behind_asked boot ≡ behinds.Buy image → ⊥
asked-no-buy None image is = cc
asked-no-buy (Some kind) image is = cc

-- nothing is behind an event that no machine serves, boots by, or buys by
silent-at : (c : Content) (cpu : Cpu) (place : StateView) (event : EventView) → is_hosted event ≡ false
    → behind_other place event ≡ behinds.Nothing → behind_at c cpu place event ≡ behinds.Nothing
silent-at c cpu place event other is =
    ap (λ o. behind_served o place event) (unserved c cpu place event other) ∙ is

end-alone : (place : StateView) → behind_other place EventView.End ≡ behinds.Nothing
end-alone Off = refl
end-alone (InBootsel host) = refl
end-alone (Running program) = refl

-- a boot of this kind is behind an event's own steps
pub boot-behind : (m : MachineView) (event : EventView) (kind : BootKind) → behind m event ≡ behinds.Boot kind
    → (effect m event).steps ≡ booted_behind m.content m.cpu (own_steps m event) kind
boot-behind m EventView.End kind is =
    let none = silent-at m.content m.cpu m.place EventView.End refl (end-alone m.place) in cc
boot-behind m (EventView.Cut left within pattern) kind is =
    let event : EventView = EventView.Cut left within pattern in
    let none = silent-at m.content m.cpu m.place event refl (cut-alone m.place left within pattern) in cc
boot-behind m (EventView.Command command payload) kind is =
    boot-at m.content m.cpu m.place (EventView.Command command payload) kind is
boot-behind m (EventView.Uf2 block) kind is = boot-at m.content m.cpu m.place (EventView.Uf2 block) kind is
boot-behind m EventView.PowerOn kind is = boot-at m.content m.cpu m.place EventView.PowerOn kind is
boot-behind m (EventView.Reset k) kind is = boot-at m.content m.cpu m.place (EventView.Reset k) kind is
boot-behind m EventView.Buy kind is = boot-at m.content m.cpu m.place EventView.Buy kind is

-- what runs buys itself
buy-at : (c : Content) (cpu : Cpu) (armed : Option (Option Cut)) (place : StateView) (event : EventView)
    (image : Started) → behind_at c cpu place event ≡ behinds.Buy image
    → IsBuy (record { content = c; armed = armed; cpu = cpu; place = place }) event image
buy-at c cpu armed Off EventView.PowerOn image is = cc
buy-at c cpu armed Off EventView.End image is = cc
buy-at c cpu armed Off (EventView.Command command payload) image is = cc
buy-at c cpu armed Off (EventView.Uf2 block) image is = cc
buy-at c cpu armed Off (EventView.Cut left within pattern) image is = cc
buy-at c cpu armed Off (EventView.Reset k) image is = cc
buy-at c cpu armed Off EventView.Buy image is = cc
buy-at c cpu armed (InBootsel host) (EventView.Command command payload) image is =
    absurd (asked-no-buy (served_event c cpu host (EventView.Command command payload)).boot image is)
buy-at c cpu armed (InBootsel host) (EventView.Uf2 block) image is =
    absurd (asked-no-buy (served_event c cpu host (EventView.Uf2 block)).boot image is)
buy-at c cpu armed (InBootsel host) (EventView.Reset k) image is = cc
buy-at c cpu armed (InBootsel host) EventView.End image is = cc
buy-at c cpu armed (InBootsel host) EventView.PowerOn image is = cc
buy-at c cpu armed (InBootsel host) EventView.Buy image is = cc
buy-at c cpu armed (InBootsel host) (EventView.Cut left within pattern) image is = cc
buy-at c cpu armed (Running program) (EventView.Reset k) image is = cc
buy-at c cpu armed (Running program) EventView.Buy image is =
    record { program = program; runs = refl; same = cc; own = refl; steps = refl }
buy-at c cpu armed (Running program) EventView.End image is = cc
buy-at c cpu armed (Running program) EventView.PowerOn image is = cc
buy-at c cpu armed (Running program) (EventView.Command command payload) image is = cc
buy-at c cpu armed (Running program) (EventView.Uf2 block) image is = cc
buy-at c cpu armed (Running program) (EventView.Cut left within pattern) image is = cc

pub buy-behind : (m : MachineView) (event : EventView) (image : Started) → behind m event ≡ behinds.Buy image
    → IsBuy m event image
buy-behind m event image is = buy-at m.content m.cpu m.armed m.place event image is

-- the first moves of an event are its own
pub own-moves : (m : MachineView) (event : EventView)
    → take (length (own_moves m event)) (event_moves m event) ≡ own_moves m event
own-moves m event =
    let own = own_steps m event in
    let begins = own-first m event in
    let cut = told_cut (armed_for m.armed event) in
    ap (λ (xs : List Step). take (length (cut_moves cut own).moves) (cut_moves cut xs).moves) begins.1
    ∙ front-moves own begins.0 cut

pub own-whole : (m : MachineView) (event : EventView)
    → is_own_whole (note_of m event) ≡ (cut_moves (told_cut (armed_for m.armed event)) (own_steps m event)).whole
own-whole m event =
    let own = own_steps m event in
    let begins = own-first m event in
    let cut = told_cut (armed_for m.armed event) in
    ap (λ (xs : List Step). (cut_moves cut xs).whole
    || nat_lt (length (cut_moves cut own).moves) (length (cut_moves cut xs).moves)) begins.1
    ∙ first-whole own begins.0 cut

-- each move behind the own ones has its doer
behind-count : (m : MachineView) (event : EventView) (b : Behind) → behind m event ≡ b
    → length (doers_behind b (length (event_moves m event) - length (own_moves m event)))
    ≡ length (event_moves m event) - length (own_moves m event)
behind-count m event behinds.Nothing is =
    let same = ap (λ (xs : List Step). length (cut_moves (told_cut (armed_for m.armed event)) xs).moves)
    (nothing-behind m event is) in omega (arith, same)
behind-count m event (behinds.Boot kind) is = length-replicate _ Boot
behind-count m event (behinds.Buy image) is = length-replicate _ Buy

-- each move has its doer
note-count : (m : MachineView) (event : EventView)
    → length (note_doers (note_of m event)) ≡ length (event_moves m event)
note-count m event =
    let own = own_steps m event in
    let begins = own-first m event in
    let cut = told_cut (armed_for m.armed event) in
    let n = length (own_moves m event) in
    let k = length (event_moves m event) in
    let behind_them = behind-count m event (behind m event) refl in
    let first : n ≡ min (length own) k =
    first-moves own begins.0 cut
    ∙ ap (λ (xs : List Step). min (length own) (length (cut_moves cut xs).moves)) (sym begins.1) in
    let sum = length-append (replicate n Host) (doers_behind (behind m event) (k - n)) in
    let one = length-replicate n Host in omega (arith, first, sum, one, behind_them)

pub doers-count : (m : MachineView) (events : List EventView)
    → length (doers (noted m events)) ≡ length (moves_in m events)
doers-count m [] = refl
doers-count m (event ∷ events) =
    let next = (moved_machine m event).next in
    let rest = doers-count next events in
    let both = length-append (note_doers (note_of m event)) (doers (noted next events)) in
    let moves = length-append (event_moves m event) (moves_in next events) in
    let here = note-count m event in omega (arith, rest, both, moves, here)

-- power that comes back boots where it does a step
power-behind : (c : Content) (cpu : Cpu) (place : StateView) (step : Step) (steps : List Step)
    → (effect_in c cpu place EventView.PowerOn).steps ≡ step ∷ steps
    → behind_other place EventView.PowerOn ≡ behinds.Boot Normal
power-behind c cpu Off step steps does = refl
power-behind c cpu (InBootsel host) step steps does = cc
power-behind c cpu (Running program) step steps does = cc

-- the first step of a boot is cut
pub boot-cut : (m : MachineView) (step : Step) (steps : List Step) (within : Bool) (pattern : List ℕ)
    → m.armed ≡ Some (Some (cut_with 0 within pattern)) → (effect m EventView.PowerOn).steps ≡ step ∷ steps
    → note_of m EventView.PowerOn ≡ noting (effect m EventView.PowerOn).outcome 0 (behinds.Boot Normal) 1 false
boot-cut m step steps within pattern armed does =
    let e = effect m EventView.PowerOn in
    let cut = told_cut m.armed in
    ap (λ o. noting (outcome_before o e) (length (cut_moves cut (served_steps o)).moves)
    (behind_served o m.place EventView.PowerOn) (length (cut_moves cut e.steps).moves) (cut_moves cut e.steps).whole)
    (unserved m.content m.cpu m.place EventView.PowerOn refl)
    ∙ (ap (λ b. noting e.outcome 0 b (length (cut_moves cut e.steps).moves) (cut_moves cut e.steps).whole)
    (power-behind m.content m.cpu m.place step steps does)
    ∙ (ap (λ x. noting e.outcome 0 (behinds.Boot Normal) (length (cut_moves (told_cut x) e.steps).moves)
    (cut_moves (told_cut x) e.steps).whole) armed
    ∙ ap (λ (xs : List Step). noting e.outcome 0 (behinds.Boot Normal) (length (cut_moves (Some (cut_with 0 within pattern)) xs).moves)
    (cut_moves (Some (cut_with 0 within pattern)) xs).whole) does))
