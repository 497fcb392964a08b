-- The law of a session is the one that its sentences allow; what it brings to the steps.
use Rattle.std.proofs.Common.{◌≡◌, ◌≢◌, ◌⊎◌, inl, inr, ℕ, not, Bool, true, false, List, [], ◌∷◌, Option, Some, None, refl, sym, ap, ◌∙◌, subst}
use Rattle.std.specs.Prelude.{◌↔◌, if◌then◌else◌, is_none, is_some}
use Rattle.std.specs.List.{list_all}
use Rattle.std.proofs.lemmas.Bool.{and_from, and_parts, eqb-true}
use Rattle.std.proofs.lemmas.Option.{same_Some}
use Rattle.pico_board.specs.declared.Step.{Step}
use Rattle.pico_board.specs.declared.boot.Cpu.{Cpu}
use Rattle.pico_board.specs.declared.boot.BootKind.TheVariants.{Normal}
use Rattle.pico_board.specs.declared.window.Window.{Window}
use Rattle.pico_board.specs.Content.{Content, IsContent}
use Rattle.pico_board.specs.Sessions.{Confined, Gated, Unfinished}
use Rattle.pico_board.specs.Steps.{CutOf, after_all}
use Rattle.pico_board.proofs.ConfinementLemmas.{confined-after_all}
use Rattle.slot_choice.specs.declared.choice.Choice.{Choice}
use Rattle.boot_rules.specs.AccidentalImages.{HasNoAccidentalImage}
use Rattle.boot_rules.specs.declared.decision.Decision.{Decision}
use Rattle.boot_rules.specs.declared.decision.Decision.TheVariants.{Start, Bootsel}
use Rattle.boot_rules.specs.declared.tables.Found.{Found}
use Rattle.boot_rules.specs.Choosing.{decision_in}
use Rattle.boot_rules.specs.Chosen.{Chosen}
use Rattle.boot_rules.specs.Tables.{table_in}
use Rattle.boot_rules.proofs.DecisionLemmas.{chosen-decision, decision-chosen}
use Rattle.boot_script.specs.Events.{EventView}
use Rattle.boot_session.specs.CutSessions.{StartsFinished, StartsOutside, StartsThere}
use Rattle.boot_session.specs.Slots.{is_confined, session_slot}
use Rattle.boot_session.proofs.ConfinedLaws.{confined-session, table-stays}
use Rattle.boot_session.proofs.GatedLaws.{gated-decision}
use Rattle.boot_session.proofs.SlotLemmas.{is-confined, one-slot, slot-found, slot-is}
use Rattle.boot_sweep.specs.Refusals.{KeepsToSlot, StartsIn, gains_table, is_start_in, ungated_in}
use Rattle.boot_sweep.proofs.GateLemmas.{gated-none, none-gated}
use Rattle.boot_sweep.proofs.KnownLemmas.{all-confined}
use Rattle.boot_sweep.proofs.RefusalCaseLemmas.{in-start}
use Rattle.check_laws.specs.declared.found.SessionFound.{SessionFound}
use Rattle.check_laws.specs.declared.found.SessionFound.TheVariants as found
use Rattle.check_laws.specs.declared.found.Reason.TheVariants as reasons
use Rattle.check_laws.specs.Hosts.{first_content}
use Rattle.check_laws.specs.Kept.{held_law, slot_law}
use Rattle.check_laws.specs.SessionLaws.{Holds, IsSessionLaw, IsStepsLaw, IsWritten, host_steps}
use Rattle.check_laws.specs.Staged.{Staged}

all-list : (w : Window) (steps : List Step) → Confined steps w → list_all (is_confined w) steps ≡ true
all-list w [] all = refl
all-list w (step ∷ steps) all = and_from _ _ (is-confined w step all.0) (all-list w steps all.1)

false-true : (b : Bool) → b ≡ false → b ≡ true → ⊥
false-true b e f = let g : false ≡ true = sym e ∙ f in cc

-- the decision is a start in the window
start-in : (w : Window) (d : Decision) → is_start_in w d ≡ true
    → (choice : Choice) × (d ≡ Start choice) × (choice.image.window ≡ w)
start-in w (Bootsel fall) e = cc
start-in w (Start choice) e =
    let p = and_parts _ _ e in (
      choice,
      refl,
      of-parts choice.image.window.start choice.image.window.len w.start w.len (eqb-true _ _ p.0)
          (eqb-true _ _ p.1),
    )
  where
    of-parts : (a b c d : ℕ) → a ≡ c → b ≡ d
        → (let v : Window = record { start = a; len = b } in let w : Window = record { start = c; len = d } in v ≡ w)
    of-parts a b c d e f = cc

-- a normal boot starts an image of the window, as the function sees it
pub starts-is : (c : Content) (cpu : Cpu) (w : Window) (d : Decision) → d ≡ decision_in c cpu Normal
    → (is_start_in w d ≡ true) ↔ StartsIn c cpu w
starts-is c cpu w d is = (
  λ e.
      let s = start-in w d e in
      (s.0, subst (λ d. Chosen c cpu Normal d) (sym is ∙ s.1) (decision-chosen c cpu Normal), s.2),
  λ s. in-start w d s.0 (is ∙ sym (chosen-decision c cpu Normal (Start s.0) s.1)) s.2,
)

outside : (c : Content) (cpu : Cpu) (w : Window) → (StartsIn c cpu w → ⊥) → StartsOutside w (decision_in c cpu Normal)
outside c cpu w none = go (decision_in c cpu Normal) refl
  where
    go : (d : Decision) → decision_in c cpu Normal ≡ d → StartsOutside w d
    go (Start choice) is =
        λ (there : choice.image.window ≡ w).
        none (choice, subst (λ d. Chosen c cpu Normal d) is (decision-chosen c cpu Normal), there)
    go (Bootsel fall) is = tt

-- the window that the steps keep to
pub keeps-is : (c : Content) (cpu : Cpu) (steps : List Step) (w : Window) → session_slot c cpu steps ≡ Some w
    → list_all (is_confined w) steps ≡ true → KeepsToSlot c cpu steps w
keeps-is c cpu steps w at all = record { slot = slot-found c cpu steps w at; confined = all-confined w steps all }

pub none-kept : (c : Content) (cpu : Cpu) (steps : List Step) (right : IsContent c) → session_slot c cpu steps ≡ None
    → (w : Window) → KeepsToSlot c cpu steps w → ⊥
none-kept c cpu steps right at w k = let e : None ≡ Some w = sym at ∙ slot-is c cpu steps w right k.slot in cc

pub not-kept : (c : Content) (cpu : Cpu) (steps : List Step) (v : Window) (right : IsContent c)
    → session_slot c cpu steps ≡ Some v → list_all (is_confined v) steps ≡ false
    → (w : Window) → KeepsToSlot c cpu steps w → ⊥
not-kept c cpu steps v right at some w k =
    let same : v ≡ w = same_Some v w (sym at ∙ slot-is c cpu steps w right k.slot) in
    false-true (list_all (is_confined v) steps) some
    (subst (λ x. list_all (is_confined x) steps ≡ true) (sym same) (all-list w steps k.confined))

-- a table that was there stays; where there was none, there may be one
pub table-kept : (c : Content) (cpu : Cpu) (steps : List Step) (w : Window) (o : Option Found) → IsContent c
    → KeepsToSlot c cpu steps w → table_in c ≡ o → (o ≡ None → table_in (after_all c steps) ≡ None)
    → table_in (after_all c steps) ≡ table_in c
table-kept c cpu steps w None right k is none = none refl ∙ sym is
table-kept c cpu steps w (Some found) right k is none =
    table-stays c w cpu right k.slot.boot_member (after_all c steps)
    (confined-after_all c w steps k.confined) found is ∙ sym is

module _ (c : Content) (cpu : Cpu) (steps : List Step) (right : IsContent c) where
  one-window : (w v : Window) → KeepsToSlot c cpu steps w → KeepsToSlot c cpu steps v → w ≡ v
  one-window w v a b = one-slot c cpu steps w v right a.slot b.slot

  -- there is no other law of the steps
  pub one-steps-law : (a b : SessionFound) → IsStepsLaw c cpu steps a → IsStepsLaw c cpu steps b → a ≡ b
  one-steps-law (found.Staged w) (found.Staged v) x y = ap (λ (u : Window). found.Staged u) (one-window w v x.0.keeps y.0.keeps)
  one-steps-law (found.Staged w) (found.Gated v) x y =
      absurd (y.2 (subst (λ u. Staged c steps u cpu) (one-window w v x.0.keeps y.0.keeps) x.1))
  one-steps-law (found.Staged w) (found.Confined v) x y =
      absurd (y.3 (subst (λ u. Staged c steps u cpu) (one-window w v x.0.keeps y.0.keeps) x.1))
  one-steps-law (found.Staged w) (found.Open reasons.Order) x y =
      absurd (y.3 (subst (λ u. Staged c steps u cpu) (one-window w y.0 x.0.keeps y.1.keeps) x.1))
  one-steps-law (found.Staged w) (found.Open reasons.Windows) x y =
      absurd (y w x.0.keeps)
  one-steps-law (found.Staged w) (found.Open reasons.Running) x y =
      absurd (x.0.elsewhere (subst (λ u. StartsIn c cpu u) (one-window y.0 w y.1 x.0.keeps) y.2))
  one-steps-law (found.Staged w) (found.Open reasons.Table) x y =
      absurd (y.3 x.0.table)
  one-steps-law (found.Gated w) (found.Staged v) x y =
      absurd (x.2 (subst (λ u. Staged c steps u cpu) (one-window v w y.0.keeps x.0.keeps) y.1))
  one-steps-law (found.Gated w) (found.Gated v) x y = ap (λ (u : Window). found.Gated u) (one-window w v x.0.keeps y.0.keeps)
  one-steps-law (found.Gated w) (found.Confined v) x y =
      absurd (y.2 (subst (λ u. Gated steps u) (one-window w v x.0.keeps y.0.keeps) x.1))
  one-steps-law (found.Gated w) (found.Open reasons.Order) x y =
      absurd (y.4 (subst (λ u. Gated steps u) (one-window w y.0 x.0.keeps y.1.keeps) x.1))
  one-steps-law (found.Gated w) (found.Open reasons.Windows) x y =
      absurd (y w x.0.keeps)
  one-steps-law (found.Gated w) (found.Open reasons.Running) x y =
      absurd (x.0.elsewhere (subst (λ u. StartsIn c cpu u) (one-window y.0 w y.1 x.0.keeps) y.2))
  one-steps-law (found.Gated w) (found.Open reasons.Table) x y =
      absurd (y.3 x.0.table)
  one-steps-law (found.Confined w) (found.Staged v) x y =
      absurd (x.3 (subst (λ u. Staged c steps u cpu) (one-window v w y.0.keeps x.0.keeps) y.1))
  one-steps-law (found.Confined w) (found.Gated v) x y =
      absurd (x.2 (subst (λ u. Gated steps u) (one-window v w y.0.keeps x.0.keeps) y.1))
  one-steps-law (found.Confined w) (found.Confined v) x y = ap (λ (u : Window). found.Confined u) (one-window w v x.0.keeps y.0.keeps)
  one-steps-law (found.Confined w) (found.Open reasons.Order) x y =
      absurd (x.1 y.2)
  one-steps-law (found.Confined w) (found.Open reasons.Windows) x y =
      absurd (y w x.0.keeps)
  one-steps-law (found.Confined w) (found.Open reasons.Running) x y =
      absurd (x.0.elsewhere (subst (λ u. StartsIn c cpu u) (one-window y.0 w y.1 x.0.keeps) y.2))
  one-steps-law (found.Confined w) (found.Open reasons.Table) x y =
      absurd (y.3 x.0.table)
  one-steps-law (found.Open reasons.Order) (found.Staged v) x y =
      absurd (x.3 (subst (λ u. Staged c steps u cpu) (one-window v x.0 y.0.keeps x.1.keeps) y.1))
  one-steps-law (found.Open reasons.Order) (found.Gated v) x y =
      absurd (x.4 (subst (λ u. Gated steps u) (one-window v x.0 y.0.keeps x.1.keeps) y.1))
  one-steps-law (found.Open reasons.Order) (found.Confined v) x y =
      absurd (y.1 x.2)
  one-steps-law (found.Open reasons.Order) (found.Open reasons.Order) x y = refl
  one-steps-law (found.Open reasons.Order) (found.Open reasons.Windows) x y =
      absurd (y x.0 x.1.keeps)
  one-steps-law (found.Open reasons.Order) (found.Open reasons.Running) x y =
      absurd (x.1.elsewhere (subst (λ u. StartsIn c cpu u) (one-window y.0 x.0 y.1 x.1.keeps) y.2))
  one-steps-law (found.Open reasons.Order) (found.Open reasons.Table) x y =
      absurd (y.3 x.1.table)
  one-steps-law (found.Open reasons.Windows) (found.Staged v) x y =
      absurd (x v y.0.keeps)
  one-steps-law (found.Open reasons.Windows) (found.Gated v) x y =
      absurd (x v y.0.keeps)
  one-steps-law (found.Open reasons.Windows) (found.Confined v) x y =
      absurd (x v y.0.keeps)
  one-steps-law (found.Open reasons.Windows) (found.Open reasons.Order) x y =
      absurd (x y.0 y.1.keeps)
  one-steps-law (found.Open reasons.Windows) (found.Open reasons.Windows) x y = refl
  one-steps-law (found.Open reasons.Windows) (found.Open reasons.Running) x y =
      absurd (x y.0 y.1)
  one-steps-law (found.Open reasons.Windows) (found.Open reasons.Table) x y =
      absurd (x y.0 y.1)
  one-steps-law (found.Open reasons.Running) (found.Staged v) x y =
      absurd (y.0.elsewhere (subst (λ u. StartsIn c cpu u) (one-window x.0 v x.1 y.0.keeps) x.2))
  one-steps-law (found.Open reasons.Running) (found.Gated v) x y =
      absurd (y.0.elsewhere (subst (λ u. StartsIn c cpu u) (one-window x.0 v x.1 y.0.keeps) x.2))
  one-steps-law (found.Open reasons.Running) (found.Confined v) x y =
      absurd (y.0.elsewhere (subst (λ u. StartsIn c cpu u) (one-window x.0 v x.1 y.0.keeps) x.2))
  one-steps-law (found.Open reasons.Running) (found.Open reasons.Order) x y =
      absurd (y.1.elsewhere (subst (λ u. StartsIn c cpu u) (one-window x.0 y.0 x.1 y.1.keeps) x.2))
  one-steps-law (found.Open reasons.Running) (found.Open reasons.Windows) x y =
      absurd (y x.0 x.1)
  one-steps-law (found.Open reasons.Running) (found.Open reasons.Running) x y = refl
  one-steps-law (found.Open reasons.Running) (found.Open reasons.Table) x y =
      absurd (y.2 (subst (λ u. StartsIn c cpu u) (one-window x.0 y.0 x.1 y.1) x.2))
  one-steps-law (found.Open reasons.Table) (found.Staged v) x y =
      absurd (x.3 y.0.table)
  one-steps-law (found.Open reasons.Table) (found.Gated v) x y =
      absurd (x.3 y.0.table)
  one-steps-law (found.Open reasons.Table) (found.Confined v) x y =
      absurd (x.3 y.0.table)
  one-steps-law (found.Open reasons.Table) (found.Open reasons.Order) x y =
      absurd (x.3 y.1.table)
  one-steps-law (found.Open reasons.Table) (found.Open reasons.Windows) x y =
      absurd (y x.0 x.1)
  one-steps-law (found.Open reasons.Table) (found.Open reasons.Running) x y =
      absurd (x.2 (subst (λ u. StartsIn c cpu u) (one-window y.0 x.0 y.1 x.1) y.2))
  one-steps-law (found.Open reasons.Table) (found.Open reasons.Table) x y = refl
  one-steps-law found.Silent b x y = absurd x
  one-steps-law (found.Open reasons.Script) b x y = absurd x
  one-steps-law (found.Staged w) found.Silent x y = absurd y
  one-steps-law (found.Staged w) (found.Open reasons.Script) x y = absurd y
  one-steps-law (found.Gated w) found.Silent x y = absurd y
  one-steps-law (found.Gated w) (found.Open reasons.Script) x y = absurd y
  one-steps-law (found.Confined w) found.Silent x y = absurd y
  one-steps-law (found.Confined w) (found.Open reasons.Script) x y = absurd y
  one-steps-law (found.Open reasons.Order) found.Silent x y = absurd y
  one-steps-law (found.Open reasons.Order) (found.Open reasons.Script) x y = absurd y
  one-steps-law (found.Open reasons.Windows) found.Silent x y = absurd y
  one-steps-law (found.Open reasons.Windows) (found.Open reasons.Script) x y = absurd y
  one-steps-law (found.Open reasons.Running) found.Silent x y = absurd y
  one-steps-law (found.Open reasons.Running) (found.Open reasons.Script) x y = absurd y
  one-steps-law (found.Open reasons.Table) found.Silent x y = absurd y
  one-steps-law (found.Open reasons.Table) (found.Open reasons.Script) x y = absurd y

-- there is no other law of a script
one-written : (c : Content) (cpu : Cpu) (events : List EventView) (a b : SessionFound) → IsContent (first_content c cpu)
    → IsWritten c cpu events a → IsWritten c cpu events b → a ≡ b
one-written c cpu events a b right x y = elim x [
  | inl p ↦ elim y [
    | inl q ↦ p.1 ∙ sym q.1
    | inr q ↦ absurd (p.0 q.0)
  ]
  | inr p ↦ elim y [
    | inl q ↦ absurd (q.0 p.0)
    | inr q ↦ one-steps-law (first_content c cpu) cpu (host_steps c cpu events) right a b p.1 q.1
  ]
]

pub one-session-law : (c : Content) (cpu : Cpu) (events : List EventView) (a b : SessionFound)
    → IsContent (first_content c cpu) → IsSessionLaw c cpu events a → IsSessionLaw c cpu events b → a ≡ b
one-session-law c cpu events a b right x y = elim x [
  | inl p ↦ elim y [
    | inl q ↦ p.1 ∙ sym q.1
    | inr q ↦ absurd (p.0 q.0)
  ]
  | inr p ↦ elim y [
    | inl q ↦ absurd (q.0 p.0)
    | inr q ↦ one-written c cpu events a b right p.1 q.1
  ]
]

-- a law that is told of a window is that of the steps of a host
told-steps : (c : Content) (cpu : Cpu) (events : List EventView) (law : SessionFound)
    → (law ≡ found.Silent → ⊥) → (law ≡ found.Open reasons.Script → ⊥) → IsSessionLaw c cpu events law
    → IsStepsLaw (first_content c cpu) cpu (host_steps c cpu events) law
told-steps c cpu events law loud known x = elim x [
  | inl p ↦ absurd (loud p.1)
  | inr p ↦ elim p.1 [
    | inl q ↦ absurd (known q.1)
    | inr q ↦ q.1
  ]
]

pub confined-told : (c : Content) (cpu : Cpu) (events : List EventView) (w : Window)
    → IsSessionLaw c cpu events (found.Confined w)
    → IsStepsLaw (first_content c cpu) cpu (host_steps c cpu events) (found.Confined w)
confined-told c cpu events w told = told-steps c cpu events (found.Confined w) (λ e. cc) (λ e. cc) told

pub gated-told : (c : Content) (cpu : Cpu) (events : List EventView) (w : Window)
    → IsSessionLaw c cpu events (found.Gated w)
    → IsStepsLaw (first_content c cpu) cpu (host_steps c cpu events) (found.Gated w)
gated-told c cpu events w told = told-steps c cpu events (found.Gated w) (λ e. cc) (λ e. cc) told

pub staged-told : (c : Content) (cpu : Cpu) (events : List EventView) (w : Window)
    → IsSessionLaw c cpu events (found.Staged w)
    → IsStepsLaw (first_content c cpu) cpu (host_steps c cpu events) (found.Staged w)
staged-told c cpu events w told = told-steps c cpu events (found.Staged w) (λ e. cc) (λ e. cc) told

-- what the laws of boot_session bring to the steps
pub confined-cut : (c : Content) (cpu : Cpu) (steps : List Step) (w : Window) (d : Content) → IsContent c
    → IsStepsLaw c cpu steps (found.Confined w) → CutOf c steps d
    → Chosen d cpu Normal (decision_in c cpu Normal) ⊎ StartsThere d w cpu
confined-cut c cpu steps w d right law cut =
    confined-session c w cpu steps d (decision_in c cpu Normal) (record {
      right = right;
      boot_member = law.0.keeps.slot.boot_member;
      confined = law.0.keeps.confined;
      leaves = inr cut;
      former = decision-chosen c cpu Normal;
      elsewhere = outside c cpu w law.0.elsewhere;
      table = λ none. absurd (law.1 none);
    })

pub held-cut : (c : Content) (cpu : Cpu) (steps : List Step) (w : Window) (d : Content) → IsContent c
    → Holds c cpu steps w → Gated steps w → CutOf c steps d
    → (Unfinished c steps w d → HasNoAccidentalImage c (after_all c steps) d w cpu)
    → Chosen d cpu Normal (decision_in c cpu Normal) ⊎ StartsFinished (after_all c steps) d cpu
held-cut c cpu steps w d right holds gated cut lucky =
    gated-decision c w cpu steps d (decision_in c cpu Normal) (record {
      right = right;
      boot_member = holds.keeps.slot.boot_member;
      gated = gated;
      cut = cut;
      former = decision-chosen c cpu Normal;
      elsewhere = outside c cpu w holds.elsewhere;
      table = holds.table;
      no_accident = lucky;
    })

-- the decision of a normal boot is no start in a window where none starts
pub starts-outside : (c : Content) (cpu : Cpu) (steps : List Step) (w : Window) → Holds c cpu steps w
    → StartsOutside w (decision_in c cpu Normal)
starts-outside c cpu steps w holds = outside c cpu w holds.elsewhere

cases : (b : Bool) → (b ≡ true) ⊎ (b ≡ false)
cases true = inl refl
cases false = inr refl

if-so : {X : Type 0} (b : Bool) (x y : X) → b ≡ true → (if b then x else y) ≡ x
if-so b x y e = ap (λ t. if t then x else y) e

if-not : {X : Type 0} (b : Bool) (x y : X) → b ≡ false → (if b then x else y) ≡ y
if-not b x y e = ap (λ t. if t then x else y) e

gained : (a b : Option Found) → gains_table a b ≡ true → b ≢ a
gained None None e = cc
gained None (Some f) e = λ same. cc
gained (Some f) b e = cc

not-gained : (a b : Option Found) → gains_table a b ≡ false → a ≡ None → b ≡ None
not-gained None None e none = refl
not-gained None (Some f) e none = cc
not-gained (Some f) b e none = cc

no-step : (o : Option ℕ) → is_none o ≡ true → o ≡ None
no-step None e = refl
no-step (Some k) e = cc

some-step : (o : Option ℕ) → is_none o ≡ false → o ≡ None → ⊥
some-step None e none = cc
some-step (Some k) e none = cc

no-table : (o : Option Found) → is_some o ≡ false → o ≡ None
no-table None e = refl
no-table (Some f) e = cc

a-table : (o : Option Found) → is_some o ≡ true → o ≢ None
a-table None e = cc
a-table (Some f) e = λ none. cc

-- the function finds the law
module _ (c : Content) (cpu : Cpu) (steps : List Step) (right : IsContent c) where
  held-is : (w : Window) (staged : Bool) → Holds c cpu steps w
      → (Gated steps w → (staged ≡ true) ↔ Staged c steps w cpu) → IsStepsLaw c cpu steps (held_law c steps w staged)
  held-is w staged holds exactly = elim (cases (is_none (ungated_in w steps))) [
    | inl none ↦
        let gated = none-gated w steps holds.keeps.confined (no-step (ungated_in w steps) none) in
        subst (IsStepsLaw c cpu steps) (sym (if-so _ _ _ none)) (elim (cases staged) [
          | inl is ↦ subst (IsStepsLaw c cpu steps) (sym (if-so _ _ _ is)) (holds, (exactly gated).0 is)
          | inr not_so ↦
              subst (IsStepsLaw c cpu steps) (sym (if-not _ _ _ not_so))
              (holds, gated, λ s. false-true staged not_so ((exactly gated).1 s))
        ])
    | inr some ↦
        let ungated : Gated steps w → ⊥ =
        λ gated. some-step (ungated_in w steps) some (gated-none w steps gated) in
        let unstaged : Staged c steps w cpu → ⊥ = λ s. ungated s.gated in
        subst (IsStepsLaw c cpu steps) (sym (if-not _ _ _ some)) (elim (cases (is_some (table_in c))) [
          | inl has ↦
              subst (IsStepsLaw c cpu steps) (sym (if-so _ _ _ has)) (holds, a-table (table_in c) has, ungated, unstaged)
          | inr none ↦
              subst (IsStepsLaw c cpu steps) (sym (if-not _ _ _ none))
              (w, holds, no-table (table_in c) none, unstaged, ungated)
        ])
  ]

  pub slot-is-law : (z : Content) (w : Window) (staged : Bool) → z ≡ after_all c steps → session_slot c cpu steps ≡ Some w
      → (Gated steps w → (staged ≡ true) ↔ Staged c steps w cpu) → IsStepsLaw c cpu steps (slot_law c cpu z steps w staged)
  slot-is-law z w staged leads at exactly = elim (cases (list_all (is_confined w) steps)) [
    | inr some ↦
        subst (IsStepsLaw c cpu steps) (sym (if-so _ _ _ (ap not some))) (not-kept c cpu steps w right at some)
    | inl all ↦
        let keeps = keeps-is c cpu steps w at all in
        let d = decision_in c cpu Normal in
        let starts = starts-is c cpu w d refl in
        subst (IsStepsLaw c cpu steps) (sym (if-not _ _ _ (ap not all))) (elim (cases (is_start_in w d)) [
          | inl there ↦ subst (IsStepsLaw c cpu steps) (sym (if-so _ _ _ there)) (w, keeps, starts.0 there)
          | inr elsewhere ↦
              let none : StartsIn c cpu w → ⊥ = λ s. false-true (is_start_in w d) elsewhere (starts.1 s) in
              subst (IsStepsLaw c cpu steps) (sym (if-not _ _ _ elsewhere))
              (elim (cases (gains_table (table_in c) (table_in z))) [
                | inl gains ↦
                    subst (IsStepsLaw c cpu steps) (sym (if-so _ _ _ gains))
                    (w, keeps, none, λ same. gained (table_in c) (table_in z) gains (ap table_in leads ∙ same))
                | inr stays ↦
                    subst (IsStepsLaw c cpu steps) (sym (if-not _ _ _ stays))
                    (held-is w staged (record {
                      keeps = keeps;
                      elsewhere = none;
                      table = table-kept c cpu steps w (table_in c) right keeps refl
                          (λ has. sym (ap table_in leads) ∙ not-gained (table_in c) (table_in z) stays has);
                    }) exactly)
              ])
        ])
  ]
