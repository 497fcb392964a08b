-- Why a session is not swept, and what is known of one that is.
use Rattle.std.proofs.Common.{◌≡◌, ℕ, ◌+◌, ◌≤◌, Bool, true, false, List, [], ◌∷◌, length, Option, Some, None, refl, sym, ap, ◌∙◌, arith}
use Rattle.std.specs.Prelude.{◌&&◌, ◌==◌, is_none, is_some, nat_lt, option_map, if◌then◌else◌}
use Rattle.std.specs.Option.{option_or}
use Rattle.std.proofs.lemmas.Bool.{ltb-false}
use Rattle.std.proofs.lemmas.List.{take_all}
use Rattle.pico_board.specs.declared.Step.{Step}
use Rattle.pico_board.specs.declared.boot.Cpu.{Cpu}
use Rattle.pico_board.specs.declared.boot.BootKind.TheVariants.{Normal}
use Rattle.pico_board.specs.declared.window.Window.{Window}
use Rattle.pico_board.specs.Content.{Content, IsContent}
use Rattle.pico_board.specs.Sessions.{Confined, Gated}
use Rattle.pico_board.specs.Steps.{after_all}
use Rattle.boot_rules.specs.declared.decision.Decision.{Decision}
use Rattle.boot_rules.specs.declared.decision.Decision.TheVariants.{Start, Bootsel}
use Rattle.boot_rules.specs.declared.tables.Found.{Found}
use Rattle.boot_rules.specs.Choosing.{decision_in}
use Rattle.boot_rules.specs.Tables.{table_in}
use Rattle.boot_sweep.specs.declared.error.SweepError.{SweepError}
use Rattle.boot_sweep.specs.Refusals.{gains_table, is_start_in, starts_in_slot, sweep_refusal, ungated, where_}
use Rattle.boot_session.specs.Recordings.{first_steps, kept_steps, step_limit}
use Rattle.boot_session.specs.Slots.{IsSlot, is_confined, outside_from, session_slot}
use Rattle.boot_session.specs.CutSessions.{StartsOutside}
use Rattle.boot_sweep.proofs.GateLemmas.{none-gated}
use Rattle.boot_session.proofs.GatedLaws.{gated-table}
use Rattle.boot_session.proofs.SlotLemmas.{confined-is, is-confined, slot-is}

pub none-outside : (w : Window) (k : ℕ) (steps : List Step) → outside_from k (Some w) steps ≡ None → Confined steps w
none-outside w k [] e = tt
none-outside w k (step ∷ steps) e = go (λ e. none-outside w (k + 1) steps e) (is_confined w step) refl e
  where
    go : (outside_from (k + 1) (Some w) steps ≡ None → Confined steps w) → (b : Bool) → is_confined w step ≡ b
        → (if b then outside_from (k + 1) (Some w) steps else Some k) ≡ None → Confined (step ∷ steps) w
    go ih true is e = (confined-is w step is, ih e)
    go ih false is e = cc

pub outside-none : (w : Window) (k : ℕ) (steps : List Step) → Confined steps w → outside_from k (Some w) steps ≡ None
outside-none w k [] all = refl
outside-none w k (step ∷ steps) all =
    ap (λ b. if b then outside_from (k + 1) (Some w) steps else Some k) (is-confined w step all.0)
    ∙ outside-none w (k + 1) steps all.1

or-none : (a b : Option SweepError) → option_or a b ≡ None → (a ≡ None) × (b ≡ None)
or-none None b e = (refl, e)
or-none (Some x) b e = cc

map-none : (f : ℕ → SweepError) (o : Option ℕ) → option_map f o ≡ None → o ≡ None
map-none f None e = refl
map-none f (Some n) e = cc

where-none : (b : Bool) (r : SweepError) → where_ b r ≡ None → b ≡ false
where-none true r e = cc
where-none false r e = refl

-- none of the reasons holds
pub record HasNoReason (c : Content) (cpu : Cpu) (steps : List Step) : Type 0 where
  pub inside : outside_from 0 (session_slot c cpu steps) steps ≡ None
  pub gated : ungated (session_slot c cpu steps) (kept_steps steps) ≡ None
  pub few : nat_lt step_limit (length steps) ≡ false
  pub elsewhere : starts_in_slot (session_slot c cpu steps) (decision_in c cpu Normal) ≡ false
  pub table : gains_table (table_in c) (table_in (after_all c steps)) ≡ false

pub no-reason : (c : Content) (cpu : Cpu) (steps : List Step) → sweep_refusal c cpu steps ≡ None
    → HasNoReason c cpu steps
unfolding sweep_refusal
no-reason c cpu steps none =
    let a = or-none _ _ none in
    let b = or-none _ _ a.1 in
    let d = or-none _ _ b.1 in
    let e = or-none _ _ d.1 in record {
      inside = map-none _ _ a.0;
      gated = map-none _ _ b.0;
      few = where-none _ _ d.0;
      elsewhere = where-none _ _ e.0;
      table = where-none _ _ e.1;
    }

window-of-parts : (a b c d : ℕ) → a ≡ c → b ≡ d
    → (let v : Window = record { start = a; len = b } in let w : Window = record { start = c; len = d } in v ≡ w)
window-of-parts a b c d e f = cc

starts-elsewhere : (w : Window) (d : Decision) → is_start_in w d ≡ false → StartsOutside w d
starts-elsewhere w (Bootsel f) e = tt
starts-elsewhere w (Start choice) e = λ same.
    let start : (choice.image.window.start == w.start) ≡ true =
    let s = ap (λ (v : Window). v.start) same in grind (arith, s) in
    let len : (choice.image.window.len == w.len) ≡ true =
    let s = ap (λ (v : Window). v.len) same in grind (arith, s) in
    let both : (choice.image.window.start == w.start && choice.image.window.len == w.len) ≡ true =
    ap (λ b. b && choice.image.window.len == w.len) start ∙ len in
    let f : true ≡ false = sym both ∙ e in cc

pub kept-all : (steps : List Step) → length steps ≤ step_limit → kept_steps steps ≡ steps
unfolding kept_steps
kept-all steps few = take_all step_limit steps few

pub first-all : (steps : List Step) → length steps ≤ step_limit → first_steps steps ≡ steps
unfolding first_steps step_limit
first-all steps few = take_all 262145 steps (omega (arith, few))

-- what is known of a session that is swept
pub record IsSweepable (c : Content) (cpu : Cpu) (steps : List Step) (w : Window) : Type 0 where
  pub slot : IsSlot c cpu steps w
  pub gated : Gated steps w
  pub few : length steps ≤ step_limit
  pub elsewhere : StartsOutside w (decision_in c cpu Normal)
  pub table : table_in (after_all c steps) ≡ table_in c

pub table-stays : (c : Content) (cpu : Cpu) (steps : List Step) (w : Window) → IsContent c → IsSlot c cpu steps w
    → Gated steps w → gains_table (table_in c) (table_in (after_all c steps)) ≡ false
    → table_in (after_all c steps) ≡ table_in c
table-stays c cpu steps w right slot gated no_ = go (table_in c) (table_in (after_all c steps)) refl refl
  where
    go : (a b : Option Found) → table_in c ≡ a → table_in (after_all c steps) ≡ b
        → table_in (after_all c steps) ≡ table_in c
    go (Some found) b is e = gated-table c w cpu steps found right slot.boot_member gated is
    go None None is e = e ∙ sym is
    go None (Some found) is e =
        let f : gains_table (table_in c) (table_in (after_all c steps)) ≡ true =
        ap (λ x. is_none x && is_some (table_in (after_all c steps))) is ∙ ap is_some e in
        let g : true ≡ false = sym f ∙ no_ in cc

pub sweepable : (c : Content) (cpu : Cpu) (steps : List Step) (w : Window) → IsContent c
    → sweep_refusal c cpu steps ≡ None → IsSlot c cpu steps w → IsSweepable c cpu steps w
sweepable c cpu steps w right none slot =
    let r = no-reason c cpu steps none in
    let at = slot-is c cpu steps w right slot in
    let few = ltb-false step_limit (length steps) r.few in
    let confined = none-outside w 0 steps (ap (λ o. outside_from 0 o steps) (sym at) ∙ r.inside) in
    let gated = none-gated w steps confined (ap (λ xs. ungated (Some w) xs) (sym (kept-all steps few))
    ∙ (ap (λ o. ungated o (kept_steps steps)) (sym at) ∙ r.gated)) in record {
      slot = slot;
      gated = gated;
      few = few;
      elsewhere = starts-elsewhere w (decision_in c cpu Normal)
          (ap (λ o. starts_in_slot o (decision_in c cpu Normal)) (sym at) ∙ r.elsewhere);
      table = table-stays c cpu steps w right slot gated r.table;
    }
