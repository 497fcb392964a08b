-- A session is refused exactly for the reason that holds of it: case by case.
use Rattle.std.proofs.Common.{◌≡◌, ◌≢◌, ◌⊎◌, inl, inr, ℕ, suc, ◌+◌, ◌<◌, Bool, true, false, List, [], ◌∷◌, length, Option, Some, None, refl, sym, ap, ◌∙◌, subst, arith}
use Rattle.std.specs.Prelude.{◌↔◌, ◌==◌, nat_lt, option_map}
use Rattle.std.specs.Option.{option_or}
use Rattle.std.proofs.lemmas.Bool.{and_from, and_parts, eqb-true, le-ltb, lt-ltb, ltb-false, ltb-true}
use Rattle.std.proofs.lemmas.List.{length-take, take-take}
use Rattle.std.proofs.lemmas.Option.{same_Some}
use Rattle.pico_board.specs.declared.Step.{Step}
use Rattle.pico_board.specs.declared.boot.Cpu.{Cpu}
use Rattle.pico_board.specs.declared.boot.BootKind.TheVariants.{Normal}
use Rattle.pico_board.specs.declared.window.Window.{Window}
use Rattle.pico_board.specs.Content.{Content, IsContent}
use Rattle.pico_board.specs.Sessions.{Confined, Gated}
use Rattle.pico_board.specs.Steps.{after_all}
use Rattle.slot_choice.specs.declared.choice.Choice.{Choice}
use Rattle.boot_rules.specs.declared.decision.Decision.{Decision}
use Rattle.boot_rules.specs.declared.decision.Decision.TheVariants.{Start, Bootsel}
use Rattle.boot_rules.specs.declared.tables.Found.{Found}
use Rattle.boot_rules.specs.Choosing.{decision_in}
use Rattle.boot_rules.specs.Chosen.{Chosen}
use Rattle.boot_rules.specs.Tables.{table_in}
use Rattle.boot_rules.proofs.DecisionLemmas.{chosen-decision, decision-chosen}
use Rattle.boot_sweep.specs.declared.error.SweepError.{SweepError}
use Rattle.boot_sweep.specs.declared.error.SweepError.TheVariants.{NotConfined, NotGated, TooManySteps, FormerInSlot, Memory, TableChanged}
use Rattle.boot_sweep.specs.Refusals.{IsFirstOutside, IsFirstUngated, IsGatedSession, IsRefusedSession, KeepsToSlot, LeavesSlot, StartsIn, gains_table, is_start_in, starts_in_slot, sweep_refusal, ungated, where_}
use Rattle.boot_session.specs.Recordings.{kept_steps, step_limit}
use Rattle.boot_session.specs.Slots.{IsSlot, outside_from, session_slot}
use Rattle.boot_sweep.proofs.GateLemmas.{gated-none, none-gated}
use Rattle.boot_sweep.proofs.ChanceLemmas.{gated-confined}
use Rattle.boot_sweep.proofs.RefusalLaws.{confined-take, first-named, first-outside, named-first, outside-first}
use Rattle.boot_sweep.proofs.RefusalLemmas.{kept-all, none-outside, outside-none, table-stays}
use Rattle.boot_session.proofs.SlotLemmas.{slot-found, slot-is}

or-some : (a b : Option SweepError) (e : SweepError) → option_or a b ≡ Some e
    → (a ≡ Some e) ⊎ ((a ≡ None) × (b ≡ Some e))
or-some None b e is = inr (refl, is)
or-some (Some x) b e is = inl is

map-some : (f : ℕ → SweepError) (o : Option ℕ) (e : SweepError) → option_map f o ≡ Some e
    → (k : ℕ) × (o ≡ Some k) × (f k ≡ e)
map-some f None e is = cc
map-some f (Some k) e is = (k, refl, same_Some (f k) e is)

map-none : (f : ℕ → SweepError) (o : Option ℕ) → option_map f o ≡ None → o ≡ None
map-none f None e = refl
map-none f (Some n) e = cc

where-some : (b : Bool) (r e : SweepError) → where_ b r ≡ Some e → (b ≡ true) × (r ≡ e)
where-some true r e is = (refl, same_Some r e is)
where-some false r e is = cc

where-none : (b : Bool) (r : SweepError) → where_ b r ≡ None → b ≡ false
where-none true r e = cc
where-none false r e = refl

start-in : (w : Window) (d : Decision) → is_start_in w d ≡ true
    → (choice : Choice) × (d ≡ Start choice) × (choice.image.window ≡ w)
start-in w (Bootsel f) e = cc
start-in w (Start choice) e =
    let p = and_parts _ _ e in (
      choice,
      refl,
      of-parts choice.image.window.start choice.image.window.len w.start w.len (eqb-true _ _ p.0)
          (eqb-true _ _ p.1),
    )
  where
    of-parts : (a b c d : ℕ) → a ≡ c → b ≡ d
        → (let v : Window = record { start = a; len = b } in let w : Window = record { start = c; len = d } in v ≡ w)
    of-parts a b c d e f = cc

pub in-start : (w : Window) (d : Decision) (choice : Choice) → d ≡ Start choice → choice.image.window ≡ w
    → is_start_in w d ≡ true
in-start w d choice is same =
    let s = ap (λ (v : Window). v.start) same in
    let l = ap (λ (v : Window). v.len) same in
    let one : (choice.image.window.start == w.start) ≡ true = grind (arith, s) in
    let two : (choice.image.window.len == w.len) ≡ true = grind (arith, l) in
    ap (is_start_in w) is ∙ and_from _ _ one two

-- a flash has another table where it gains one
gains-other : (a b : Option Found) → gains_table a b ≡ true → b ≢ a
gains-other None None e = cc
gains-other None (Some f) e = λ same. cc
gains-other (Some f) b e = cc

nothing-gained : (a : Option Found) → gains_table a a ≡ false
nothing-gained None = refl
nothing-gained (Some f) = refl

module _ (c : Content) (cpu : Cpu) (steps : List Step) (right : IsContent c) where
  abbrev slot : Option Window
  slot = session_slot c cpu steps

  -- there is a slot where a first step lies in it
  some-slot : outside_from 0 slot steps ≡ None → steps ≢ [] → (w : Window) × (slot ≡ Some w)
  some-slot none some = go slot refl
    where
      go : (o : Option Window) → slot ≡ o → (w : Window) × (slot ≡ Some w)
      go (Some w) is = (w, is)
      go None is = absurd (empty steps some (ap (λ o. outside_from 0 o steps) (sym is) ∙ none))
        where
          empty : (xs : List Step) → xs ≢ [] → outside_from 0 None xs ≡ None → ⊥
          empty [] some e = some refl
          empty (x ∷ xs) some e = cc

  leaves : (k : ℕ) → outside_from 0 slot steps ≡ Some k → LeavesSlot c cpu steps k
  leaves k e = go slot refl
    where
      first : (xs : List Step) → outside_from 0 None xs ≡ Some k → (xs ≢ []) × (k ≡ 0)
      first [] e = cc
      first (x ∷ xs) e = let same : 0 ≡ k = same_Some 0 k e in (λ no_. cc, sym same)

      go : (o : Option Window) → slot ≡ o → LeavesSlot c cpu steps k
      go (Some w) is =
          let f = first-outside w 0 steps k (ap (λ o. outside_from 0 o steps) (sym is) ∙ e) in
          let n = f.1 in
          let same : f.0 ≡ k = omega (arith, n) in
          inl (w, slot-found c cpu steps w is, subst (IsFirstOutside steps w) same f.2)
      go None is =
          let f = first steps (ap (λ o. outside_from 0 o steps) (sym is) ∙ e) in
          inr (f.0, λ w found. let g : None ≡ Some w = sym is ∙ slot-is c cpu steps w right found in cc, f.1)

  leaves-is : (k : ℕ) → LeavesSlot c cpu steps k → outside_from 0 slot steps ≡ Some k
  leaves-is k (inl (w, found, first)) =
      let n : 0 + k ≡ k = omega arith in
      ap (λ o. outside_from 0 o steps) (slot-is c cpu steps w right found)
      ∙ (outside-first w 0 steps k first ∙ ap (λ m. Some m) n)
  leaves-is k (inr (some, none, same)) = go slot refl
    where
      first : (xs : List Step) → xs ≢ [] → outside_from 0 None xs ≡ Some 0
      first [] some = absurd (some refl)
      first (x ∷ xs) some = refl

      go : (o : Option Window) → slot ≡ o → outside_from 0 slot steps ≡ Some k
      go (Some w) is = absurd (none w (slot-found c cpu steps w is))
      go None is = ap (λ o. outside_from 0 o steps) is ∙ (first steps some ∙ ap (λ n. Some n) (sym same))

  kept-first : (w : Window) (k : ℕ) → IsFirstUngated (kept_steps steps) w k
      → IsFirstUngated steps w k × (k < step_limit)
  unfolding kept_steps
  kept-first w k is =
      let lt = is.inside in
      let long = length-take step_limit steps in
      let low : k < step_limit = omega (arith, lt, long) in (
        record {
          inside = omega (arith, lt, long);
          before = subst (λ xs. Gated xs w) (take-take k step_limit steps (omega (arith, low))) is.before;
          ungated = λ gated. is.ungated (subst (λ xs. Gated xs w)
              (sym (take-take (suc k) step_limit steps (omega (arith, low)))) gated);
        },
        low,
      )

  first-kept : (w : Window) (k : ℕ) → IsFirstUngated steps w k → k < step_limit
      → IsFirstUngated (kept_steps steps) w k
  unfolding kept_steps
  first-kept w k is low =
      let lt = is.inside in
      let long = length-take step_limit steps in record {
        inside = omega (arith, lt, low, long);
        before = subst (λ xs. Gated xs w) (sym (take-take k step_limit steps (omega (arith, low)))) is.before;
        ungated = λ gated. is.ungated (subst (λ xs. Gated xs w)
            (take-take (suc k) step_limit steps (omega (arith, low))) gated);
      }

  kept-confined : (w : Window) → Confined steps w → Confined (kept_steps steps) w
  unfolding kept_steps
  kept-confined w confined = confined-take w step_limit steps confined

  in-slot : (d : Decision) → starts_in_slot slot d ≡ true → (w : Window) × (slot ≡ Some w) × (is_start_in w d ≡ true)
  in-slot d e = go slot refl
    where
      go : (o : Option Window) → slot ≡ o → (w : Window) × (slot ≡ Some w) × (is_start_in w d ≡ true)
      go (Some w) is = (w, is, ap (λ o. starts_in_slot o d) (sym is) ∙ e)
      go None is = let f : false ≡ true = ap (λ o. starts_in_slot o d) (sym is) ∙ e in cc

  ungated-slot : (k : ℕ) → ungated slot (kept_steps steps) ≡ Some k → (w : Window) × (slot ≡ Some w)
  ungated-slot k e = go slot refl
    where
      go : (o : Option Window) → slot ≡ o → (w : Window) × (slot ≡ Some w)
      go (Some w) is = (w, is)
      go None is = let f : None ≡ Some k = ap (λ o. ungated o (kept_steps steps)) (sym is) ∙ e in cc

  -- the session keeps to this slot
  keeps : (w : Window) → slot ≡ Some w → outside_from 0 slot steps ≡ None → KeepsToSlot c cpu steps w
  keeps w is none = record {
    slot = slot-found c cpu steps w is;
    confined = none-outside w 0 steps (ap (λ o. outside_from 0 o steps) (sym is) ∙ none);
  }

  kept-gated : (w : Window) → slot ≡ Some w → outside_from 0 slot steps ≡ None
      → ungated slot (kept_steps steps) ≡ None → Gated (kept_steps steps) w
  kept-gated w is inside none =
      none-gated w (kept_steps steps) (kept-confined w (keeps w is inside).confined)
      (ap (λ o. ungated o (kept_steps steps)) (sym is) ∙ none)

  gated-session : (w : Window) → slot ≡ Some w → outside_from 0 slot steps ≡ None
      → ungated slot (kept_steps steps) ≡ None → nat_lt step_limit (length steps) ≡ false
      → IsGatedSession c cpu steps w
  gated-session w is inside none few =
      let short = ltb-false step_limit (length steps) few in record {
        slot = slot-found c cpu steps w is;
        gated = subst (λ xs. Gated xs w) (kept-all steps short) (kept-gated w is inside none);
        few = short;
      }

  many-some : step_limit < length steps → steps ≢ []
  many-some lt none = let e = ap length none in absurd (omega (arith, lt, e))

  gains-some : gains_table (table_in c) (table_in (after_all c steps)) ≡ true → steps ≢ []
  gains-some gains none =
      let e : gains_table (table_in c) (table_in (after_all c steps)) ≡ false =
      ap (λ xs. gains_table (table_in c) (table_in (after_all c xs))) none ∙ nothing-gained (table_in c) in
      let f : true ≡ false = sym gains ∙ e in cc

  not-starting : (w : Window) → slot ≡ Some w → starts_in_slot slot (decision_in c cpu Normal) ≡ false
      → StartsIn c cpu w → ⊥
  not-starting w is no_ starts =
      let d = chosen-decision c cpu Normal (Start starts.0) starts.1 in
      let e : is_start_in w (decision_in c cpu Normal) ≡ true =
      in-start w (decision_in c cpu Normal) starts.0 (sym d) starts.2 in
      let f : false ≡ true = sym (ap (λ o. starts_in_slot o (decision_in c cpu Normal)) (sym is) ∙ no_) ∙ e in cc

  -- what is left of the function behind each of its parts
  abbrev last_part : Option SweepError
  last_part = where_ (gains_table (table_in c) (table_in (after_all c steps))) TableChanged

  abbrev former_part : Option SweepError
  former_part = option_or (where_ (starts_in_slot slot (decision_in c cpu Normal)) FormerInSlot) last_part

  abbrev many_part : Option SweepError
  many_part = option_or (where_ (nat_lt step_limit (length steps)) TooManySteps) former_part

  abbrev gated_part : Option SweepError
  gated_part = option_or (option_map NotGated (ungated slot (kept_steps steps))) many_part

  refused-former : (e : SweepError) → outside_from 0 slot steps ≡ None → ungated slot (kept_steps steps) ≡ None
      → nat_lt step_limit (length steps) ≡ false → former_part ≡ Some e → IsRefusedSession c cpu steps e
  refused-former e inside gated few is =
      elim (or-some (where_ (starts_in_slot slot (decision_in c cpu Normal)) FormerInSlot) last_part e is) [
        | inl f ↦
            let m = where-some (starts_in_slot slot (decision_in c cpu Normal)) FormerInSlot e f in
            let at = in-slot (decision_in c cpu Normal) m.0 in
            let start = start-in at.0 (decision_in c cpu Normal) at.2 in
            let starts : StartsIn c cpu at.0 = (
              start.0,
              subst (λ x. Chosen c cpu Normal x) start.1 (decision-chosen c cpu Normal),
              start.2,
            ) in
            let refused : IsRefusedSession c cpu steps FormerInSlot =
            (at.0, gated-session at.0 at.1 inside gated few, starts) in
            subst (λ x. IsRefusedSession c cpu steps x) m.1 refused
        | inr f ↦
            let m = where-some (gains_table (table_in c) (table_in (after_all c steps))) TableChanged e f.1 in
            let at = some-slot inside (gains-some m.0) in
            let none = where-none (starts_in_slot slot (decision_in c cpu Normal)) FormerInSlot f.0 in
            let refused : IsRefusedSession c cpu steps TableChanged = (
              at.0,
              gated-session at.0 at.1 inside gated few,
              not-starting at.0 at.1 none,
              gains-other (table_in c) (table_in (after_all c steps)) m.0,
            ) in
            subst (λ x. IsRefusedSession c cpu steps x) m.1 refused
      ]

  refused-many : (e : SweepError) → outside_from 0 slot steps ≡ None → ungated slot (kept_steps steps) ≡ None
      → many_part ≡ Some e → IsRefusedSession c cpu steps e
  refused-many e inside gated is =
      elim (or-some (where_ (nat_lt step_limit (length steps)) TooManySteps) former_part e is) [
        | inl d ↦
            let m = where-some (nat_lt step_limit (length steps)) TooManySteps e d in
            let lt = ltb-true step_limit (length steps) m.0 in
            let at = some-slot inside (many-some lt) in
            let refused : IsRefusedSession c cpu steps TooManySteps =
            (at.0, keeps at.0 at.1 inside, kept-gated at.0 at.1 inside gated, lt) in
            subst (λ x. IsRefusedSession c cpu steps x) m.1 refused
        | inr d ↦
            refused-former e inside gated (where-none (nat_lt step_limit (length steps)) TooManySteps d.0) d.1
      ]

  refused-gated : (e : SweepError) → outside_from 0 slot steps ≡ None → gated_part ≡ Some e
      → IsRefusedSession c cpu steps e
  refused-gated e inside is =
      elim (or-some (option_map NotGated (ungated slot (kept_steps steps))) many_part e is) [
        | inl b ↦
            let m = map-some NotGated (ungated slot (kept_steps steps)) e b in
            let at = ungated-slot m.0 m.1 in
            let keep = keeps at.0 at.1 inside in
            let first = kept-first at.0 m.0 (named-first at.0 (kept_steps steps) m.0
            (kept-confined at.0 keep.confined) (ap (λ o. ungated o (kept_steps steps)) (sym at.1) ∙ m.1)) in
            let refused : IsRefusedSession c cpu steps (NotGated m.0) = (at.0, keep, first.0, first.1) in
            subst (λ x. IsRefusedSession c cpu steps x) m.2 refused
        | inr b ↦
            refused-many e inside (map-none NotGated (ungated slot (kept_steps steps)) b.0) b.1
      ]

  refused-is : (e : SweepError) → sweep_refusal c cpu steps ≡ Some e → IsRefusedSession c cpu steps e
  unfolding sweep_refusal
  refused-is e is =
      elim (or-some (option_map NotConfined (outside_from 0 slot steps)) gated_part e is) [
        | inl a ↦
            let m = map-some NotConfined (outside_from 0 slot steps) e a in
            let refused : IsRefusedSession c cpu steps (NotConfined m.0) = leaves m.0 m.1 in
            subst (λ x. IsRefusedSession c cpu steps x) m.2 refused
        | inr a ↦ refused-gated e (map-none NotConfined (outside_from 0 slot steps) a.0) a.1
      ]

  -- the parts of the function
  reasons : (a b : Option ℕ) (x y z : Bool) → outside_from 0 slot steps ≡ a → ungated slot (kept_steps steps) ≡ b
      → nat_lt step_limit (length steps) ≡ x → starts_in_slot slot (decision_in c cpu Normal) ≡ y
      → gains_table (table_in c) (table_in (after_all c steps)) ≡ z
      → sweep_refusal c cpu steps ≡ option_or (option_map NotConfined a)
      (option_or (option_map NotGated b) (option_or (where_ x TooManySteps)
      (option_or (where_ y FormerInSlot) (where_ z TableChanged))))
  unfolding sweep_refusal
  reasons a b x y z p q r s t =
      ap (λ o. option_or (option_map NotConfined o)
      (option_or (option_map NotGated (ungated slot (kept_steps steps)))
      (option_or (where_ (nat_lt step_limit (length steps)) TooManySteps)
      (option_or (where_ (starts_in_slot slot (decision_in c cpu Normal)) FormerInSlot)
      (where_ (gains_table (table_in c) (table_in (after_all c steps))) TableChanged))))) p
      ∙ (ap (λ o. option_or (option_map NotConfined a)
      (option_or (option_map NotGated o)
      (option_or (where_ (nat_lt step_limit (length steps)) TooManySteps)
      (option_or (where_ (starts_in_slot slot (decision_in c cpu Normal)) FormerInSlot)
      (where_ (gains_table (table_in c) (table_in (after_all c steps))) TableChanged))))) q
      ∙ (ap (λ v. option_or (option_map NotConfined a)
      (option_or (option_map NotGated b) (option_or (where_ v TooManySteps)
      (option_or (where_ (starts_in_slot slot (decision_in c cpu Normal)) FormerInSlot)
      (where_ (gains_table (table_in c) (table_in (after_all c steps))) TableChanged))))) r
      ∙ (ap (λ v. option_or (option_map NotConfined a)
      (option_or (option_map NotGated b) (option_or (where_ x TooManySteps)
      (option_or (where_ v FormerInSlot)
      (where_ (gains_table (table_in c) (table_in (after_all c steps))) TableChanged))))) s
      ∙ ap (λ v. option_or (option_map NotConfined a)
      (option_or (option_map NotGated b) (option_or (where_ x TooManySteps)
      (option_or (where_ y FormerInSlot) (where_ v TableChanged))))) t)))

  inside-none : (w : Window) → KeepsToSlot c cpu steps w → outside_from 0 slot steps ≡ None
  inside-none w keep =
      ap (λ o. outside_from 0 o steps) (slot-is c cpu steps w right keep.slot) ∙ outside-none w 0 steps keep.confined

  ungated-is : (w : Window) (o : Option ℕ) → IsSlot c cpu steps w → ungated (Some w) (kept_steps steps) ≡ o
      → ungated slot (kept_steps steps) ≡ o
  ungated-is w o found is = ap (λ x. ungated x (kept_steps steps)) (slot-is c cpu steps w right found) ∙ is

  gated-keeps : (w : Window) → IsGatedSession c cpu steps w → KeepsToSlot c cpu steps w
  gated-keeps w is = record { slot = is.slot; confined = gated-confined w steps is.gated }

  gated-ungated : (w : Window) → IsGatedSession c cpu steps w → ungated slot (kept_steps steps) ≡ None
  gated-ungated w is =
      ungated-is w None is.slot (gated-none w (kept_steps steps)
      (subst (λ xs. Gated xs w) (sym (kept-all steps is.few)) is.gated))

  starting : (w : Window) → IsSlot c cpu steps w → StartsIn c cpu w
      → starts_in_slot slot (decision_in c cpu Normal) ≡ true
  starting w found starts =
      let d = chosen-decision c cpu Normal (Start starts.0) starts.1 in
      ap (λ o. starts_in_slot o (decision_in c cpu Normal)) (slot-is c cpu steps w right found)
      ∙ in-start w (decision_in c cpu Normal) starts.0 (sym d) starts.2

  starting-not : (w : Window) → IsSlot c cpu steps w → (StartsIn c cpu w → ⊥)
      → starts_in_slot slot (decision_in c cpu Normal) ≡ false
  starting-not w found no_ = go (starts_in_slot slot (decision_in c cpu Normal)) refl
    where
      go : (b : Bool) → starts_in_slot slot (decision_in c cpu Normal) ≡ b
          → starts_in_slot slot (decision_in c cpu Normal) ≡ false
      go false is = is
      go true is =
          let e = ap (λ o. starts_in_slot o (decision_in c cpu Normal)) (sym (slot-is c cpu steps w right found))
          ∙ is in
          let s = start-in w (decision_in c cpu Normal) e in
          absurd (no_ (s.0, subst (λ x. Chosen c cpu Normal x) s.1 (decision-chosen c cpu Normal), s.2))

  gaining : (w : Window) → IsGatedSession c cpu steps w → table_in (after_all c steps) ≢ table_in c
      → gains_table (table_in c) (table_in (after_all c steps)) ≡ true
  gaining w is other = go (gains_table (table_in c) (table_in (after_all c steps))) refl
    where
      go : (b : Bool) → gains_table (table_in c) (table_in (after_all c steps)) ≡ b
          → gains_table (table_in c) (table_in (after_all c steps)) ≡ true
      go true e = e
      go false e = absurd (other (table-stays c cpu steps w right is.slot is.gated e))

  is-refused : (e : SweepError) → IsRefusedSession c cpu steps e → sweep_refusal c cpu steps ≡ Some e
  is-refused (NotConfined k) leaving =
      reasons (Some k) (ungated slot (kept_steps steps)) (nat_lt step_limit (length steps))
      (starts_in_slot slot (decision_in c cpu Normal)) (gains_table (table_in c) (table_in (after_all c steps)))
      (leaves-is k leaving) refl refl refl refl
  is-refused (NotGated k) (w, keep, first, low) =
      reasons None (Some k) (nat_lt step_limit (length steps)) (starts_in_slot slot (decision_in c cpu Normal))
      (gains_table (table_in c) (table_in (after_all c steps))) (inside-none w keep)
      (ungated-is w (Some k) keep.slot
      (first-named w (kept_steps steps) k (kept-confined w keep.confined) (first-kept w k first low))) refl refl refl
  is-refused TooManySteps (w, keep, gated, many) =
      reasons None None true (starts_in_slot slot (decision_in c cpu Normal))
      (gains_table (table_in c) (table_in (after_all c steps))) (inside-none w keep)
      (ungated-is w None keep.slot (gated-none w (kept_steps steps) gated)) (lt-ltb step_limit (length steps) many) refl
      refl
  is-refused FormerInSlot (w, is, starts) =
      reasons None None false true (gains_table (table_in c) (table_in (after_all c steps)))
      (inside-none w (gated-keeps w is)) (gated-ungated w is) (le-ltb step_limit (length steps) is.few)
      (starting w is.slot starts) refl
  is-refused Memory no_ = absurd no_
  is-refused TableChanged (w, is, no_, other) =
      reasons None None false false true (inside-none w (gated-keeps w is)) (gated-ungated w is)
      (le-ltb step_limit (length steps) is.few) (starting-not w is.slot no_) (gaining w is other)

  pub refused-exactly : (e : SweepError) → (sweep_refusal c cpu steps ≡ Some e) ↔ IsRefusedSession c cpu steps e
  refused-exactly e = (refused-is e, is-refused e)
