-- The composition of lists of steps: a list that a board does whole and then another is their concatenation, and a list
-- that power is lost in is lost whatever was to follow. A caller cites `DoesAll-none` where nothing is left to do,
-- `DoesAll-step` and `DoesAll-cut` for one step, and `DoesAll-append` and `DoesAll-append_cut` for a call that does a
-- list.
use Rattle.std.proofs.Common.{◌≡◌, ◌⊎◌, ℕ, ◌≤◌, Bool, true, false, cond, Option, None, Some, List, [], ◌∷◌, ◌++◌, length, refl, sym, ◌∙◌, ap, subst, inl, inr, arith}
use Rattle.std.specs.Bool.{OnTrue, OnFalse}
use Rattle.std.proofs.lemmas.List.{append_assoc, append-nil}
use Rattle.pico_board.specs.Content.{Content}
use Rattle.pico_board.specs.Steps.{Step, after, after_all, CutOf, MayLeave}
use Rattle.pico_board.specs.Cuts.{Cut, CutOutcome, cut_step, unless_cut, cut_steps}
use Rattle.pico_board.specs.Board.{State, Rose, Becomes, HasCutOutcome, IsCutAsArmed, AreCutAsArmed, Does, DoesAll, with_power}

-- what follows from a fact of one answer
pub OnFalse-map : {P Q : Type 0} (ok : Bool) → (P → Q) → OnFalse ok P → OnFalse ok Q
OnFalse-map true f p = tt
OnFalse-map false f p = f p

pub OnTrue-map : {P Q : Type 0} (ok : Bool) → (P → Q) → OnTrue ok P → OnTrue ok Q
OnTrue-map true f p = f p
OnTrue-map false f p = tt

-- a list of steps and then others
pub after_all-append : (c : Content) (xs ys : List Step) → after_all c (xs ++ ys) ≡ after_all (after_all c xs) ys
after_all-append c [] ys = refl
after_all-append c (x ∷ xs) ys = after_all-append (after c x) xs ys

-- what a cut in the first list leaves, it leaves whatever was to follow
pub CutOf-append_left : (c : Content) (xs ys : List Step) (d : Content) → CutOf c xs d → CutOf c (xs ++ ys) d
CutOf-append_left c [] ys d cut = absurd cut
CutOf-append_left c (x ∷ xs) ys d (inl torn) = inl torn
CutOf-append_left c (x ∷ xs) ys d (inr later) = inr (CutOf-append_left (after c x) xs ys d later)

-- a cut in the second list comes after the first
pub CutOf-append_right : (c : Content) (xs ys : List Step) (d : Content) → CutOf (after_all c xs) ys d
    → CutOf c (xs ++ ys) d
CutOf-append_right c [] ys d cut = cut
CutOf-append_right c (x ∷ xs) ys d cut = inr (CutOf-append_right (after c x) xs ys d cut)

-- a cut of two lists falls in the first or in the second
pub CutOf-append_cases : (c : Content) (xs ys : List Step) (d : Content) → CutOf c (xs ++ ys) d
    → CutOf c xs d ⊎ CutOf (after_all c xs) ys d
CutOf-append_cases c [] ys d cut = inr cut
CutOf-append_cases c (x ∷ xs) ys d (inl torn) = inl (inl torn)
CutOf-append_cases c (x ∷ xs) ys d (inr later) =
    elim (CutOf-append_cases (after c x) xs ys d later) [ inl first ↦ inl (inr first) | inr second ↦ inr second ]

-- a told cut goes on with the rest, or stops
pub told_next-true : (o : CutOutcome) (rest : Option Cut → Content → CutOutcome) → o.answer ≡ true
    → unless_cut o rest ≡ rest o.armed o.content
told_next-true o rest e = ap (λ b. cond b (rest o.armed o.content) o) e

pub told_next-false : (o : CutOutcome) (rest : Option Cut → Content → CutOutcome) → o.answer ≡ false
    → unless_cut o rest ≡ o
told_next-false o rest e = ap (λ b. cond b (rest o.armed o.content) o) e

told_next_assoc : (b : Bool) (o : CutOutcome) (f g h : Option Cut → Content → CutOutcome) → o.answer ≡ b
    → ((cut : Option Cut) (c : Content) → h cut c ≡ unless_cut (f cut c) g)
    → unless_cut o h ≡ unless_cut (unless_cut o f) g
told_next_assoc true o f g h e same =
    told_next-true o h e ∙ same o.armed o.content ∙ ap (λ (p : CutOutcome). unless_cut p g) (sym (told_next-true o f e))
told_next_assoc false o f g h e same =
    told_next-false o h e
    ∙ sym (ap (λ (p : CutOutcome). unless_cut p g) (told_next-false o f e) ∙ told_next-false o g e)

-- what a told cut says of a list of steps and then others
pub told_all-append : (xs ys : List Step) (cut : Option Cut) (c : Content)
    → cut_steps (xs ++ ys) cut c ≡ unless_cut (cut_steps xs cut c) (cut_steps ys)
told_all-append [] ys cut c = refl
told_all-append (x ∷ xs) ys cut c =
    told_next_assoc (cut_step cut c x).answer (cut_step cut c x) (cut_steps xs) (cut_steps ys)
    (cut_steps (xs ++ ys)) refl
    (told_all-append xs ys)

told_none : (a : Option (Option Cut)) (t : State) → t.armed ≡ a → AreCutAsArmed a t.content [] true t
told_none None t e = e
told_none (Some cut) t e = record { answer = refl; content = refl; armed = e }

IsAs-same : (o p : CutOutcome) (ok : Bool) (t : State) → p ≡ o → HasCutOutcome o ok t → HasCutOutcome p ok t
IsAs-same o p ok t e is = subst (λ q. HasCutOutcome q ok t) (sym e) is

told_then : (a : Option (Option Cut)) (c : Content) (step : Step) (steps : List Step) (m : State) (ok : Bool)
    (t : State)
    → IsCutAsArmed a c step true m → AreCutAsArmed m.armed m.content steps ok t → AreCutAsArmed a c (step ∷ steps) ok t
told_then None c step steps m ok t one rest = subst (λ a. AreCutAsArmed a m.content steps ok t) one rest
told_then (Some cut) c step steps m ok t one rest =
    let o = cut_step cut c step in
    let armed : AreCutAsArmed (Some o.armed) m.content steps ok t =
    subst (λ a. AreCutAsArmed a m.content steps ok t) one.armed rest in
    let moved : HasCutOutcome (cut_steps steps o.armed o.content) ok t =
    subst (λ d. HasCutOutcome (cut_steps steps o.armed d) ok t) one.content armed in
    IsAs-same (cut_steps steps o.armed o.content) (unless_cut o (cut_steps steps)) ok t
    (told_next-true o (cut_steps steps) one.answer) moved

told_lost : (a : Option (Option Cut)) (c : Content) (step : Step) (steps : List Step) (t : State)
    → IsCutAsArmed a c step false t → AreCutAsArmed a c (step ∷ steps) false t
told_lost None c step steps t one = one
told_lost (Some cut) c step steps t one =
    let o = cut_step cut c step in
    IsAs-same o (unless_cut o (cut_steps steps)) false t (told_next-false o (cut_steps steps) one.answer) one

told_both : (a : Option (Option Cut)) (c : Content) (xs ys : List Step) (m : State) (ok : Bool) (t : State)
    → AreCutAsArmed a c xs true m → AreCutAsArmed m.armed m.content ys ok t → AreCutAsArmed a c (xs ++ ys) ok t
told_both None c xs ys m ok t first second = subst (λ a. AreCutAsArmed a m.content ys ok t) first second
told_both (Some cut) c xs ys m ok t first second =
    let o = cut_steps xs cut c in
    let armed : AreCutAsArmed (Some o.armed) m.content ys ok t =
    subst (λ a. AreCutAsArmed a m.content ys ok t) first.armed second in
    let moved : HasCutOutcome (cut_steps ys o.armed o.content) ok t =
    subst (λ d. HasCutOutcome (cut_steps ys o.armed d) ok t) first.content armed in
    IsAs-same (cut_steps ys o.armed o.content) (cut_steps (xs ++ ys) cut c) ok t
    (told_all-append xs ys cut c ∙ told_next-true o (cut_steps ys) first.answer) moved

told_both_lost : (a : Option (Option Cut)) (c : Content) (xs ys : List Step) (t : State)
    → AreCutAsArmed a c xs false t → AreCutAsArmed a c (xs ++ ys) false t
told_both_lost None c xs ys t first = first
told_both_lost (Some cut) c xs ys t first =
    let o = cut_steps xs cut c in
    IsAs-same o (cut_steps (xs ++ ys) cut c) false t
    (told_all-append xs ys cut c ∙ told_next-false o (cut_steps ys) first.answer) first

-- a count that rose before another rise, or after it, rose in both
pub Rose-later : (a b c : ℕ) → a ≤ b → Rose b c → Rose a c
Rose-later a b c le rose = omega arith

pub Rose-earlier : (a b c : ℕ) → Rose a b → b ≤ c → Rose a c
Rose-earlier a b c rose le = omega arith

module _ {B : Type 0} {state : B → State} {history : B → List Step → Type 0} where
  -- a powered board does no step
  pub DoesAll-none : (b : B) → (state b).powered ≡ true → DoesAll state history b [] true b
  DoesAll-none b powered = record {
    done = refl;
    torn = tt;
    size = refl;
    power = powered;
    later = omega arith;
    rose = tt;
    told = told_none (state b).armed (state b) refl;
    recorded = λ h held. subst (history b) (sym (append-nil h)) held;
  }

  -- a step that completes, and then the others
  pub DoesAll-step : {old mid new : B} {step : Step} {steps : List Step} {ok : Bool}
      → Does state history old step true mid → DoesAll state history mid steps ok new
      → DoesAll state history old (step ∷ steps) ok new
  DoesAll-step {old} {mid} {new} {step} {steps} {ok} one rest = record {
    done = subst (λ c. OnTrue ok ((state new).content ≡ after_all c steps)) one.done rest.done;
    torn = OnFalse-map ok (λ cut. inr cut)
        (subst (λ c. OnFalse ok (CutOf c steps (state new).content)) one.done rest.torn);
    size = rest.size ∙ one.size;
    power = rest.power;
    later = omega (arith, one.later, rest.later);
    rose = OnFalse-map ok (λ rose. Rose-later (state old).cuts (state mid).cuts (state new).cuts one.later rose)
        rest.rose;
    told = told_then (state old).armed (state old).content step steps (state mid) ok (state new) one.told rest.told;
    recorded = OnTrue-map ok (λ goes_on h held. subst (history new) (append_assoc h (step ∷ []) steps)
        (goes_on (h ++ step ∷ []) (one.recorded h held))) rest.recorded;
  }

  -- power is lost in the first step, whatever was to follow
  pub DoesAll-cut : {old new : B} {step : Step} (steps : List Step) → Does state history old step false new
      → DoesAll state history old (step ∷ steps) false new
  DoesAll-cut {old} {new} {step} steps one = record {
    done = tt;
    torn = inl one.torn;
    size = one.size;
    power = one.power;
    later = one.later;
    rose = one.rose;
    told = told_lost (state old).armed (state old).content step steps (state new) one.told;
    recorded = tt;
  }

  -- one step, done or lost, is a list of one
  pub DoesAll-one : {old new : B} {step : Step} (ok : Bool) → Does state history old step ok new
      → DoesAll state history old (step ∷ []) ok new
  DoesAll-one true one = DoesAll-step one (DoesAll-none _ one.power)
  DoesAll-one false one = DoesAll-cut [] one

  -- a list that is done, and then another
  pub DoesAll-append : {old mid new : B} {xs ys : List Step} {ok : Bool}
      → DoesAll state history old xs true mid → DoesAll state history mid ys ok new
      → DoesAll state history old (xs ++ ys) ok new
  DoesAll-append {old} {mid} {new} {xs} {ys} {ok} first second = record {
    done = subst (λ c. OnTrue ok ((state new).content ≡ c)) (sym (after_all-append (state old).content xs ys))
        (subst (λ c. OnTrue ok ((state new).content ≡ after_all c ys)) first.done second.done);
    torn = OnFalse-map ok (CutOf-append_right (state old).content xs ys (state new).content)
        (subst (λ c. OnFalse ok (CutOf c ys (state new).content)) first.done second.torn);
    size = second.size ∙ first.size;
    power = second.power;
    later = omega (arith, first.later, second.later);
    rose = OnFalse-map ok (λ rose. Rose-later (state old).cuts (state mid).cuts (state new).cuts first.later rose)
        second.rose;
    told = told_both (state old).armed (state old).content xs ys (state mid) ok (state new) first.told second.told;
    recorded = OnTrue-map ok (λ goes_on h held. subst (history new) (append_assoc h xs ys)
        (goes_on (h ++ xs) (first.recorded h held))) second.recorded;
  }

  -- power is lost in the first list, whatever was to follow
  pub DoesAll-append_cut : {old new : B} {xs : List Step} (ys : List Step) → DoesAll state history old xs false new
      → DoesAll state history old (xs ++ ys) false new
  DoesAll-append_cut {old} {new} {xs} ys first = record {
    done = tt;
    torn = CutOf-append_left (state old).content xs ys (state new).content first.torn;
    size = first.size;
    power = first.power;
    later = first.later;
    rose = first.rose;
    told = told_both_lost (state old).armed (state old).content xs ys (state new) first.told;
    recorded = tt;
  }

  -- the content that is left is one that the steps may leave
  pub MayLeave-from : {old new : B} {steps : List Step} (ok : Bool) → DoesAll state history old steps ok new
      → MayLeave (state old).content steps (state new).content
  MayLeave-from true does = inl does.done
  MayLeave-from false does = inr does.torn

  -- no step is always done
  pub DoesAll-empty : {old new : B} (ok : Bool) → DoesAll state history old [] ok new → ok ≡ true
  DoesAll-empty true does = refl
  DoesAll-empty false does = absurd does.torn

  -- a board that is powered again, and then does a list
  pub DoesAll-powered : {old mid new : B} {steps : List Step} {ok : Bool}
      → Becomes state history old (with_power (state old)) mid
      → DoesAll state history mid steps ok new → DoesAll state history old steps ok new
  DoesAll-powered {old} {mid} {new} {steps} {ok} on does =
      let content : (state mid).content ≡ (state old).content = ap (λ (s : State). s.content) on.same in
      let cuts : (state mid).cuts ≡ (state old).cuts = ap (λ (s : State). s.cuts) on.same in
      let armed : (state mid).armed ≡ (state old).armed = ap (λ (s : State). s.armed) on.same in
      record {
        done = subst (λ c. OnTrue ok ((state new).content ≡ after_all c steps)) content does.done;
        torn = subst (λ c. OnFalse ok (CutOf c steps (state new).content)) content does.torn;
        size = does.size ∙ ap (λ (c : Content). length c.flash) content;
        power = does.power;
        later = omega (arith, cuts, does.later);
        rose = subst (λ (n : ℕ). OnFalse ok (Rose n (state new).cuts)) cuts does.rose;
        told = subst (λ a. AreCutAsArmed a (state old).content steps ok (state new)) armed
            (subst (λ c. AreCutAsArmed (state mid).armed c steps ok (state new)) content does.told);
        recorded = OnTrue-map ok (λ goes_on h held. goes_on h (on.recorded h held)) does.recorded;
      }
