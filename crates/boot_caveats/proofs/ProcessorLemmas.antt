-- Which images that a boot comes to are for the other processor, by the functions and in the words of the rules.
use Rattle.std.proofs.Common.{◌≡◌, ℕ, zero, suc, ◌+◌, ◌<◌, ◌≤◌, ◌&&◌, not, Bool, true, false, cond, List, [], ◌∷◌, ◌++◌, length, map, drop, get_or, Option, Some, None, Result, Ok, Err, refl, sym, ap, ◌∙◌, subst, inl, inr, arith, append_assoc}
use Rattle.std.specs.Prelude.{Contains, is_ok, option_to_list}
use Rattle.std.specs.Bool.{Decides}
use Rattle.std.specs.List.{cons_option, filter_map, list_any}
use Rattle.std.proofs.lemmas.List.{append-nil, drop_all, drop_more}
use Rattle.std.proofs.lemmas.List.Elements.{Contains-append_left, Contains-append_right, filter_map-append}
use Rattle.std.proofs.lemmas.Option.{same_Some}
use Rattle.pico_board.specs.declared.boot.Cpu.{Cpu}
use Rattle.pico_board.specs.declared.boot.BootKind.{BootKind}
use Rattle.pico_board.specs.declared.window.Window.{Window}
use Rattle.pico_board.specs.Content.{Content}
use Rattle.image_def.specs.declared.started.Started.{Started}
use Rattle.image_check.specs.declared.why.Why.{Why}
use Rattle.image_check.specs.Image.{image_at}
use Rattle.image_check.specs.Valid.{Valid}
use Rattle.image_check.proofs.LawLemmas.{at-valid, valid-at}
use Rattle.slot_choice.specs.declared.unit.Member.{Member}
use Rattle.boot_rules.specs.declared.decision.Decision.{Decision}
use Rattle.boot_rules.specs.declared.decision.Decision.TheVariants.{Bootsel}
use Rattle.boot_rules.specs.declared.decision.Fall.TheVariants.{NoImage}
use Rattle.boot_rules.specs.Choosing.{decision_in}
use Rattle.boot_rules.specs.Chosen.{Chosen}
use Rattle.boot_rules.proofs.DecisionLemmas.{chosen-decision, decision-chosen}
use Rattle.boot_reasons.specs.declared.looks.UnitReport.{UnitReport}
use Rattle.slot_caveats.specs.declared.caveat.Caveat.{Caveat}
use Rattle.slot_caveats.specs.declared.caveat.Caveat.TheVariants.{OtherProcessor}
use Rattle.slot_caveats.specs.Listing.{caveat_if}
use Rattle.boot_caveats.specs.ChoiceCaveats.{lacks_image, other_cpu, started_window}
use Rattle.boot_caveats.specs.ChoiceRules.{StartsIn}
use Rattle.boot_caveats.specs.ImageCaveats.{is_window}
use Rattle.boot_caveats.specs.ProcessorCaveats.{LookedMember, looked_members, members_of, other_among, other_processors, other_start, other_window, other_windows}
use Rattle.boot_caveats.specs.ProcessorRules.{AreOtherProcessors, AreOthers, IsOther, IsOtherStart}
use Rattle.boot_caveats.proofs.ChoiceCaveatLemmas.{in-starts, lacks-decides, starts-in}
use Rattle.slot_caveats.proofs.ListingLemmas.{IsJust, and-decides, not-decides, one-just}
use Rattle.boot_caveats.proofs.WindowLemmas.{among-decides}

-- ---- members

fails-decides : (r : Result Started Why) → Decides (not (is_ok r)) ((why : Why) × (r ≡ Err why))
fails-decides (Ok s) = (λ e. cc, λ is. absurd (apart s is.0 is.1))
  where
    apart : (s : Started) (why : Why) → (let r : Result Started Why = Ok s in r ≡ Err why) → ⊥
    apart s why e = cc
fails-decides (Err why) = (λ e. (why, refl), λ is. refl)

right-decides : (c : Content) (w : Window) (cpu : Cpu) (trial : Bool)
    → Decides (is_ok (image_at c w cpu trial)) ((s : Started) × Valid c w cpu trial s)
right-decides c w cpu trial = (to (image_at c w cpu trial) refl, λ is. ap is_ok (at-valid c w cpu trial is.0 is.1))
  where
    to : (r : Result Started Why) → image_at c w cpu trial ≡ r → is_ok r ≡ true → (s : Started) × Valid c w cpu trial s
    to (Ok s) is e = (s, valid-at c w cpu trial s is)
    to (Err why) is e = cc

pub other-decides : (c : Content) (cpu : Cpu) (m : LookedMember)
    → Decides (not (is_ok m.image) && is_ok (image_at c m.window (other_cpu cpu) m.trial)) (IsOther c cpu m)
other-decides c cpu m = (
  λ e. (let is = both.0 e in
      record { why = is.0.0; image = is.1.0; lacks = is.0.1; valid = is.1.1 }),
  λ is. both.1 ((is.why, is.lacks), (is.image, is.valid)),
)
  where
    both : Decides (not (is_ok m.image) && is_ok (image_at c m.window (other_cpu cpu) m.trial))
        (((why : Why) × (m.image ≡ Err why)) × ((s : Started) × Valid c m.window (other_cpu cpu) m.trial s))
    both = and-decides _ _ _ _ (fails-decides m.image) (right-decides c m.window (other_cpu cpu) m.trial)

apart : (b : Bool) → b ≡ true → b ≡ false → ⊥
apart b e f = cc

others-right : (c : Content) (cpu : Cpu) (ms : List LookedMember) → AreOthers c cpu ms (other_windows c cpu ms)
others-right c cpu [] = refl
others-right c cpu (m ∷ ms) =
    go (not (is_ok m.image) && is_ok (image_at c m.window (other_cpu cpu) m.trial)) refl (others-right c cpu ms)
  where
    go : (b : Bool) → (not (is_ok m.image) && is_ok (image_at c m.window (other_cpu cpu) m.trial)) ≡ b
        → AreOthers c cpu ms (other_windows c cpu ms)
        → AreOthers c cpu (m ∷ ms) (cons_option (cond b (Some m.window) None) (other_windows c cpu ms))
    go true e rest = inl ((other-decides c cpu m).0 e, (other_windows c cpu ms, refl, rest))
    go false e rest = inr ((λ is. apart _ ((other-decides c cpu m).1 is) e), rest)

others-only : (c : Content) (cpu : Cpu) (ms : List LookedMember) (ws : List Window) → AreOthers c cpu ms ws
    → ws ≡ other_windows c cpu ms
others-only c cpu [] ws are = are
others-only c cpu (m ∷ ms) ws are =
    go (not (is_ok m.image) && is_ok (image_at c m.window (other_cpu cpu) m.trial)) refl are
    (λ ys h. others-only c cpu ms ys h)
  where
    go : (b : Bool) → (not (is_ok m.image) && is_ok (image_at c m.window (other_cpu cpu) m.trial)) ≡ b
        → AreOthers c cpu (m ∷ ms) ws → ((ys : List Window) → AreOthers c cpu ms ys → ys ≡ other_windows c cpu ms)
        → ws ≡ cons_option (cond b (Some m.window) None) (other_windows c cpu ms)
    go true e (inl told) rest = told.1.1 ∙ ap (λ l. m.window ∷ l) (rest told.1.0 told.1.2)
    go true e (inr none) rest = absurd (none.0 ((other-decides c cpu m).0 e))
    go false e (inl told) rest = absurd (apart _ ((other-decides c cpu m).1 told.0) e)
    go false e (inr none) rest = rest ws none.1

-- ---- the decision for the other processor

module _ (c : Content) (cpu : Cpu) (kind : BootKind) (d : Decision) (ws : List Window) where
  abbrev Starts : Window → Type 0
  Starts w = (d ≡ Bootsel NoImage)
      × ((other : Decision) × Chosen c (other_cpu cpu) kind other × StartsIn other w)
      × (Contains ws w → ⊥)

  new-decides : (w : Window) → Decides (not (list_any (is_window w) ws)) (Contains ws w → ⊥)
  new-decides w = not-decides _ _ (among-decides w ws)

  start-just : IsJust (IsOtherStart c cpu kind d ws) (option_to_list (other_start c cpu kind d ws))
  start-just =
      one-just Starts OtherProcessor (other_start c cpu kind d ws)
      (to (lacks_image d) refl (started_window (decision_in c (other_cpu cpu) kind)) refl) from
    where
      by : lacks_image d ≡ true → (w : Window) → started_window (decision_in c (other_cpu cpu) kind) ≡ Some w
          → (b : Bool) → not (list_any (is_window w) ws) ≡ b → (caveat : Caveat)
          → caveat_if b (OtherProcessor w) ≡ Some caveat
          → (v : Window) × Starts v × (caveat ≡ OtherProcessor v)
      by is w starts true new caveat e = (
        w,
        (
          (lacks-decides d).0 is,
          (
            decision_in c (other_cpu cpu) kind,
            decision-chosen c (other_cpu cpu) kind,
            starts-in (decision_in c (other_cpu cpu) kind) w starts,
          ),
          (new-decides w).0 new,
        ),
        sym (same_Some _ _ e),
      )
      by is w starts false new caveat e = cc

      to : (b : Bool) → lacks_image d ≡ b → (o : Option Window)
          → started_window (decision_in c (other_cpu cpu) kind) ≡ o → (caveat : Caveat)
          → cond b (other_among ws o) None ≡ Some caveat
          → (w : Window) × Starts w × (caveat ≡ OtherProcessor w)
      to true is (Some w) starts caveat e = by is w starts (not (list_any (is_window w) ws)) refl caveat e
      to true is None starts caveat e = cc
      to false is o starts caveat e = cc

      from : (w : Window) → Starts w → other_start c cpu kind d ws ≡ Some (OtherProcessor w)
      from w is =
          ap (λ b. cond b (other_among ws (started_window (decision_in c (other_cpu cpu) kind))) None)
          ((lacks-decides d).1 is.0)
          ∙ (ap (other_among ws)
          (ap started_window (sym (chosen-decision c (other_cpu cpu) kind is.1.0 is.1.1)) ∙ in-starts is.1.0 w is.1.2)
          ∙ ap (λ b. caveat_if b (OtherProcessor w)) ((new-decides w).1 is.2))

pub processors-just : (c : Content) (cpu : Cpu) (kind : BootKind) (d : Decision) (ms : List LookedMember)
    → IsJust (AreOtherProcessors c cpu kind d ms) (other_processors c cpu kind d ms)
processors-just c cpu kind d ms = record {
  right = (
    other_windows c cpu ms,
    option_to_list (other_start c cpu kind d (other_windows c cpu ms)),
    others-right c cpu ms,
    (start-just c cpu kind d (other_windows c cpu ms)).right,
    refl,
  );
  only = λ other is.
      let same = others-only c cpu ms is.0 is.2 in
      is.4 ∙ (ap (λ ws. map OtherProcessor ws ++ is.1) same
      ∙ ap (λ l. map OtherProcessor (other_windows c cpu ms) ++ l)
      ((start-just c cpu kind d (other_windows c cpu ms)).only is.1
      (subst (λ ws. IsOtherStart c cpu kind d ws is.1) same is.3)));
}

-- ---- what is listed

-- the window that starts for the other processor is listed
contains-told : (ws : List Window) (w : Window) → Contains ws w → Contains (map OtherProcessor ws) (OtherProcessor w)
contains-told [] w (k, lt, e) = absurd (omega (arith, lt))
contains-told (v ∷ ws) w (zero, lt, e) = (0, omega arith, ap OtherProcessor e)
contains-told (v ∷ ws) w (suc k, lt, e) =
    let rest = contains-told ws w (k, omega (arith, lt), e) in (suc rest.0, omega (arith, rest.1), rest.2)

pub start-listed : (c : Content) (cpu : Cpu) (kind : BootKind) (d : Decision) (ms : List LookedMember) (w : Window)
    → lacks_image d ≡ true → started_window (decision_in c (other_cpu cpu) kind) ≡ Some w
    → Contains (other_processors c cpu kind d ms) (OtherProcessor w)
start-listed c cpu kind d ms w lacks starts = go (list_any (is_window w) (other_windows c cpu ms)) refl
  where
    go : (b : Bool) → list_any (is_window w) (other_windows c cpu ms) ≡ b
        → Contains (other_processors c cpu kind d ms) (OtherProcessor w)
    go true e =
        Contains-append_left _ _ _
        (contains-told (other_windows c cpu ms) w ((among-decides w (other_windows c cpu ms)).0 e))
    go false e =
        Contains-append_right (map OtherProcessor (other_windows c cpu ms)) _ _
        (subst (λ (o : Option Caveat). Contains (option_to_list o) (OtherProcessor w))
        (sym (ap (λ b. cond b (other_among (other_windows c cpu ms)
        (started_window (decision_in c (other_cpu cpu) kind))) None) lacks
        ∙ (ap (other_among (other_windows c cpu ms)) starts
        ∙ ap (λ b. caveat_if (not b) (OtherProcessor w)) e))) (0, omega arith, refl))

-- a member with an image for the other processor is listed
pub member-listed : (c : Content) (cpu : Cpu) (kind : BootKind) (d : Decision) (ms : List LookedMember) (w : Window)
    → Contains (other_windows c cpu ms) w → Contains (other_processors c cpu kind d ms) (OtherProcessor w)
member-listed c cpu kind d ms w is = Contains-append_left _ _ _ (contains-told (other_windows c cpu ms) w is)

-- ---- one more unit

pub others-more : (c : Content) (cpu : Cpu) (looks : List UnitReport) (i : ℕ) (look : UnitReport)
    (member : Option Member) (old new all : List Window) → i < length looks → look ≡ get_or looks i look
    → old ++ filter_map (other_window c cpu) (looked_members (drop i looks) member) ≡ all
    → new ≡ old ++ filter_map (other_window c cpu) (members_of look member)
    → new ++ filter_map (other_window c cpu) (looked_members (drop (i + 1) looks) None) ≡ all
others-more c cpu looks i look member old new all lt is was now =
    let f = other_window c cpu in
    let rest = looked_members (drop (i + 1) looks) None in
    let here : drop i looks ≡ look ∷ drop (i + 1) looks =
    drop_more looks i look lt ∙ ap (λ l. l ∷ drop (i + 1) looks) (sym is) in
    ap (λ l. l ++ filter_map f rest) now
    ∙ (append_assoc old (filter_map f (members_of look member)) (filter_map f rest)
    ∙ (ap (λ l. old ++ l) (sym (filter_map-append f (members_of look member) rest))
    ∙ (ap (λ ls. old ++ filter_map f (looked_members ls member)) (sym here) ∙ was)))

pub others-all : (c : Content) (cpu : Cpu) (looks : List UnitReport) (i : ℕ) (member : Option Member)
    (old all : List Window) → length looks ≤ i
    → old ++ filter_map (other_window c cpu) (looked_members (drop i looks) member) ≡ all → old ≡ all
others-all c cpu looks i member old all le was =
    sym (append-nil old)
    ∙ (ap (λ ls. old ++ filter_map (other_window c cpu) (looked_members ls member)) (sym (drop_all i looks le)) ∙ was)
