-- No caveat, no doubt: a boot that does not apply the rule on rollback rows.
use Rattle.std.proofs.Common.{◌≡◌, ◌⊎◌, ◌↔◌, zero, suc, ◌&&◌, ◌||◌, Bool, true, false, cond, List, [], ◌∷◌, ◌++◌, Option, Some, None, Result, Ok, Err, is_some, option_map, option_and_then, refl, sym, ap, ◌∙◌, subst, inl, inr, arith}
use Rattle.std.specs.Prelude.{Contains, option_to_list}
use Rattle.std.specs.List.{filter_map, flat_map}
use Rattle.std.specs.Option.{option_or}
use Rattle.std.specs.Result.{result_ok}
use Rattle.std.proofs.lemmas.List.Elements.{Contains-append_left, Contains-append_right}
use Rattle.std.proofs.lemmas.Option.{same_Some}
use Rattle.pico_board.specs.declared.boot.Cpu.{Cpu}
use Rattle.pico_board.specs.declared.boot.BootKind.{BootKind}
use Rattle.pico_board.specs.declared.boot.BootKind.TheVariants.{Normal, Update, Bootsel as AskBootsel}
use Rattle.pico_board.specs.declared.window.Window.{Window}
use Rattle.pico_board.specs.Content.{Content}
use Rattle.image_def.specs.declared.started.Started.{Started}
use Rattle.image_check.specs.declared.why.Why.{Why}
use Rattle.image_check.specs.Image.{image_at}
use Rattle.image_check.proofs.LawLemmas.{at-valid, valid-at, valid-window}
use Rattle.otp_roll.specs.Flags.{flash_off}
use Rattle.slot_choice.specs.declared.unit.Member.{Member}
use Rattle.slot_choice.specs.declared.unit.Member.TheVariants.{A, B}
use Rattle.slot_choice.specs.declared.unit.SlotUnit.{SlotUnit}
use Rattle.slot_choice.specs.declared.choice.Choice.{Choice}
use Rattle.slot_choice.specs.Versions.{better, is_below}
use Rattle.boot_rules.specs.declared.decision.Decision.{Decision}
use Rattle.boot_rules.specs.Choosing.{boot_units_in, choice_of, choose, decision_in, decision_of, images_in, of_better, order_of, ordered_choice, unit_choice, version_of_image}
use Rattle.boot_rules.specs.Chosen.{Chosen, is_member, is_updated}
use Rattle.boot_rules.proofs.DecisionLemmas.{chosen-decision}
use Rattle.boot_rules.proofs.StartLemmas.{chosen-start}
use Rattle.boot_reasons.specs.declared.looks.UnitReport.{UnitReport}
use Rattle.boot_reasons.specs.Looks.{report_on, reports_of, second_image}
use Rattle.boot_reasons.specs.declared.reasons.Reasons.{Reasons}
use Rattle.boot_reasons.specs.Reasons.{does_report, order_in, reasons_in, reported_decision, reports_in, results_in}
use Rattle.boot_reasons.proofs.ReasonLemmas.{reasons-only}
use Rattle.boot_reasons.proofs.LookLemmas.{choice-of-unit, takes-choice}
use Rattle.slot_caveats.specs.declared.caveat.Caveat.{Caveat}
use Rattle.slot_caveats.specs.declared.caveat.Caveat.TheVariants.{MayStart}
use Rattle.slot_caveats.specs.Listing.{caveat_if}
use Rattle.boot_caveats.specs.ChoiceCaveats.{started_window}
use Rattle.boot_caveats.specs.Rules.{AreCaveats}
use Rattle.boot_caveats.specs.ImageCaveats.{is_at, is_doubtful, item_order, late_firsts, look_may_start, looked_windows, may_start, second_may_start}
use Rattle.boot_caveats.specs.ImageRules.{IsRollback}
use Rattle.boot_caveats.specs.ProcessorCaveats.{LookedMember, looked_members, members_of, second_looked, updated_in}
use Rattle.boot_caveats.specs.Unread.{is_rollback, unread_content, unread_window}
use Rattle.law_caveats.specs.Alternatives.{decision_unread}
use Rattle.boot_caveats.proofs.CaveatLemmas.{caveats-only}
use Rattle.law_caveats.proofs.DoubtLemmas.{IsIn, contains-one, decided, in-right, in-windows, reports-when, same-chosen}
use Rattle.boot_caveats.proofs.UnreadLemmas.{rolled-decides}
use Rattle.boot_caveats.proofs.WindowLemmas.{window-decides}
use Rattle.law_caveats.proofs.LineLemmas.{FailsIn, listed-line}
use Rattle.law_caveats.proofs.UnreadRowLemmas.{same-off, same-units, unread-image, unrolled}

-- ---- the choice of a unit

-- an image is the same, or it is one where there was none
pub data Alike : Option Started → Option Started → Type 0 where
  same : (o : Option Started) → Alike o o
  gained : (s : Started) → Alike (Some s) None

-- a choice takes this image
abbrev TakesImage : Option Choice → Started → Type 0
TakesImage o s = (choice : Choice) × (o ≡ Some choice) × (choice.image ≡ s)

-- the choice of a unit among the images of its members
abbrev of_members : SlotUnit → Option Member → Option Started → Option Started → Option Choice
of_members u None a b = of_better u (better (version_of_image a) (version_of_image b)) a b
of_members u (Some A) a b = option_or (option_map (choice_of u A true) a) (option_map (choice_of u B false) b)
of_members u (Some B) a b = option_or (option_map (choice_of u B true) b) (option_map (choice_of u A false) a)

-- the choice is the same, or it takes an image that is gained
abbrev Rolled : SlotUnit → Option Member → Option Started → Option Started → Option Started → Option Started → Type 0
Rolled u updated x a y b = (of_members u updated x y ≡ of_members u updated a b)
    ⊎ (((s : Started) × (a ≡ None) × (x ≡ Some s) × TakesImage (of_members u updated x y) s)
    ⊎ ((s : Started) × (b ≡ None) × (y ≡ Some s) × TakesImage (of_members u updated x y) s))

module _ (u : SlotUnit) where
  pair : (s t : Started) (a b : Option Started) → a ≡ None → b ≡ None → Rolled u None (Some s) a (Some t) b
  pair s t a b ea eb = go (is_below s.version t.version) refl
    where
      go : (c : Bool) → is_below s.version t.version ≡ c → Rolled u None (Some s) a (Some t) b
      go true e = inr (inr (
        t,
        eb,
        refl,
        (
          choice_of u B false t,
          ap (λ b. of_better u (Some (cond b B A)) (Some s) (Some t)) e,
          refl,
        ),
      ))
      go false e = inr (inl (
        s,
        ea,
        refl,
        (
          choice_of u A false s,
          ap (λ b. of_better u (Some (cond b B A)) (Some s) (Some t)) e,
          refl,
        ),
      ))

  first-gained : (s t : Started) → Rolled u None (Some s) None (Some t) (Some t)
  first-gained s t = go (is_below s.version t.version) refl
    where
      go : (c : Bool) → is_below s.version t.version ≡ c → Rolled u None (Some s) None (Some t) (Some t)
      go true e = inl (ap (λ b. of_better u (Some (cond b B A)) (Some s) (Some t)) e)
      go false e = inr (inl (
        s,
        refl,
        refl,
        (
          choice_of u A false s,
          ap (λ b. of_better u (Some (cond b B A)) (Some s) (Some t)) e,
          refl,
        ),
      ))

  second-gained : (s t : Started) → Rolled u None (Some s) (Some s) (Some t) None
  second-gained s t = go (is_below s.version t.version) refl
    where
      go : (c : Bool) → is_below s.version t.version ≡ c → Rolled u None (Some s) (Some s) (Some t) None
      go true e = inr (inr (
        t,
        refl,
        refl,
        (
          choice_of u B false t,
          ap (λ b. of_better u (Some (cond b B A)) (Some s) (Some t)) e,
          refl,
        ),
      ))
      go false e = inl (ap (λ b. of_better u (Some (cond b B A)) (Some s) (Some t)) e)

  rolled : (updated : Option Member) (x a y b : Option Started) → Alike x a → Alike y b → Rolled u updated x a y b
  rolled updated _ _ _ _ (same a) (same b) = inl refl
  rolled None _ _ _ _ (gained s) (same None) = inr (inl (s, refl, refl, (choice_of u A false s, refl, refl)))
  rolled None _ _ _ _ (gained s) (same (Some t)) = first-gained s t
  rolled (Some A) _ _ _ _ (gained s) (same b) = inr (inl (s, refl, refl, (choice_of u A true s, refl, refl)))
  rolled (Some B) _ _ _ _ (gained s) (same None) = inr (inl (s, refl, refl, (choice_of u A false s, refl, refl)))
  rolled (Some B) _ _ _ _ (gained s) (same (Some t)) = inl refl
  rolled None _ _ _ _ (same None) (gained t) = inr (inr (t, refl, refl, (choice_of u B false t, refl, refl)))
  rolled None _ _ _ _ (same (Some s)) (gained t) = second-gained s t
  rolled (Some A) _ _ _ _ (same None) (gained t) = inr (inr (t, refl, refl, (choice_of u B false t, refl, refl)))
  rolled (Some A) _ _ _ _ (same (Some s)) (gained t) = inl refl
  rolled (Some B) _ _ _ _ (same a) (gained t) = inr (inr (t, refl, refl, (choice_of u B true t, refl, refl)))
  rolled None _ _ _ _ (gained s) (gained t) = pair s t None None refl refl
  rolled (Some A) _ _ _ _ (gained s) (gained t) = inr (inl (s, refl, refl, (choice_of u A true s, refl, refl)))
  rolled (Some B) _ _ _ _ (gained s) (gained t) = inr (inr (t, refl, refl, (choice_of u B true t, refl, refl)))

-- ---- the choice of a boot

-- a choice takes the image of a member that is looked at and fails the rule
pub record IsOfRolled (members : List LookedMember) (o : Option Choice) : Type 0 where
  pub member : LookedMember
  pub why : Why
  pub choice : Choice
  pub among : IsIn member members
  pub fails : member.image ≡ Err why
  pub rule : IsRollback why
  pub takes : o ≡ Some choice
  pub window : choice.image.window ≡ member.window

more-members : (xs ys : List LookedMember) (o p : Option Choice) → o ≡ p
    → ((m : LookedMember) → IsIn m xs → IsIn m ys) → IsOfRolled xs o → IsOfRolled ys p
more-members xs ys o p e within is = record {
  member = is.member;
  why = is.why;
  choice = is.choice;
  among = within is.member is.among;
  fails = is.fails;
  rule = is.rule;
  takes = sym e ∙ is.takes;
  window = is.window;
}

ok-of : (r : Result Started Why) (s : Started) → result_ok r ≡ Some s → r ≡ Ok s
ok-of (Ok t) s e = ap Ok (same_Some t s e)
ok-of (Err why) s e = cc

module _ (c : Content) (cpu : Cpu) where
  abbrev others : Window → Bool → Option Started
  others w trial = images_in (unread_content c) cpu w trial

  alike-at : (w : Window) (t : Bool) → Alike (images_in (unread_content c) cpu w t) (images_in c cpu w t)
  alike-at w t = elim (unread-image c w cpu t) [
    | inl e ↦ subst (λ (r : Result Started Why). Alike (result_ok r) (result_ok (image_at c w cpu t))) (sym e)
        (same (result_ok (image_at c w cpu t)))
    | inr fails ↦ subst (λ (r : Result Started Why).
        Alike (result_ok (image_at (unread_content c) w cpu t)) (result_ok r)) (sym fails.2)
        (go (result_ok (image_at (unread_content c) w cpu t)))
  ]
    where
      go : (o : Option Started) → Alike o None
      go None = same None
      go (Some s) = gained s

  alike-second : (o : Option Window) (t : Bool)
      → Alike (option_and_then (λ w. images_in (unread_content c) cpu w t) o)
      (option_and_then (λ w. images_in c cpu w t) o)
  alike-second None t = same None
  alike-second (Some w) t = alike-at w t

  -- why an image is gained
  gained-why : (w : Window) (t : Bool) (s : Started) → images_in c cpu w t ≡ None
      → images_in (unread_content c) cpu w t ≡ Some s
      → (why : Why) × IsRollback why × (image_at c w cpu t ≡ Err why)
  gained-why w t s none some = elim (unread-image c w cpu t) [
    | inl e ↦ absurd (apart (images_in c cpu w t) s none
        (sym (ap (λ (r : Result Started Why). result_ok r) e) ∙ some))
    | inr fails ↦ fails
  ]
    where
      apart : (o : Option Started) (s : Started) → o ≡ None → o ≡ Some s → ⊥
      apart o s e f = cc

  gained-window : (w : Window) (t : Bool) (s : Started) → images_in (unread_content c) cpu w t ≡ Some s → s.window ≡ w
  gained-window w t s some =
      valid-window (unread_content c) w cpu t s
      (valid-at (unread_content c) w cpu t s (ok-of (image_at (unread_content c) w cpu t) s some))

  as-members : (images : Window → Bool → Option Started) (u : SlotUnit) (updated : Option Member)
      → unit_choice images u updated
      ≡ of_members u updated (images u.a (is_member updated A))
      (option_and_then (λ w. images w (is_member updated B)) u.b)
  as-members images u None = refl
  as-members images u (Some A) = refl
  as-members images u (Some B) = refl

  abbrev member_at_trial : Window → Bool → LookedMember
  member_at_trial w trial = record { window = w; image = results_in c cpu w trial; trial = trial }

  -- a member that is gained, and the choice that takes its image
  of-gained : (members : List LookedMember) (w : Window) (t : Bool) (s : Started) (o : Option Choice)
      → IsIn (member_at_trial w t) members → images_in c cpu w t ≡ None
      → images_in (unread_content c) cpu w t ≡ Some s → TakesImage o s → IsOfRolled members o
  of-gained members w t s o among none some takes =
      let why = gained-why w t s none some in record {
        member = member_at_trial w t;
        why = why.0;
        choice = takes.0;
        among = among;
        fails = why.2;
        rule = why.1;
        takes = takes.1;
        window = ap (λ (x : Started). x.window) takes.2 ∙ gained-window w t s some;
      }

  unit-rolled : (u : SlotUnit) (updated : Option Member) (tail : List LookedMember)
      → (unit_choice (λ w t. images_in (unread_content c) cpu w t) u updated ≡ unit_choice (images_in c cpu) u updated)
      ⊎ IsOfRolled (members_of (report_on (results_in c cpu) u updated) updated ++ tail)
      (unit_choice (λ w t. images_in (unread_content c) cpu w t) u updated)
  unit-rolled u updated tail =
      elim (rolled u updated (images_in (unread_content c) cpu u.a (is_member updated A))
      (images_in c cpu u.a (is_member updated A))
      (option_and_then (λ w. images_in (unread_content c) cpu w (is_member updated B)) u.b)
      (option_and_then (λ w. images_in c cpu w (is_member updated B)) u.b)
      (alike-at u.a (is_member updated A)) (alike-second u.b (is_member updated B))) [
        | inl e ↦ inl (as-members (λ w t. images_in (unread_content c) cpu w t) u updated ∙ e
            ∙ sym (as-members (images_in c cpu) u updated))
        | inr (inl one) ↦ inr (of-gained _ u.a (is_member updated A) one.0 _ (inl refl) one.1 one.2
            (moved one.0 one.3))
        | inr (inr two) ↦ inr (by-second u.b refl two.0 two.1 two.2 (moved two.0 two.3))
      ]
    where
      moved : (s : Started)
          → TakesImage (of_members u updated (images_in (unread_content c) cpu u.a (is_member updated A))
          (option_and_then (λ w. images_in (unread_content c) cpu w (is_member updated B)) u.b)) s
          → TakesImage (unit_choice (λ w t. images_in (unread_content c) cpu w t) u updated) s
      moved s takes =
          (takes.0, as-members (λ w t. images_in (unread_content c) cpu w t) u updated ∙ takes.1, takes.2)

      seconds : Option Window → List LookedMember
      seconds o = second_looked (is_member updated B) o (second_image (results_in c cpu) updated o)

      second-in : (w : Window) (o : Option Window) → o ≡ Some w
          → IsIn (member_at_trial w (is_member updated B)) (seconds o ++ tail)
      second-in w None e = cc
      second-in w (Some v) e = inl (ap (λ x. member_at_trial x (is_member updated B)) (same_Some v w e))

      by-second : (o : Option Window) → u.b ≡ o → (t : Started)
          → option_and_then (λ w. images_in c cpu w (is_member updated B)) o ≡ None
          → option_and_then (λ w. images_in (unread_content c) cpu w (is_member updated B)) o ≡ Some t
          → TakesImage (unit_choice (λ w t. images_in (unread_content c) cpu w t) u updated) t
          → IsOfRolled (members_of (report_on (results_in c cpu) u updated) updated ++ tail)
          (unit_choice (λ w t. images_in (unread_content c) cpu w t) u updated)
      by-second None e t none some takes = cc
      by-second (Some w) e t none some takes =
          of-gained _ w (is_member updated B) t _ (inr (second-in w u.b e)) none some takes

  pub ordered-rolled : (us : List SlotUnit) (updated : Option Member)
      → (ordered_choice (λ w t. images_in (unread_content c) cpu w t) us updated
      ≡ ordered_choice (images_in c cpu) us updated)
      ⊎ IsOfRolled (looked_members (reports_of (results_in c cpu) us updated) updated)
      (ordered_choice (λ w t. images_in (unread_content c) cpu w t) us updated)
  ordered-rolled [] updated = inl refl
  ordered-rolled (u ∷ us) updated =
      go (is_some (report_on (results_in c cpu) u updated).taken) refl (ordered-rolled us None)
    where
      now : Option Choice
      now = unit_choice (λ w t. images_in (unread_content c) cpu w t) u updated

      later : Option Choice
      later = ordered_choice (λ w t. images_in (unread_content c) cpu w t) us None

      taking : is_some (report_on (results_in c cpu) u updated).taken
          ≡ is_some (unit_choice (images_in c cpu) u updated)
      taking =
          takes-choice u updated (report_on (results_in c cpu) u updated).first
          (report_on (results_in c cpu) u updated).second
          ∙ ap is_some (choice-of-unit c cpu u updated)

      chosen : (o p : Option Choice) (x y : Option Choice) → o ≡ p → is_some p ≡ true → option_or o x ≡ option_or p y
      chosen o None x y e some = cc
      chosen o (Some z) x y e some = ap (λ q. option_or q x) e

      passed : (o p : Option Choice) (x y : Option Choice) → o ≡ p → is_some p ≡ false → x ≡ y
          → option_or o x ≡ option_or p y
      passed o None x y e none rest = ap (λ q. option_or q x) e ∙ rest
      passed o (Some z) x y e none rest = cc

      past : (o p x : Option Choice) → o ≡ p → is_some p ≡ false → x ≡ option_or o x
      past o None x e none = sym (ap (λ q. option_or q x) e)
      past o (Some z) x e none = cc

      first-taken : (members : List LookedMember) (o x : Option Choice) → IsOfRolled members o
          → IsOfRolled members (option_or o x)
      first-taken members o x is =
          more-members members members (Some is.choice) (option_or o x) (sym (ap (λ q. option_or q x) is.takes))
          (λ m h. h) (record {
            member = is.member;
            why = is.why;
            choice = is.choice;
            among = is.among;
            fails = is.fails;
            rule = is.rule;
            takes = refl;
            window = is.window;
          })

      go : (takes : Bool) → is_some (report_on (results_in c cpu) u updated).taken ≡ takes
          → ((ordered_choice (λ w t. images_in (unread_content c) cpu w t) us None
          ≡ ordered_choice (images_in c cpu) us None)
          ⊎ IsOfRolled (looked_members (reports_of (results_in c cpu) us None) None)
          (ordered_choice (λ w t. images_in (unread_content c) cpu w t) us None))
          → (option_or (unit_choice (λ w t. images_in (unread_content c) cpu w t) u updated)
          (ordered_choice (λ w t. images_in (unread_content c) cpu w t) us None)
          ≡ option_or (unit_choice (images_in c cpu) u updated) (ordered_choice (images_in c cpu) us None))
          ⊎ IsOfRolled (members_of (report_on (results_in c cpu) u updated) updated
          ++ looked_members (cond takes [] (reports_of (results_in c cpu) us None)) None)
          (option_or (unit_choice (λ w t. images_in (unread_content c) cpu w t) u updated)
          (ordered_choice (λ w t. images_in (unread_content c) cpu w t) us None))
      go true is rest = elim (unit-rolled u updated []) [
        | inl e ↦ inl (chosen now (unit_choice (images_in c cpu) u updated) _ _ e (sym taking ∙ is))
        | inr here ↦ inr (first-taken _ now later here)
      ]
      go false is rest =
          elim (unit-rolled u updated (looked_members (reports_of (results_in c cpu) us None) None)) [
            | inl e ↦ elim rest [
              | inl same_rest ↦ inl (passed now (unit_choice (images_in c cpu) u updated) later _ e
                  (sym taking ∙ is) same_rest)
              | inr there ↦ inr (more-members (looked_members (reports_of (results_in c cpu) us None) None) _ later _
                  (past now (unit_choice (images_in c cpu) u updated) later e (sym taking ∙ is))
                  (λ m h. in-right m (members_of (report_on (results_in c cpu) u updated) updated) _ h) there)
            ]
            | inr here ↦ inr (first-taken _ now later here)
          ]

-- ---- its line

may-one : (o : Option Window) (w : Window) (r : Result Started Why) (why : Why) → r ≡ Err why → IsRollback why
    → is_at o w ≡ true → may_start o w r ≡ Some (MayStart w why)
may-one o w r why e rule at =
    ap (λ (x : Result Started Why). may_start o w x) e
    ∙ ap (λ b. caveat_if b (MayStart w why))
    (later (is_doubtful why) _ (both (is_rollback why) (is_at o w) ((rolled-decides why).1 rule) at))
  where
    later : (a b : Bool) → b ≡ true → (a || b) ≡ true
    later true b h = refl
    later false b h = h

    both : (a b : Bool) → a ≡ true → b ≡ true → (a && b) ≡ true
    both true true h g = refl
    both true false h g = cc
    both false b h g = cc

may-listed : (o : Option Window) (looks : List UnitReport) (updated : Option Member) (m : LookedMember) (why : Why)
    → IsIn m (looked_members looks updated) → m.image ≡ Err why → IsRollback why → is_at o m.window ≡ true
    → Contains (flat_map (look_may_start o) looks) (MayStart m.window why)
may-listed o [] updated m why is fails rule at = absurd is
may-listed o (look ∷ looks) updated m why (inl e) fails rule at =
    Contains-append_left _ _ _ (Contains-append_left _ _ _ (contains-one _ _
    (may-one o look.unit.a look.first why (ap (λ (x : LookedMember). x.image) e ∙ fails) rule
    (ap (is_at o) (ap (λ (x : LookedMember). x.window) e) ∙ at)
    ∙ ap (λ w. Some (MayStart w why)) (ap (λ (x : LookedMember). x.window) e))))
may-listed o (look ∷ looks) updated m why (inr is) fails rule at =
    go look.unit.b look.second is (λ h. may-listed o looks None m why h fails rule at)
  where
    go : (second : Option Window) (r : Option (Result Started Why))
        → IsIn m (second_looked (is_member updated B) second r ++ looked_members looks None)
        → (IsIn m (looked_members looks None) → Contains (flat_map (look_may_start o) looks) (MayStart m.window why))
        → Contains ((option_to_list (may_start o look.unit.a look.first)
        ++ option_to_list (second_may_start o second r)) ++ flat_map (look_may_start o) looks) (MayStart m.window why)
    go None r h rest =
        Contains-append_right
        (option_to_list (may_start o look.unit.a look.first)
        ++ option_to_list (second_may_start o None r))
        (flat_map (look_may_start o) looks) (MayStart m.window why) (rest h)
    go (Some w) None h rest =
        Contains-append_right
        (option_to_list (may_start o look.unit.a look.first)
        ++ option_to_list (second_may_start o (Some w) None))
        (flat_map (look_may_start o) looks) (MayStart m.window why) (rest h)
    go (Some w) (Some image) (inl e) rest =
        Contains-append_left
        (option_to_list (may_start o look.unit.a look.first)
        ++ option_to_list (second_may_start o (Some w) (Some image)))
        (flat_map (look_may_start o) looks) (MayStart m.window why)
        (Contains-append_right (option_to_list (may_start o look.unit.a look.first))
        (option_to_list (second_may_start o (Some w) (Some image))) (MayStart m.window why)
        (contains-one (second_may_start o (Some w) (Some image)) (MayStart m.window why)
        (may-one o w image why (ap (λ (x : LookedMember). x.image) e ∙ fails) rule
        (ap (is_at o) (ap (λ (x : LookedMember). x.window) e) ∙ at)
        ∙ ap (λ v. Some (MayStart v why)) (ap (λ (x : LookedMember). x.window) e))))
    go (Some w) (Some image) (inr h) rest =
        Contains-append_right
        (option_to_list (may_start o look.unit.a look.first)
        ++ option_to_list (second_may_start o (Some w) (Some image)))
        (flat_map (look_may_start o) looks) (MayStart m.window why) (rest h)

-- ---- the decision

reported-when : (kind : BootKind) (off : Bool) (o : Option Choice) → does_report kind off ≡ true
    → reported_decision kind off o ≡ decision_of o
reported-when AskBootsel off o e = cc
reported-when Normal true o e = cc
reported-when Normal false o e = refl
reported-when (Update base) true o e = cc
reported-when (Update base) false o e = refl

module _ (c : Content) (cpu : Cpu) (kind : BootKind) where
  abbrev unread_choice : Option Choice
  unread_choice = choose (λ w t. images_in (unread_content c) cpu w t) (order_of kind (boot_units_in c cpu))

  unread-decided : decision_in (unread_content c) cpu kind
      ≡ reported_decision kind (flash_off c.otp)
      (choose (λ w t. images_in (unread_content c) cpu w t) (order_of kind (boot_units_in c cpu)))
  unread-decided =
      decided (unread_content c) cpu kind
      ∙ (ap (λ off. reported_decision kind off
      (choose (images_in (unread_content c) cpu) (order_of kind (boot_units_in (unread_content c) cpu))))
      (same-off c.otp)
      ∙ ap (λ us. reported_decision kind (flash_off c.otp)
      (choose (images_in (unread_content c) cpu) (order_of kind us))) (same-units c cpu))

  -- where the choice is that of a member which fails the rule, the boot starts in its window
  starts-there : (o : Option Choice) (choice : Choice) (w : Window) → does_report kind (flash_off c.otp) ≡ true
      → choose (λ w t. images_in (unread_content c) cpu w t) (order_of kind (boot_units_in c cpu)) ≡ o
      → o ≡ Some choice → choice.image.window ≡ w → unread_window c cpu kind ≡ Some w
  starts-there o choice w does is takes at =
      ap started_window (unread-decided
      ∙ (reported-when kind (flash_off c.otp) _ does ∙ ap decision_of (is ∙ takes))) ∙ ap Some at

  module _ (list : List Caveat) (are : AreCaveats c cpu kind list) where
    listed : (m : LookedMember) (why : Why) → does_report kind (flash_off c.otp) ≡ true
        → IsIn m (looked_members (reports_of (results_in c cpu) (order_of kind (boot_units_in c cpu)).units
        (updated_in c cpu kind)) (updated_in c cpu kind))
        → m.image ≡ Err why → IsRollback why → unread_window c cpu kind ≡ Some m.window
        → Contains list (MayStart m.window why)
    unfolding reasons_in
    listed m why does is fails rule at =
        let r = reasons_in c cpu kind in
        subst (λ (xs : List Caveat). Contains xs (MayStart m.window why)) (sym (caveats-only c cpu kind list are))
        (in-windows c cpu kind (MayStart m.window why)
        (Contains-append_right (late_firsts c r.decision r.size r.looks.items) _ _
        (Contains-append_right (filter_map (item_order c cpu) (looked_windows r.looks.items)) _ _
        (Contains-append_left _ _ _ (may-listed (unread_window c cpu kind) (reports_in c cpu kind)
        (updated_in c cpu kind) m why
        (subst (λ (looks : List UnitReport). IsIn m (looked_members looks (updated_in c cpu kind)))
        (sym (reports-when c cpu kind does)) is) fails rule
        (ap (λ o. is_at o m.window) at ∙ (window-decides m.window m.window).1 refl))))))

    module _ (never : (w : Window) (why : Why) → IsRollback why → Contains list (MayStart w why) → ⊥) where
      same-choice : does_report kind (flash_off c.otp) ≡ true
          → choose (λ w t. images_in (unread_content c) cpu w t) (order_of kind (boot_units_in c cpu))
          ≡ choose (images_in c cpu) (order_of kind (boot_units_in c cpu))
      same-choice does =
          elim (ordered-rolled c cpu (order_of kind (boot_units_in c cpu)).units
          (order_of kind (boot_units_in c cpu)).updated) [
            | inl e ↦ e
            | inr is ↦ absurd (never is.member.window is.why is.rule
                (listed is.member is.why does is.among is.fails is.rule
                (starts-there _ is.choice is.member.window does refl is.takes is.window)))
          ]

      pub unread-doubt : Chosen c cpu kind (decision_in (unread_content c) cpu kind)
      unread-doubt =
          subst (λ (d : Decision). Chosen c cpu kind d) (sym unread-decided)
          (same-chosen c cpu kind
          (choose (λ w t. images_in (unread_content c) cpu w t) (order_of kind (boot_units_in c cpu))) same-choice)

-- ---- exactly where there is such a line

-- the images of a report are those of the content
module _ (c : Content) (cpu : Cpu) where
  abbrev ImagesOf : UnitReport → Type 0
  ImagesOf look = ((t : Bool) × (look.first ≡ results_in c cpu look.unit.a t))
      × ((w : Window) → look.unit.b ≡ Some w → (t : Bool) × (look.second ≡ Some (results_in c cpu w t)))

  of-report : (u : SlotUnit) (updated : Option Member) → ImagesOf (report_on (results_in c cpu) u updated)
  of-report u updated = (
    (is_member updated A, refl),
    λ w e. (is_member updated B, ap (second_image (results_in c cpu) updated) e),
  )

  report-images : (us : List SlotUnit) (updated : Option Member) (look : UnitReport)
      → Contains (reports_of (results_in c cpu) us updated) look → ImagesOf look
  report-images [] updated look is = absurd (omega (arith, is.1))
  report-images (u ∷ us) updated look is =
      go (is_some (report_on (results_in c cpu) u updated).taken) is (λ h. report-images us None look h)
    where
      go : (takes : Bool)
          → Contains (report_on (results_in c cpu) u updated
          ∷ cond takes [] (reports_of (results_in c cpu) us None)) look
          → (Contains (reports_of (results_in c cpu) us None) look → ImagesOf look) → ImagesOf look
      go takes (zero, lt, e) rest = subst ImagesOf e (of-report u updated)
      go true (suc k, lt, e) rest = absurd (omega (arith, lt))
      go false (suc k, lt, e) rest = rest (k, omega (arith, lt), e)

module _ (c : Content) (cpu : Cpu) (kind : BootKind) where
  -- a window whose image fails the rule is not that of the model's start
  fails-image : (look : UnitReport) (w : Window) (why : Why) → ImagesOf c cpu look → FailsIn look w why
      → (t : Bool) × (image_at c w cpu t ≡ Err why)
  fails-image look w why images (inl one) =
      (images.0.0, ap (λ v. image_at c v cpu images.0.0) (sym one.0) ∙ (sym images.0.1 ∙ one.1))
  fails-image look w why images (inr two) =
      let second = images.1 w two.0 in
      (second.0, same_Some (image_at c w cpu second.0) (Err why) (sym second.1 ∙ two.1))

  -- the list has such a line
  abbrev HasLine : List Caveat → Type 0
  HasLine list = (w : Window) × (why : Why) × IsRollback why × Contains list (MayStart w why)

  module _ (list : List Caveat) (are : AreCaveats c cpu kind list) where
    other-start : HasLine list → Chosen c cpu kind (decision_unread c cpu kind) → ⊥
    unfolding reasons_in
    other-start line chosen =
        let told = listed-line c cpu kind list are line.0 line.1 line.2 line.3 in
        let same = reasons-only c cpu kind are.reasons are.explained in
        let images = report-images c cpu (order_in c cpu kind).units (order_in c cpu kind).updated told.0.0
        (subst (λ (x : Reasons). Contains x.looks.items told.0.0) same told.0.1) in
        let starts = told.1.2 in
        let decided_is = chosen-decision (unread_content c) cpu kind told.1.0 told.1.1 in
        let start = chosen-start c cpu kind starts.0
        (subst (λ (d : Decision). Chosen c cpu kind d) (sym decided_is ∙ starts.1) chosen) in
        let counts = start.counts in
        let trial = is_updated (order_of kind (boot_units_in c cpu)) start.place starts.0.member in
        let at = sym (valid-window c counts.window cpu trial starts.0.image counts.valid) ∙ starts.2 in
        let err = fails-image told.0.0 line.0 line.1 images told.0.2 in
        unrolled c line.0 cpu trial err.0 starts.0.image line.1
        (ap (λ v. image_at c v cpu trial) (sym at)
        ∙ at-valid c counts.window cpu trial starts.0.image counts.valid)
        err.1 line.2

    here-line : (Chosen c cpu kind (decision_unread c cpu kind) → ⊥) → HasLine list
    here-line never = go (does_report kind (flash_off c.otp)) refl
      where
        alike : (does_report kind (flash_off c.otp) ≡ true
            → choose (λ w t. images_in (unread_content c) cpu w t) (order_of kind (boot_units_in c cpu))
            ≡ choose (images_in c cpu) (order_of kind (boot_units_in c cpu)))
            → Chosen c cpu kind (decision_unread c cpu kind)
        alike agrees =
            subst (λ (d : Decision). Chosen c cpu kind d) (sym (unread-decided c cpu kind))
            (same-chosen c cpu kind
            (choose (λ w t. images_in (unread_content c) cpu w t) (order_of kind (boot_units_in c cpu))) agrees)

        clash : (b : Bool) → b ≡ false → b ≡ true → ⊥
        clash b e f = cc

        go : (does : Bool) → does_report kind (flash_off c.otp) ≡ does → HasLine list
        go false off = absurd (never (alike (λ on. absurd (clash (does_report kind (flash_off c.otp)) off on))))
        go true on = elim (ordered-rolled c cpu (order_of kind (boot_units_in c cpu)).units
            (order_of kind (boot_units_in c cpu)).updated) [
              | inl e ↦ absurd (never (alike (λ again. e)))
              | inr is ↦ (
                is.member.window,
                is.why,
                is.rule,
                listed c cpu kind list are is.member is.why on is.among is.fails is.rule
                    (starts-there c cpu kind _ is.choice is.member.window on refl is.takes is.window),
              )
            ]

    pub unread-exactly : HasLine list ↔ (Chosen c cpu kind (decision_unread c cpu kind) → ⊥)
    unread-exactly = (other-start, here-line)
