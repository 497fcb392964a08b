-- No caveat, no doubt: each member without an image is judged for the other processor too.
use Rattle.std.proofs.Common.{◌≡◌, ◌&&◌, not, Bool, true, false, cond, List, [], ◌∷◌, ◌++◌, Option, Some, None, Result, Ok, Err, is_some, option_map, option_and_then, refl, sym, ap, ◌∙◌, subst, inl, inr}
use Rattle.std.specs.Prelude.{Contains, is_ok}
use Rattle.std.specs.Option.{option_or}
use Rattle.std.specs.Result.{result_ok}
use Rattle.std.proofs.lemmas.List.Elements.{Contains-append_left}
use Rattle.std.proofs.lemmas.Option.{same_Some}
use Rattle.pico_board.specs.declared.boot.Cpu.{Cpu}
use Rattle.pico_board.specs.declared.boot.BootKind.{BootKind}
use Rattle.pico_board.specs.declared.window.Window.{Window}
use Rattle.pico_board.specs.Content.{Content}
use Rattle.image_def.specs.declared.started.Started.{Started}
use Rattle.image_check.specs.declared.why.Why.{Why}
use Rattle.image_check.specs.Image.{image_at}
use Rattle.slot_choice.specs.declared.unit.Member.{Member}
use Rattle.slot_choice.specs.declared.unit.Member.TheVariants.{A, B}
use Rattle.slot_choice.specs.declared.unit.SlotUnit.{SlotUnit}
use Rattle.slot_choice.specs.declared.choice.Choice.{Choice}
use Rattle.slot_choice.specs.Versions.{better}
use Rattle.boot_rules.specs.Choosing.{boot_units_in, choice_of, choose, images_in, of_better, order_of, ordered_choice, unit_choice, version_of_image}
use Rattle.boot_rules.specs.Chosen.{Chosen, is_member}
use Rattle.boot_reasons.specs.declared.looks.UnitReport.{UnitReport}
use Rattle.boot_reasons.specs.Looks.{report_on, reports_of, second_image}
use Rattle.boot_reasons.specs.Reasons.{reasons_in, reports_in, results_in}
use Rattle.boot_reasons.proofs.LookLemmas.{choice-of-unit, takes-choice}
use Rattle.slot_caveats.specs.declared.caveat.Caveat.{Caveat}
use Rattle.slot_caveats.specs.declared.caveat.Caveat.TheVariants.{OtherProcessor}
use Rattle.boot_caveats.specs.Rules.{AreCaveats}
use Rattle.boot_caveats.specs.ChoiceCaveats.{other_cpu}
use Rattle.boot_caveats.specs.ProcessorCaveats.{LookedMember, looked_members, members_of, other_window, second_looked, updated_in}
use Rattle.law_caveats.specs.Alternatives.{decision_of_both, images_of_both}
use Rattle.boot_caveats.proofs.CaveatLemmas.{caveats-only}
use Rattle.law_caveats.proofs.DoubtLemmas.{IsIn, in-choice, in-filtered, in-right, reports-when, same-chosen}
use Rattle.boot_caveats.proofs.ProcessorLemmas.{member-listed}

-- ---- images that agree with a trial image allowed as it is

module _ (others images : Window → Bool → Option Started) (u : SlotUnit) where
  abbrev AgreesAt : Window → Bool → Type 0
  AgreesAt w trial = others w trial ≡ images w trial

  second-at : (o : Option Window) → u.b ≡ o → (trial : Bool) → ((w : Window) → u.b ≡ Some w → AgreesAt w trial)
      → option_and_then (λ w. others w trial) o ≡ option_and_then (λ w. images w trial) o
  second-at None e trial agree = refl
  second-at (Some w) e trial agree = agree w e

  unit-agrees-at : (updated : Option Member) → AgreesAt u.a (is_member updated A)
      → ((w : Window) → u.b ≡ Some w → AgreesAt w (is_member updated B))
      → unit_choice others u updated ≡ unit_choice images u updated
  unit-agrees-at None one two =
      ap (λ a. of_better u (better (version_of_image a)
      (version_of_image (option_and_then (λ w. others w false) u.b))) a
      (option_and_then (λ w. others w false) u.b)) one
      ∙ ap (λ b. of_better u (better (version_of_image (images u.a false)) (version_of_image b))
      (images u.a false) b) (second-at u.b refl false two)
  unit-agrees-at (Some A) one two =
      ap (λ a. option_or (option_map (choice_of u A true) a)
      (option_map (choice_of u B false) (option_and_then (λ w. others w false) u.b))) one
      ∙ ap (λ b. option_or (option_map (choice_of u A true) (images u.a true))
      (option_map (choice_of u B false) b)) (second-at u.b refl false two)
  unit-agrees-at (Some B) one two =
      ap (λ b. option_or (option_map (choice_of u B true) b)
      (option_map (choice_of u A false) (others u.a false))) (second-at u.b refl true two)
      ∙ ap (λ a. option_or (option_map (choice_of u B true) (option_and_then (λ w. images w true) u.b))
      (option_map (choice_of u A false) a)) one

-- a choice among units whose members' images agree, as far as they are looked at
module _ (c : Content) (cpu : Cpu) (others : Window → Bool → Option Started) where
  abbrev Agrees : LookedMember → Type 0
  Agrees m = m.image ≡ results_in c cpu m.window m.trial
      → others m.window m.trial ≡ images_in c cpu m.window m.trial

  pub choice-agrees-at : (us : List SlotUnit) (updated : Option Member)
      → ((m : LookedMember) → IsIn m (looked_members (reports_of (results_in c cpu) us updated) updated) → Agrees m)
      → ordered_choice others us updated ≡ ordered_choice (images_in c cpu) us updated
  choice-agrees-at [] updated agree = refl
  choice-agrees-at (u ∷ us) updated agree =
      go (is_some look.taken) refl agree (λ h. choice-agrees-at us None h)
    where
      look : UnitReport
      look = report_on (results_in c cpu) u updated

      taking : is_some (report_on (results_in c cpu) u updated).taken
          ≡ is_some (unit_choice (images_in c cpu) u updated)
      taking =
          takes-choice u updated (report_on (results_in c cpu) u updated).first
          (report_on (results_in c cpu) u updated).second
          ∙ ap is_some (choice-of-unit c cpu u updated)

      chosen : (o p : Option Choice) (x y : Option Choice) → o ≡ p → is_some p ≡ true → option_or o x ≡ option_or p y
      chosen o None x y e some = cc
      chosen o (Some z) x y e some = ap (λ q. option_or q x) e

      passed : (o p : Option Choice) (x y : Option Choice) → o ≡ p → is_some p ≡ false → x ≡ y
          → option_or o x ≡ option_or p y
      passed o None x y e none same = ap (λ q. option_or q x) e ∙ same
      passed o (Some z) x y e none same = cc

      member_at_trial : Window → Bool → LookedMember
      member_at_trial w trial = record { window = w; image = results_in c cpu w trial; trial = trial }

      seconds : Option Window → List LookedMember
      seconds o = second_looked (is_member updated B) o (second_image (results_in c cpu) updated o)

      second-in : (tail : List LookedMember) (w : Window) (o : Option Window) → o ≡ Some w
          → IsIn (member_at_trial w (is_member updated B)) (seconds o ++ tail)
      second-in tail w None e = cc
      second-in tail w (Some v) e =
          inl (ap (λ x. member_at_trial x (is_member updated B)) (same_Some v w e))

      unit-same : (tail : List LookedMember)
          → ((m : LookedMember)
          → IsIn m (members_of (report_on (results_in c cpu) u updated) updated ++ tail) → Agrees m)
          → unit_choice others u updated ≡ unit_choice (images_in c cpu) u updated
      unit-same tail on =
          unit-agrees-at others (images_in c cpu) u updated
          (on (member_at_trial u.a (is_member updated A)) (inl refl) refl)
          (λ w e. on (member_at_trial w (is_member updated B)) (inr (second-in tail w u.b e)) refl)

      go : (takes : Bool) → is_some (report_on (results_in c cpu) u updated).taken ≡ takes
          → ((m : LookedMember)
          → IsIn m (members_of (report_on (results_in c cpu) u updated) updated
          ++ looked_members (cond takes [] (reports_of (results_in c cpu) us None)) None) → Agrees m)
          → (((m : LookedMember) → IsIn m (looked_members (reports_of (results_in c cpu) us None) None) → Agrees m)
          → ordered_choice others us None ≡ ordered_choice (images_in c cpu) us None)
          → option_or (unit_choice others u updated) (ordered_choice others us None)
          ≡ option_or (unit_choice (images_in c cpu) u updated) (ordered_choice (images_in c cpu) us None)
      go true is on more =
          chosen (unit_choice others u updated) (unit_choice (images_in c cpu) u updated) _ _
          (unit-same [] on) (sym taking ∙ is)
      go false is on more =
          passed (unit_choice others u updated) (unit_choice (images_in c cpu) u updated) _ _
          (unit-same (looked_members (reports_of (results_in c cpu) us None) None) on) (sym taking ∙ is)
          (more (λ m h. on m
          (in-right m (members_of (report_on (results_in c cpu) u updated) updated)
          (looked_members (reports_of (results_in c cpu) us None) None) h)))

-- ---- the other processor

module _ (c : Content) (cpu : Cpu) (kind : BootKind) (list : List Caveat) (are : AreCaveats c cpu kind list)
    (never : (w : Window) → Contains list (OtherProcessor w) → ⊥) where
  abbrev members : List LookedMember
  members = looked_members (reports_in c cpu kind) (updated_in c cpu kind)

  told : (m : LookedMember) → IsIn m members → other_window c cpu m ≡ Some m.window → ⊥
  unfolding reasons_in
  told m is e =
      never m.window (subst (λ (xs : List Caveat). Contains xs (OtherProcessor m.window))
      (sym (caveats-only c cpu kind list are))
      (in-choice c cpu kind (OtherProcessor m.window)
      (Contains-append_left _ _ _ (member-listed c cpu kind (reasons_in c cpu kind).decision
      (looked_members (reasons_in c cpu kind).looks.items (updated_in c cpu kind)) m.window
      (in-filtered (other_window c cpu) m m.window (looked_members (reports_in c cpu kind) (updated_in c cpu kind))
      is e)))))

  same : (m : LookedMember) → IsIn m members → m.image ≡ results_in c cpu m.window m.trial
      → images_of_both c cpu m.window m.trial ≡ images_in c cpu m.window m.trial
  same m is image =
      go (image_at c m.window cpu m.trial) refl (image_at c m.window (other_cpu cpu) m.trial) refl
    where
      go : (r : Result Started Why) → image_at c m.window cpu m.trial ≡ r → (q : Result Started Why)
          → image_at c m.window (other_cpu cpu) m.trial ≡ q → option_or (result_ok r) (result_ok q) ≡ result_ok r
      go (Ok s) here q there = refl
      go (Err why) here (Err other) there = refl
      go (Err why) here (Ok s) there =
          absurd (told m is
          (ap (λ (r : Result Started Why). cond (not (is_ok r)
          && is_ok (image_at c m.window (other_cpu cpu) m.trial)) (Some m.window) None) (image ∙ here)
          ∙ ap (λ (r : Result Started Why). cond (is_ok r) (Some m.window) None) there))

  pub both-doubt : Chosen c cpu kind (decision_of_both c cpu kind)
  both-doubt =
      same-chosen c cpu kind (choose (images_of_both c cpu) (order_of kind (boot_units_in c cpu)))
      (λ does. choice-agrees-at c cpu (images_of_both c cpu) (order_of kind (boot_units_in c cpu)).units
      (order_of kind (boot_units_in c cpu)).updated
      (λ m is. same m (subst (λ (looks : List UnitReport). IsIn m (looked_members looks (updated_in c cpu kind)))
      (sym (reports-when c cpu kind does)) is)))
