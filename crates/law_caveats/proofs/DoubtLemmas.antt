-- What follows for the decision of a boot from caveats that are not listed: what the laws share.
use Rattle.std.proofs.Common.{◌≡◌, ◌⊎◌, suc, Bool, true, false, cond, List, [], ◌∷◌, ◌++◌, Option, Some, None, is_some, option_and_then, option_map, refl, sym, ap, ◌∙◌, subst, inl, inr, arith}
use Rattle.std.specs.Prelude.{Contains, option_to_list}
use Rattle.std.specs.List.{cons_option, filter_map}
use Rattle.std.specs.Option.{option_or}
use Rattle.std.proofs.lemmas.List.Elements.{Contains-append_left, Contains-append_right}
use Rattle.pico_board.specs.declared.boot.Cpu.{Cpu}
use Rattle.pico_board.specs.declared.boot.BootKind.{BootKind}
use Rattle.pico_board.specs.declared.boot.BootKind.TheVariants.{Normal, Update, Bootsel as AskBootsel}
use Rattle.pico_board.specs.declared.window.Window.{Window}
use Rattle.pico_board.specs.Content.{Content}
use Rattle.image_def.specs.declared.started.Started.{Started}
use Rattle.otp_roll.specs.Flags.{flash_off}
use Rattle.slot_choice.specs.declared.unit.Member.{Member}
use Rattle.slot_choice.specs.declared.unit.Member.TheVariants.{A, B}
use Rattle.slot_choice.specs.declared.unit.SlotUnit.{SlotUnit}
use Rattle.slot_choice.specs.declared.choice.Choice.{Choice}
use Rattle.slot_choice.specs.Versions.{better}
use Rattle.boot_rules.specs.declared.decision.Decision.{Decision}
use Rattle.boot_rules.specs.declared.decision.Decision.TheVariants.{Bootsel}
use Rattle.boot_rules.specs.declared.decision.Fall.TheVariants.{NoImage}
use Rattle.boot_rules.specs.Choosing.{boot_units_in, choice_of, choose, decision_in, decision_of, images_in, member_image, of_better, order_of, ordered_choice, unit_choice, version_of_image}
use Rattle.boot_rules.specs.Chosen.{Chosen}
use Rattle.boot_rules.proofs.DecisionLemmas.{chosen-decision, decision-chosen}
use Rattle.boot_reasons.specs.declared.looks.UnitReport.{UnitReport}
use Rattle.boot_reasons.specs.Looks.{report_on, reports_of}
use Rattle.boot_reasons.specs.Reasons.{does_report, order_where, reasons_in, reported_decision, reports_in, results_in}
use Rattle.boot_reasons.proofs.LookLemmas.{choice-of-unit, takes-choice}
use Rattle.boot_reasons.proofs.ReasonLemmas.{reasons-right}
use Rattle.slot_caveats.specs.declared.caveat.Caveat.{Caveat}
use Rattle.boot_caveats.specs.Caveats.{board_caveats, caveats_by, caveats_in, choice_caveats, last_caveats, window_caveats}
use Rattle.boot_caveats.specs.ImageCaveats.{looked_windows, unit_windows}

-- ---- what a list contains

pub contains-one : {X : Type 0} (o : Option X) (x : X) → o ≡ Some x → Contains (option_to_list o) x
contains-one {X} o x e =
    subst (λ (p : Option X). Contains (option_to_list p) x) (sym e) (0, omega arith, refl)

pub in-choice : (c : Content) (cpu : Cpu) (kind : BootKind) (x : Caveat)
    → Contains (choice_caveats c cpu kind (reasons_in c cpu kind)) x → Contains (caveats_in c cpu kind) x
unfolding caveats_by
in-choice c cpu kind x is =
    let r = reasons_in c cpu kind in
    let later = window_caveats c cpu kind r ++ last_caveats c cpu kind r in
    Contains-append_right (board_caveats c r) (choice_caveats c cpu kind r ++ later) x
    (Contains-append_left (choice_caveats c cpu kind r) later x is)

pub in-windows : (c : Content) (cpu : Cpu) (kind : BootKind) (x : Caveat)
    → Contains (window_caveats c cpu kind (reasons_in c cpu kind)) x → Contains (caveats_in c cpu kind) x
unfolding caveats_by
in-windows c cpu kind x is =
    let r = reasons_in c cpu kind in
    let later = window_caveats c cpu kind r ++ last_caveats c cpu kind r in
    Contains-append_right (board_caveats c r) (choice_caveats c cpu kind r ++ later) x
    (Contains-append_right (choice_caveats c cpu kind r) later x
    (Contains-append_left (window_caveats c cpu kind r) (last_caveats c cpu kind r) x is))

pub in-last : (c : Content) (cpu : Cpu) (kind : BootKind) (x : Caveat)
    → Contains (last_caveats c cpu kind (reasons_in c cpu kind)) x → Contains (caveats_in c cpu kind) x
unfolding caveats_by
in-last c cpu kind x is =
    let r = reasons_in c cpu kind in
    let later = window_caveats c cpu kind r ++ last_caveats c cpu kind r in
    Contains-append_right (board_caveats c r) (choice_caveats c cpu kind r ++ later) x
    (Contains-append_right (choice_caveats c cpu kind r) later x
    (Contains-append_right (window_caveats c cpu kind r) (last_caveats c cpu kind r) x is))

-- an element is one of a list
abbrev pub IsIn : {X : Type 0} → X → List X → Type 0
IsIn x [] = ⊥
IsIn x (y ∷ ys) = (y ≡ x) ⊎ IsIn x ys

pub in-contains : {X : Type 0} (x : X) (xs : List X) → IsIn x xs → Contains xs x
in-contains x [] is = absurd is
in-contains x (y ∷ ys) (inl e) = (0, omega arith, e)
in-contains x (y ∷ ys) (inr is) = let h = in-contains x ys is in (suc h.0, omega (arith, h.1), h.2)

pub in-left : {X : Type 0} (x : X) (xs ys : List X) → IsIn x xs → IsIn x (xs ++ ys)
in-left x [] ys is = absurd is
in-left x (y ∷ xs) ys (inl e) = inl e
in-left x (y ∷ xs) ys (inr is) = inr (in-left x xs ys is)

pub in-right : {X : Type 0} (x : X) (xs ys : List X) → IsIn x ys → IsIn x (xs ++ ys)
in-right x [] ys is = is
in-right x (y ∷ xs) ys is = inr (in-right x xs ys is)

-- what is listed of an element
pub in-filtered : {X Y : Type 0} (f : X → Option Y) (x : X) (y : Y) (xs : List X) → IsIn x xs → f x ≡ Some y
    → Contains (filter_map f xs) y
in-filtered f x y [] is e = absurd is
in-filtered {X} {Y} f x y (z ∷ zs) (inl same) e =
    subst (λ (o : Option Y). Contains (cons_option o (filter_map f zs)) y) (sym (ap f same ∙ e)) (0, omega arith, refl)
in-filtered {X} {Y} f x y (z ∷ zs) (inr is) e = behind (f z) (in-filtered f x y zs is e)
  where
    behind : (o : Option Y) → Contains (filter_map f zs) y → Contains (cons_option o (filter_map f zs)) y
    behind None h = h
    behind (Some w) h = (suc h.0, omega (arith, h.1), h.2)

-- ---- the decision by a choice

pub decided : (c : Content) (cpu : Cpu) (kind : BootKind)
    → decision_in c cpu kind
    ≡ reported_decision kind (flash_off c.otp) (choose (images_in c cpu) (order_of kind (boot_units_in c cpu)))
unfolding decision_in
decided c cpu AskBootsel = refl
decided c cpu Normal = refl
decided c cpu (Update base) = refl

-- two choices decide alike where a boot that looks at units makes the same of both
alike : (kind : BootKind) (off : Bool) (o p : Option Choice) → (does_report kind off ≡ true → o ≡ p)
    → reported_decision kind off o ≡ reported_decision kind off p
alike AskBootsel off o p same = refl
alike Normal true o p same = refl
alike Normal false o p same = ap decision_of (same refl)
alike (Update base) true o p same = refl
alike (Update base) false o p same = ap decision_of (same refl)

pub same-chosen : (c : Content) (cpu : Cpu) (kind : BootKind) (o : Option Choice)
    → (does_report kind (flash_off c.otp) ≡ true
    → o ≡ choose (images_in c cpu) (order_of kind (boot_units_in c cpu)))
    → Chosen c cpu kind (reported_decision kind (flash_off c.otp) o)
same-chosen c cpu kind o same =
    subst (λ (d : Decision). Chosen c cpu kind d)
    (decided c cpu kind ∙ sym (alike kind (flash_off c.otp) o
    (choose (images_in c cpu) (order_of kind (boot_units_in c cpu))) same))
    (decision-chosen c cpu kind)

-- where no image starts, a boot of the same kind decides by its choice
pub by-choice : (kind : BootKind) (off : Bool) (o p : Option Choice) → reported_decision kind off o ≡ Bootsel NoImage
    → reported_decision kind off p ≡ decision_of p
by-choice AskBootsel off o p e = cc
by-choice Normal true o p e = cc
by-choice Normal false o p e = refl
by-choice (Update base) true o p e = cc
by-choice (Update base) false o p e = refl

-- the decision of the reasons
pub reasons-decide : (c : Content) (cpu : Cpu) (kind : BootKind)
    → (reasons_in c cpu kind).decision ≡ decision_in c cpu kind
reasons-decide c cpu kind =
    chosen-decision c cpu kind (reasons_in c cpu kind).decision (reasons-right c cpu kind).decision

-- the reports of a boot that looks at units
pub reports-when : (c : Content) (cpu : Cpu) (kind : BootKind) → does_report kind (flash_off c.otp) ≡ true
    → reports_in c cpu kind
    ≡ reports_of (results_in c cpu) (order_of kind (boot_units_in c cpu)).units
    (order_of kind (boot_units_in c cpu)).updated
reports-when c cpu kind does =
    ap (λ b. reports_of (results_in c cpu) (order_where b kind c cpu).units (order_where b kind c cpu).updated) does

-- ---- other images

-- images agree on a window
abbrev pub AgreeOn : (Window → Bool → Option Started) → (Window → Bool → Option Started) → Window → Type 0
AgreeOn others images w = (trial : Bool) → others w trial ≡ images w trial

module _ (others images : Window → Bool → Option Started) (u : SlotUnit) (first : AgreeOn others images u.a)
    (second : (w : Window) → u.b ≡ Some w → AgreeOn others images w) where
  on-second : (o : Option Window) → u.b ≡ o → (trial : Bool)
      → option_and_then (λ w. others w trial) o ≡ option_and_then (λ w. images w trial) o
  on-second None e trial = refl
  on-second (Some w) e trial = second w e trial

  on-member : (m : Member) (trial : Bool) → member_image others u m trial ≡ member_image images u m trial
  on-member A trial = first trial
  on-member B trial = on-second u.b refl trial

  pub unit-agrees : (updated : Option Member) → unit_choice others u updated ≡ unit_choice images u updated
  unit-agrees None =
      ap (λ a. of_better u (better (version_of_image a) (version_of_image (member_image others u B false))) a
      (member_image others u B false)) (on-member A false)
      ∙ ap (λ b. of_better u (better (version_of_image (member_image images u A false)) (version_of_image b))
      (member_image images u A false) b) (on-member B false)
  unit-agrees (Some A) =
      ap (λ a. option_or (option_map (choice_of u A true) a)
      (option_map (choice_of u B false) (member_image others u B false))) (on-member A true)
      ∙ ap (λ b. option_or (option_map (choice_of u A true) (member_image images u A true))
      (option_map (choice_of u B false) b)) (on-member B false)
  unit-agrees (Some B) =
      ap (λ b. option_or (option_map (choice_of u B true) b)
      (option_map (choice_of u A false) (member_image others u A false))) (on-member B true)
      ∙ ap (λ a. option_or (option_map (choice_of u B true) (member_image images u B true))
      (option_map (choice_of u A false) a)) (on-member A false)

in-second : (u : SlotUnit) (rest : List Window) (w : Window) → u.b ≡ Some w
    → IsIn w (unit_windows u ++ rest)
in-second u rest w e = inr (go u.b e)
  where
    go : (o : Option Window) → o ≡ Some w → IsIn w (option_to_list o ++ rest)
    go None same = cc
    go (Some v) same = inl cc

-- a choice among units whose members' windows agree, as far as they are looked at
pub choice-agrees : (c : Content) (cpu : Cpu) (others : Window → Bool → Option Started) (us : List SlotUnit)
    (updated : Option Member)
    → ((w : Window) → IsIn w (looked_windows (reports_of (results_in c cpu) us updated))
    → AgreeOn others (images_in c cpu) w)
    → ordered_choice others us updated ≡ ordered_choice (images_in c cpu) us updated
choice-agrees c cpu others [] updated agree = refl
choice-agrees c cpu others (u ∷ us) updated agree =
    go (is_some look.taken) refl agree (λ h. choice-agrees c cpu others us None h)
  where
    look : UnitReport
    look = report_on (results_in c cpu) u updated

    rest : List UnitReport
    rest = reports_of (results_in c cpu) us None

    taking : is_some (report_on (results_in c cpu) u updated).taken ≡ is_some (unit_choice (images_in c cpu) u updated)
    taking =
        takes-choice u updated (report_on (results_in c cpu) u updated).first
        (report_on (results_in c cpu) u updated).second
        ∙ ap is_some (choice-of-unit c cpu u updated)

    chosen : (o p : Option Choice) (x y : Option Choice) → o ≡ p → is_some p ≡ true → option_or o x ≡ option_or p y
    chosen o None x y e some = cc
    chosen o (Some z) x y e some = ap (λ q. option_or q x) e

    passed : (o p : Option Choice) (x y : Option Choice) → o ≡ p → is_some p ≡ false → x ≡ y
        → option_or o x ≡ option_or p y
    passed o None x y e none same = ap (λ q. option_or q x) e ∙ same
    passed o (Some z) x y e none same = cc

    go : (takes : Bool) → is_some (report_on (results_in c cpu) u updated).taken ≡ takes
        → ((w : Window)
        → IsIn w (unit_windows u ++ looked_windows (cond takes [] (reports_of (results_in c cpu) us None)))
        → AgreeOn others (images_in c cpu) w)
        → (((w : Window) → IsIn w (looked_windows (reports_of (results_in c cpu) us None))
        → AgreeOn others (images_in c cpu) w)
        → ordered_choice others us None ≡ ordered_choice (images_in c cpu) us None)
        → option_or (unit_choice others u updated) (ordered_choice others us None)
        ≡ option_or (unit_choice (images_in c cpu) u updated) (ordered_choice (images_in c cpu) us None)
    go true is on more =
        chosen (unit_choice others u updated) (unit_choice (images_in c cpu) u updated) _ _
        (unit-agrees others (images_in c cpu) u (on u.a (inl refl)) (λ w e. on w (in-second u _ w e)) updated)
        (sym taking ∙ is)
    go false is on more =
        passed (unit_choice others u updated) (unit_choice (images_in c cpu) u updated) _ _
        (unit-agrees others (images_in c cpu) u (on u.a (inl refl)) (λ w e. on w (in-second u _ w e)) updated)
        (sym taking ∙ is) (more (λ w h. on w (in-right w (unit_windows u) _ h)))
