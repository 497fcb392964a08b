-- The reports of a boot on its units, by the function and in the words of the rules, and the choice that they make.
use Rattle.std.proofs.Common.{◌≡◌, ◌⊎◌, ℕ, zero, suc, ◌+◌, ◌-◌, Bool, true, false, cond, if◌then◌else◌, List, [], ◌∷◌, length, Option, Some, None, Result, Ok, Err, is_some, refl, sym, ap, ◌∙◌, subst, inl, inr, arith, option_and_then, option_map}
use Rattle.std.specs.Option.{option_or}
use Rattle.std.specs.Result.{result_ok}
use Rattle.pico_board.specs.declared.boot.Cpu.{Cpu}
use Rattle.pico_board.specs.declared.window.Window.{Window}
use Rattle.pico_board.specs.Content.{Content, window_bytes}
use Rattle.image_def.specs.declared.started.Started.{Started}
use Rattle.image_check.specs.declared.why.Why.{Why}
use Rattle.image_check.specs.Addressing.{in_flash}
use Rattle.image_check.specs.Image.{image_at}
use Rattle.image_check.proofs.LawLemmas.{answered-why, at-valid, valid-at, valid-window, why-exactly}
use Rattle.slot_choice.specs.declared.unit.Member.{Member}
use Rattle.slot_choice.specs.declared.unit.Member.TheVariants.{A, B}
use Rattle.slot_choice.specs.declared.unit.SlotUnit.{SlotUnit}
use Rattle.slot_choice.specs.declared.choice.Choice.{Choice}
use Rattle.slot_choice.specs.Units.{member_window}
use Rattle.slot_choice.specs.Versions.{are_different, better, better_of}
use Rattle.boot_rules.specs.Choosing.{choice_of, images_in, member_image, of_better, ordered_choice, unit_choice, version_of_image}
use Rattle.boot_rules.specs.Chosen.{is_member}
use Rattle.boot_rules.proofs.DecisionLemmas.{found-valid, valid-found}
use Rattle.boot_rules.proofs.UnitLemmas.{counting, image-window, window-image}
use Rattle.boot_reasons.specs.declared.looks.UnitReport.{UnitReport}
use Rattle.boot_reasons.specs.declared.looks.TakenImage.{TakenImage}
use Rattle.boot_reasons.specs.declared.looks.UnitReason.TheVariants.{Updated, Only, Version, Tie}
use Rattle.boot_reasons.specs.Looks.{better_image, second_counted, first_choice, report_on, reported_choice, reports_of, second_image, reported_image, taken_image, taken_choice_of, taken_of, taken_of_pair}
use Rattle.boot_reasons.specs.LookRules.{AreUnitReports, CountsIn, IsImageReported, IsUnitReport, IsSecondReported, IsTakenBy}
use Rattle.boot_reasons.specs.Reasons.{results_in}
use Rattle.boot_reasons.proofs.TookLemmas.{Tells, took-right, took-only}

-- the image of a window
pub image-told : (c : Content) (cpu : Cpu) (w : Window) (trial : Bool)
    → IsImageReported c cpu w trial (image_at c w cpu trial)
image-told c cpu w trial = go (image_at c w cpu trial) refl
  where
    go : (r : Result Started Why) → image_at c w cpu trial ≡ r → IsImageReported c cpu w trial r
    go (Ok s) is = valid-at c w cpu trial s is
    go (Err y) is = answered-why in_flash w cpu trial c.otp (window_bytes c w) y is

pub told-image : (c : Content) (cpu : Cpu) (w : Window) (trial : Bool) (r : Result Started Why)
    → IsImageReported c cpu w trial r → r ≡ image_at c w cpu trial
told-image c cpu w trial (Ok s) is = sym (at-valid c w cpu trial s is)
told-image c cpu w trial (Err y) is = sym ((why-exactly in_flash w cpu trial c.otp (window_bytes c w) y).0 is)

module _ (c : Content) (cpu : Cpu) (u : SlotUnit) (updated : Option Member) where
  abbrev pub image : Member → Option Started
  image m = counting (images_in c cpu) u updated m

  -- what counts is what the function of images has
  pub tells : Tells (CountsIn c cpu u updated) u image
  tells = record { to = to; from = from; place = place }
    where
      to : (m : Member) (s : Started) → CountsIn c cpu u updated m s → image m ≡ Some s
      to m s k = window-image (images_in c cpu) u m (is_member updated m) k.window k.stands
          ∙ valid-found c cpu k.window (is_member updated m) s k.valid

      from : (m : Member) (s : Started) → image m ≡ Some s → CountsIn c cpu u updated m s
      from m s e =
          let p = image-window (images_in c cpu) u m (is_member updated m) s e in
          record { window = p.0; stands = p.1; valid = found-valid c cpu p.0 (is_member updated m) s p.2 }

      place : (m : Member) (s : Started) → CountsIn c cpu u updated m s → member_window m u ≡ Some s.window
      place m s k = k.stands ∙ ap Some (sym (valid-window c k.window cpu (is_member updated m) s k.valid))

  pub second-counted : (o : Option Window) → second_counted (second_image (results_in c cpu) updated o)
      ≡ option_and_then (λ w. images_in c cpu w (is_member updated B)) o
  second-counted None = refl
  second-counted (Some w) = refl

  second-told : (o : Option Window) → IsSecondReported c cpu updated o (second_image (results_in c cpu) updated o)
  second-told None = refl
  second-told (Some w) = image-told c cpu w (is_member updated B)

  told-second : (o : Option Window) (r : Option (Result Started Why)) → IsSecondReported c cpu updated o r
      → r ≡ second_image (results_in c cpu) updated o
  told-second None r is = is
  told-second (Some w) None is = absurd is
  told-second (Some w) (Some r) is = ap Some (told-image c cpu w (is_member updated B) r is)

  -- the report on a unit is right by the rules
  pub look-right : IsUnitReport c cpu u updated (report_on (results_in c cpu) u updated)
  look-right = record {
    unit = refl;
    first = image-told c cpu u.a (is_member updated A);
    second = second-told u.b;
    taken = subst (λ (o : Option Started). IsTakenBy (CountsIn c cpu u updated) u updated
        (taken_of updated (image A) o))
        (sym (second-counted u.b)) (took-right (CountsIn c cpu u updated) u image tells updated);
  }

  same-look : (x y : UnitReport) → x.unit ≡ y.unit → x.first ≡ y.first → x.second ≡ y.second → x.taken ≡ y.taken → x ≡ y
  same-look x y e f g h =
      ap (λ v. record { unit = v; first = x.first; second = x.second; taken = x.taken }) e
      ∙ (ap (λ v. record { unit = y.unit; first = v; second = x.second; taken = x.taken }) f
      ∙ (ap (λ v. record { unit = y.unit; first = y.first; second = v; taken = x.taken }) g
      ∙ ap (λ v. record { unit = y.unit; first = y.first; second = y.second; taken = v }) h))

  -- no other one than that of the function is right by the rules
  pub look-only : (look : UnitReport) → IsUnitReport c cpu u updated look
      → look ≡ report_on (results_in c cpu) u updated
  look-only look is =
      same-look look (report_on (results_in c cpu) u updated) is.unit
      (told-image c cpu u.a (is_member updated A) look.first is.first) (told-second u.b look.second is.second)
      (took-only (CountsIn c cpu u updated) u image tells updated look.taken is.taken
      ∙ ap (taken_of updated (image A)) (sym (second-counted u.b)))

-- the choice of a report is that of its unit
module _ (u : SlotUnit) where
  abbrev seen : Option Member → Result Started Why → Option (Result Started Why) → UnitReport
  seen updated first second = record {
    unit = u;
    first = first;
    second = second;
    taken = taken_of updated (result_ok first) (second_counted second);
  }

  abbrev plain : Option Started → Option Started → Option Choice
  plain a b = of_better u (better (version_of_image a) (version_of_image b)) a b

  abbrev updating : Member → Member → Option Started → Option Started → Option Choice
  updating m other a b = option_or (option_map (choice_of u m true) a) (option_map (choice_of u other false) b)

  -- the choice of the report on a unit with two images, by two tests
  two-taken : (updated : Option Member) (s t : Started) (m : Member) (apart : Bool)
      → taken_choice_of (seen updated (Ok s) (Some (Ok t))) (taken_of_pair m (if apart then Version else Tie) s t)
      ≡ of_better u (Some m) (Some s) (Some t)
  two-taken updated s t A true = refl
  two-taken updated s t A false = refl
  two-taken updated s t B true = refl
  two-taken updated s t B false = refl

  plain-choice : (first : Result Started Why) (second : Option (Result Started Why))
      → reported_choice (seen None first second) ≡ plain (result_ok first) (second_counted second)
  plain-choice (Ok s) None = refl
  plain-choice (Ok s) (Some (Ok t)) =
      two-taken None s t (better_of s.version t.version) (are_different s.version t.version)
  plain-choice (Ok s) (Some (Err y)) = refl
  plain-choice (Err x) None = refl
  plain-choice (Err x) (Some (Ok t)) = refl
  plain-choice (Err x) (Some (Err y)) = refl

  first-choice : (first : Result Started Why) (second : Option (Result Started Why))
      → reported_choice (seen (Some A) first second) ≡ updating A B (result_ok first) (second_counted second)
  first-choice (Ok s) None = refl
  first-choice (Ok s) (Some (Ok t)) = refl
  first-choice (Ok s) (Some (Err y)) = refl
  first-choice (Err x) None = refl
  first-choice (Err x) (Some (Ok t)) = refl
  first-choice (Err x) (Some (Err y)) = refl

  second-choice : (first : Result Started Why) (second : Option (Result Started Why))
      → reported_choice (seen (Some B) first second) ≡ updating B A (second_counted second) (result_ok first)
  second-choice (Ok s) None = refl
  second-choice (Ok s) (Some (Ok t)) = refl
  second-choice (Ok s) (Some (Err y)) = refl
  second-choice (Err x) None = refl
  second-choice (Err x) (Some (Ok t)) = refl
  second-choice (Err x) (Some (Err y)) = refl

  -- a report has an image that is taken exactly where it makes a choice
  two-takes : (updated : Option Member) (s t : Started) (m : Member) (apart : Bool)
      → (let o : Option TakenImage = taken_of_pair m (if apart then Version else Tie) s t
      in is_some o ≡ is_some (taken_choice_of (seen updated (Ok s) (Some (Ok t))) o))
  two-takes updated s t A true = refl
  two-takes updated s t A false = refl
  two-takes updated s t B true = refl
  two-takes updated s t B false = refl

  pub takes-choice : (updated : Option Member) (first : Result Started Why) (second : Option (Result Started Why))
      → is_some (seen updated first second).taken ≡ is_some (reported_choice (seen updated first second))
  takes-choice None (Ok s) None = refl
  takes-choice None (Ok s) (Some (Ok t)) =
      two-takes None s t (better_of s.version t.version) (are_different s.version t.version)
  takes-choice None (Ok s) (Some (Err y)) = refl
  takes-choice None (Err x) None = refl
  takes-choice None (Err x) (Some (Ok t)) = refl
  takes-choice None (Err x) (Some (Err y)) = refl
  takes-choice (Some A) (Ok s) None = refl
  takes-choice (Some A) (Ok s) (Some (Ok t)) = refl
  takes-choice (Some A) (Ok s) (Some (Err y)) = refl
  takes-choice (Some A) (Err x) None = refl
  takes-choice (Some A) (Err x) (Some (Ok t)) = refl
  takes-choice (Some A) (Err x) (Some (Err y)) = refl
  takes-choice (Some B) (Ok s) None = refl
  takes-choice (Some B) (Ok s) (Some (Ok t)) = refl
  takes-choice (Some B) (Ok s) (Some (Err y)) = refl
  takes-choice (Some B) (Err x) None = refl
  takes-choice (Some B) (Err x) (Some (Ok t)) = refl
  takes-choice (Some B) (Err x) (Some (Err y)) = refl

pub choice-of-unit : (c : Content) (cpu : Cpu) (u : SlotUnit) (updated : Option Member)
    → reported_choice (report_on (results_in c cpu) u updated) ≡ unit_choice (images_in c cpu) u updated
choice-of-unit c cpu u None =
    plain-choice u (image_at c u.a cpu false) (second_image (results_in c cpu) None u.b)
    ∙ ap (plain u (images_in c cpu u.a false)) (second-counted c cpu u None u.b)
choice-of-unit c cpu u (Some A) =
    first-choice u (image_at c u.a cpu true) (second_image (results_in c cpu) (Some A) u.b)
    ∙ ap (updating u A B (images_in c cpu u.a true)) (second-counted c cpu u (Some A) u.b)
choice-of-unit c cpu u (Some B) =
    second-choice u (image_at c u.a cpu false) (second_image (results_in c cpu) (Some B) u.b)
    ∙ ap (λ o. updating u B A o (images_in c cpu u.a false)) (second-counted c cpu u (Some B) u.b)

-- the choice of the first report with an image that is taken is that of the units
pub choice-of-units : (c : Content) (cpu : Cpu) (us : List SlotUnit) (updated : Option Member)
    → first_choice (reports_of (results_in c cpu) us updated) ≡ ordered_choice (images_in c cpu) us updated
choice-of-units c cpu [] updated = refl
choice-of-units c cpu (u ∷ us) updated =
    go (choice-of-units c cpu us None) (reported_choice look) (choice-of-unit c cpu u updated) (is_some look.taken)
    (takes-choice u updated look.first look.second)
  where
    look : UnitReport
    look = report_on (results_in c cpu) u updated

    rest : List UnitReport
    rest = reports_of (results_in c cpu) us None

    go : first_choice rest ≡ ordered_choice (images_in c cpu) us None → (o : Option Choice)
        → o ≡ unit_choice (images_in c cpu) u updated
        → (takes : Bool) → takes ≡ is_some o
        → option_or o (first_choice (if takes then [] else rest))
        ≡ option_or (unit_choice (images_in c cpu) u updated) (ordered_choice (images_in c cpu) us None)
    go others (Some x) is true takes =
        ap (λ (y : Option Choice). option_or y (ordered_choice (images_in c cpu) us None)) is
    go others (Some x) is false takes = cc
    go others None is true takes = cc
    go others None is false takes =
        others ∙ ap (λ (y : Option Choice). option_or y (ordered_choice (images_in c cpu) us None)) is

some-true : {X : Type 0} (o : Option X) (x : X) → o ≡ Some x → is_some o ≡ true
some-true o x e = ap is_some e

one-less : (a b : ℕ) → suc a - suc b ≡ a - b
one-less a b = omega arith

-- the reports on units are right by the rules
pub looks-right : (c : Content) (cpu : Cpu) (us : List SlotUnit) (updated : Option Member)
    → AreUnitReports c cpu us updated (reports_of (results_in c cpu) us updated)
    (length us - length (reports_of (results_in c cpu) us updated))
looks-right c cpu [] updated = (refl, refl)
looks-right c cpu (u ∷ us) updated = go (looks-right c cpu us None) look.taken refl
  where
    look : UnitReport
    look = report_on (results_in c cpu) u updated

    rest : List UnitReport
    rest = reports_of (results_in c cpu) us None

    go : AreUnitReports c cpu us None rest (length us - length rest) → (o : Option TakenImage) → look.taken ≡ o
        → AreUnitReports c cpu (u ∷ us) updated (look ∷ (if is_some o then [] else rest))
        (length (u ∷ us) - length (look ∷ (if is_some o then [] else rest)))
    go others (Some x) e =
        (look-right c cpu u updated, inl (some-true look.taken x e, refl, omega arith))
    go others None e = (
      look-right c cpu u updated,
      inr (e, subst (λ n. AreUnitReports c cpu us None rest n) (sym (one-less (length us) (length rest))) others),
    )

-- no others than those of the function are right by the rules
pub looks-only : (c : Content) (cpu : Cpu) (us : List SlotUnit) (updated : Option Member) (ls : List UnitReport) (n : ℕ)
    → AreUnitReports c cpu us updated ls n
    → (ls ≡ reports_of (results_in c cpu) us updated)
    × (n ≡ length us - length (reports_of (results_in c cpu) us updated))
looks-only c cpu [] updated ls n is = (is.0, is.1)
looks-only c cpu (u ∷ us) updated [] n is = absurd is
looks-only c cpu (u ∷ us) updated (l ∷ ls) n is =
    go (looks-only c cpu us None ls n) (look-only c cpu u updated l is.0) is.1
  where
    look : UnitReport
    look = report_on (results_in c cpu) u updated

    rest : List UnitReport
    rest = reports_of (results_in c cpu) us None

    both : (o : Bool) → is_some look.taken ≡ o → l ≡ look → ls ≡ (if o then [] else rest)
        → n ≡ length (u ∷ us) - length (look ∷ (if o then [] else rest))
        → (l ∷ ls ≡ look ∷ (if is_some look.taken then [] else rest))
        × (n ≡ length (u ∷ us) - length (look ∷ (if is_some look.taken then [] else rest)))
    both o e same others count = (
      ap (λ x. x ∷ ls) same ∙ ap (λ xs. look ∷ xs) (others ∙ ap (λ b. if b then [] else rest) (sym e)),
      count ∙ ap (λ b. length (u ∷ us) - length (look ∷ (if b then [] else rest))) (sym e),
    )

    go : (AreUnitReports c cpu us None ls n → (ls ≡ rest) × (n ≡ length us - length rest)) → l ≡ look
        → ((is_some l.taken ≡ true) × (ls ≡ []) × (n ≡ length us))
        ⊎ ((l.taken ≡ None) × AreUnitReports c cpu us None ls n)
        → (l ∷ ls ≡ look ∷ (if is_some look.taken then [] else rest))
        × (n ≡ length (u ∷ us) - length (look ∷ (if is_some look.taken then [] else rest)))
    go others same (inl (takes, none, count)) =
        both true (ap (λ (x : UnitReport). is_some x.taken) (sym same) ∙ takes) same none
        (count ∙ (let e : length us ≡ suc (length us) - 1 = omega arith in e))
    go others same (inr (none, are)) =
        let r = others are in
        both false (ap (λ (x : UnitReport). is_some x.taken) (sym same) ∙ ap is_some none) same r.0
        (r.1 ∙ sym (one-less (length us) (length rest)))
