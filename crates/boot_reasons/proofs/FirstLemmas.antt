-- The first unit that takes an image takes that of the decision.
use Rattle.std.proofs.Common.{◌≡◌, ◌⊎◌, ℕ, zero, suc, Bool, true, false, if◌then◌else◌, List, [], ◌∷◌, Option, Some, None, slice_get, is_some, refl, sym, ap, ◌∙◌, subst, inl, inr, option_map}
use Rattle.std.specs.Option.{option_or}
use Rattle.std.proofs.lemmas.Option.{same_Some}
use Rattle.pico_board.specs.declared.boot.Cpu.{Cpu}
use Rattle.pico_board.specs.declared.boot.BootKind.{BootKind}
use Rattle.pico_board.specs.declared.boot.BootKind.TheVariants.{Normal, Update, Bootsel as AskBootsel}
use Rattle.pico_board.specs.Content.{Content}
use Rattle.image_def.specs.declared.started.Started.{Started}
use Rattle.otp_roll.specs.Flags.{flash_off}
use Rattle.slot_choice.specs.declared.unit.Member.{Member}
use Rattle.slot_choice.specs.declared.unit.Member.TheVariants.{A, B}
use Rattle.slot_choice.specs.declared.unit.SlotUnit.{SlotUnit}
use Rattle.slot_choice.specs.declared.choice.Choice.{Choice}
use Rattle.boot_rules.specs.declared.decision.Decision.{Decision}
use Rattle.boot_rules.specs.declared.decision.Decision.TheVariants.{Start, Bootsel}
use Rattle.boot_rules.specs.declared.decision.Fall.TheVariants.{FlashOff, NoImage}
use Rattle.boot_rules.specs.Choosing.{boot_units_in, choice_of, decision_of, images_in, order_of}
use Rattle.boot_reasons.specs.declared.looks.UnitReport.{UnitReport}
use Rattle.boot_reasons.specs.declared.looks.TakenImage.{TakenImage}
use Rattle.boot_reasons.specs.declared.reasons.Reasons.{Reasons}
use Rattle.boot_reasons.specs.Looks.{first_choice, is_update, report_on, reported_choice, reports_of, reported_image, taken_choice_of}
use Rattle.boot_reasons.specs.LookRules.{CountsIn, IsUnitReport, IsTakenBy}
use Rattle.boot_reasons.specs.Reasons.{does_report, reported_decision, reports_in, order_where, reasons_in, results_in}
use Rattle.boot_reasons.specs.Rules.{FallsBefore, IsExplained, StartsTaken, TakeNone}
use Rattle.boot_reasons.proofs.TookLemmas.{Tells}
use Rattle.boot_reasons.proofs.LookLemmas.{image, look-right, second-counted, tells}
use Rattle.boot_reasons.proofs.ReasonLemmas.{falls-before, looks-reach, looks_where, reasons-only, units-only}

-- what a report says of the image that is taken
pub record Sees (look : UnitReport) (taken : TakenImage) (s : Started) : Type 0 where
  pub seen : reported_image look taken.member ≡ Some s
  pub window : s.window ≡ taken.window

module _ (c : Content) (cpu : Cpu) (u : SlotUnit) (updated : Option Member) where
  abbrev look : UnitReport
  look = report_on (results_in c cpu) u updated

  seen-image : (m : Member) → reported_image look m ≡ image c cpu u updated m
  seen-image A = refl
  seen-image B = second-counted c cpu u updated u.b

  sees : (taken : TakenImage) → look.taken ≡ Some taken → (s : Started) × Sees look taken s
  sees taken e =
      let t = subst (λ (o : Option TakenImage). IsTakenBy (CountsIn c cpu u updated) u updated o) e
      (look-right c cpu u updated).taken in
      let place = (tells c cpu u updated).place taken.member t.0 t.1.counts in (
        t.0,
        record {
          seen = seen-image taken.member ∙ (tells c cpu u updated).to taken.member t.0 t.1.counts;
          window = same_Some t.0.window taken.window (sym place ∙ t.2);
        },
      )

abbrev choice_by : UnitReport → TakenImage → Started → Choice
choice_by look taken s = choice_of look.unit taken.member (is_update taken.because) s

look-takes : (look : UnitReport) (taken : TakenImage) (s : Started) → look.taken ≡ Some taken → Sees look taken s
    → reported_choice look ≡ Some (choice_by look taken s)
look-takes look taken s e sees =
    ap (taken_choice_of look) e
    ∙ ap (option_map (choice_of look.unit taken.member (is_update taken.because))) sees.seen

-- the choice is that of the report with an image that is taken
first-taken : (c : Content) (cpu : Cpu) (us : List SlotUnit) (updated : Option Member) (k : ℕ) (l : UnitReport)
    (taken : TakenImage)
    → slice_get (reports_of (results_in c cpu) us updated) k ≡ Some l → l.taken ≡ Some taken
    → (s : Started) × Sees l taken s
    × (first_choice (reports_of (results_in c cpu) us updated) ≡ Some (choice_by l taken s))
first-taken c cpu [] updated k l taken at e = cc
first-taken c cpu (u ∷ us) updated zero l taken at e =
    subst (λ (x : UnitReport). x.taken ≡ Some taken → (s : Started) × Sees x taken s
    × (option_or (reported_choice here) others ≡ Some (choice_by x taken s))) (same_Some here l at) first e
  where
    here : UnitReport
    here = report_on (results_in c cpu) u updated

    others : Option Choice
    others = first_choice (if is_some here.taken then [] else reports_of (results_in c cpu) us None)

    first : here.taken ≡ Some taken → (s : Started) × Sees here taken s
        × (option_or (reported_choice here) others ≡ Some (choice_by here taken s))
    first is =
        let s = sees c cpu u updated taken is in
        (s.0, s.1, ap (λ o. option_or o others) (look-takes here taken s.0 is s.1))
first-taken c cpu (u ∷ us) updated (suc k) l taken at e =
    go (λ later. first-taken c cpu us None k l taken later e) here.taken refl at
  where
    here : UnitReport
    here = report_on (results_in c cpu) u updated

    rest : List UnitReport
    rest = reports_of (results_in c cpu) us None

    go : (slice_get rest k ≡ Some l
        → (s : Started) × Sees l taken s × (first_choice rest ≡ Some (choice_by l taken s)))
        → (o : Option TakenImage) → here.taken ≡ o → slice_get (if is_some o then [] else rest) k ≡ Some l
        → (s : Started) × Sees l taken s
        × (option_or (taken_choice_of here o) (first_choice (if is_some o then [] else rest))
        ≡ Some (choice_by l taken s))
    go later (Some x) is found = cc
    go later None is found = later found

-- where no report has an image that is taken there is no choice
first-none : (ls : List UnitReport) → TakeNone ls → first_choice ls ≡ None
first-none [] none = refl
first-none (l ∷ ls) none =
    ap (λ o. option_or (taken_choice_of l o) (first_choice ls)) (none zero l refl)
    ∙ first-none ls (λ k x at. none (suc k) x at)

by-looking : (kind : BootKind) (off : Bool) (choice : Option Choice) → does_report kind off ≡ true
    → reported_decision kind off choice ≡ decision_of choice
by-looking AskBootsel off choice e = cc
by-looking Normal true choice e = cc
by-looking Normal false choice e = refl
by-looking (Update base) true choice e = cc
by-looking (Update base) false choice e = refl

pub first-decided : (c : Content) (cpu : Cpu) (kind : BootKind) (r : Reasons) (k : ℕ) (look : UnitReport)
    (taken : TakenImage)
    → IsExplained c cpu kind r → slice_get r.looks.items k ≡ Some look → look.taken ≡ Some taken
    → StartsTaken look taken r.decision
unfolding reasons_in
first-decided c cpu kind r k look taken is at e =
    let same = reasons-only c cpu kind r is in
    let there = ap (λ (x : Reasons). slice_get x.looks.items k) (sym same) ∙ at in
    let made = ap (λ (x : Reasons). x.decision) same in
    go (does_report kind (flash_off c.otp)) refl there made
  where
    go : (does : Bool) → does_report kind (flash_off c.otp) ≡ does
        → slice_get (looks_where c cpu kind does) k ≡ Some look
        → r.decision ≡ reported_decision kind (flash_off c.otp) (first_choice (looks_where c cpu kind does))
        → StartsTaken look taken r.decision
    go false not there made = cc
    go true does there made =
        let f = first-taken c cpu (order_of kind (boot_units_in c cpu)).units
        (order_of kind (boot_units_in c cpu)).updated k look taken there e in (
          choice_by look taken f.0,
          made ∙ (by-looking kind (flash_off c.otp) _ does ∙ ap decision_of f.2),
          f.1.seen,
          f.1.window,
          refl,
          refl,
        )

pub none-decided : (c : Content) (cpu : Cpu) (kind : BootKind) (r : Reasons) → IsExplained c cpu kind r
    → (FallsBefore c kind → ⊥) → TakeNone r.looks.items → r.decision ≡ Bootsel NoImage
unfolding reasons_in
none-decided c cpu kind r is reaches none =
    let same = reasons-only c cpu kind r is in
    let items = ap (λ (x : Reasons). x.looks.items) same in
    let choice = first-none (reports_in c cpu kind) (subst (λ (ls : List UnitReport). TakeNone ls) items none) in
    ap (λ (x : Reasons). x.decision) same
    ∙ (ap (reported_decision kind (flash_off c.otp)) choice ∙ by-looking kind (flash_off c.otp) None (does reaches))
  where
    does : (FallsBefore c kind → ⊥) → does_report kind (flash_off c.otp) ≡ true
    does reaches = go (does_report kind (flash_off c.otp)) refl
      where
        go : (b : Bool) → does_report kind (flash_off c.otp) ≡ b → b ≡ true
        go true e = refl
        go false e = absurd (reaches (falls-before c kind e))

pub none-before : (c : Content) (cpu : Cpu) (kind : BootKind) (r : Reasons) → IsExplained c cpu kind r
    → FallsBefore c kind → (r.looks.items ≡ []) × (r.unreached ≡ 0)
none-before c cpu kind r is falls = elim is.units [
  | inl told ↦ (told.1, told.2)
  | inr told ↦ absurd (told.0 falls)
]
