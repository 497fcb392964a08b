-- What a boot decides where the raises of the image that it started are done or torn.
use Rattle.std.proofs.Common.{◌≡◌, ◌⊎◌, ℕ, zero, suc, Bool, true, false, List, [], ◌++◌, length, Option, None, refl, sym, ap, ◌∙◌, subst, inl, inr}
use Rattle.std.specs.Prelude.{IsTrue, MatchBool, if◌then◌else◌}
use Rattle.pico_board.specs.declared.Step.{Step}
use Rattle.pico_board.specs.declared.boot.Cpu.{Cpu}
use Rattle.pico_board.specs.declared.boot.BootKind.{BootKind}
use Rattle.pico_board.specs.declared.boot.BootKind.TheVariants.{Normal, Update, Bootsel as AskBootsel}
use Rattle.pico_board.specs.declared.window.Window.{Window}
use Rattle.pico_board.specs.Content.{Content, IsContent, window_bytes}
use Rattle.pico_board.specs.Steps.{CutOf, MayLeave}
use Rattle.image_def.specs.declared.started.Started.{Started}
use Rattle.otp_roll.specs.Flags.{flash_off, slot_size}
use Rattle.otp_roll.specs.Rows.{Rises}
use Rattle.otp_roll.proofs.RisingLemmas.{flash-left}
use Rattle.image_check.specs.NotBelow.{NotBelow}
use Rattle.image_check.specs.SameImage.{HoldsImage, SameImage}
use Rattle.image_check.specs.Valid.{Valid}
use Rattle.image_check.proofs.LawLemmas.{same-image, valid-holds}
use Rattle.slot_choice.specs.declared.unit.Member.{Member}
use Rattle.slot_choice.specs.declared.unit.SlotUnit.{SlotUnit}
use Rattle.slot_choice.specs.declared.choice.Choice.{Choice}
use Rattle.trial_buy.specs.Starting.{image_raises, settling, start_steps}
use Rattle.trial_buy.proofs.EraseLemmas.{not-updated}
use Rattle.trial_buy.proofs.ImageLemmas.{valid-rows, valid-version}
use Rattle.boot_rules.specs.declared.decision.Decision.{Decision}
use Rattle.boot_rules.specs.declared.decision.Decision.TheVariants.{Start, Bootsel}
use Rattle.slot_choice.specs.Updates.{update_order, updated_member}
use Rattle.slot_choice.proofs.UpdateLemmas.{not_updated}
use Rattle.boot_rules.specs.declared.decision.Fall.TheVariants.{FlashOff}
use Rattle.boot_rules.specs.Choosing.{Order, boot_units_in, order_of, other_of}
use Rattle.boot_rules.specs.Chosen.{Chosen, ChosenFrom, ChosenInFlash, Counts, IsBest, IsStart, is_updated}
use Rattle.boot_rules.specs.Tables.{slot_window}
use Rattle.boot_rules.proofs.DecisionLemmas.{chosen-not_below}
use Rattle.boot_rules.proofs.StartLemmas.{start, start-trial, start-valid}
use Rattle.law_boot_cuts.proofs.LeftImageLemmas.{image-back, image-kept}
use Rattle.boot_rules.proofs.SameUnitLemmas.{table-same, units-same}
use Rattle.law_boot_cuts.proofs.LeftRowLemmas.{flash_off-left, image-raises, not_below-left, raises-rise, slot_size-left}

-- a start stays a start where the flash stays, rows rise, and its image is not below them
module _ (c d : Content) (cpu : Cpu) (flash : d.flash ≡ c.flash) (rises : Rises c.otp d.otp) where
  bytes : (w : Window) → window_bytes d w ≡ window_bytes c w
  bytes w = ap (λ f. window_bytes (record { flash = f; otp = d.otp }) w) flash

  counts-back : (order : Order) (i : ℕ) (u : SlotUnit) (m : Member) (s : Started) → Counts d cpu order i u m s
      → Counts c cpu order i u m s
  counts-back order i u m s k = record {
    window = k.window;
    tried = k.tried;
    stands = k.stands;
    valid = image-back c d k.window cpu (is_updated order i m) s (bytes k.window) rises k.valid;
  }

  start-kept : (order : Order) (choice : Choice) → NotBelow d.otp choice.image → IsStart c cpu order choice
      → IsStart d cpu order choice
  start-kept order choice not s = record {
    place = s.place;
    unit = s.unit;
    counts = record {
      window = s.counts.window;
      tried = s.counts.tried;
      stands = s.counts.stands;
      valid = image-kept c d s.counts.window cpu (is_updated order s.place choice.member) choice.image
          (bytes s.counts.window) not s.counts.valid;
    };
    first = λ i u m t lt k. s.first i u m t lt (counts-back order i u m t k);
    best = best s.best;
    other = s.other;
    updated = s.updated;
  }
    where
      best : IsTrue (is_updated order s.place choice.member)
          ⊎ IsBest c cpu order s.place s.unit choice.member choice.image
          → IsTrue (is_updated order s.place choice.member)
          ⊎ IsBest d cpu order s.place s.unit choice.member choice.image
      best (inl it) = inl it
      best (inr q) = inr (record {
        no_update = λ t it k. q.no_update t it (counts-back order s.place s.unit (other_of choice.member) t k);
        better = λ t k. q.better t (counts-back order s.place s.unit (other_of choice.member) t k);
      })

-- the decision of a boot by the flags, the boot units and what they start
flash-moved : (c d : Content) (cpu : Cpu) (kind : BootKind) (choice : Choice) → flash_off d.otp ≡ flash_off c.otp
    → boot_units_in d cpu ≡ boot_units_in c cpu
    → ((order : Order) → IsStart c cpu order choice → IsStart d cpu order choice)
    → ChosenInFlash c cpu kind (Start choice) → ChosenInFlash d cpu kind (Start choice)
flash-moved c d cpu kind choice off units kept h =
    subst (λ (yes : Bool). MatchBool yes (Start choice ≡ Bootsel FlashOff)
    (IsStart d cpu (order_of kind (boot_units_in d cpu)) choice)) (sym off)
    (subst (λ (us : List SlotUnit). MatchBool (flash_off c.otp) (Start choice ≡ Bootsel FlashOff)
    (IsStart d cpu (order_of kind us) choice)) (sym units)
    (go (flash_off c.otp) h))
  where
    go : (yes : Bool) → MatchBool yes (Start choice ≡ Bootsel FlashOff)
        (IsStart c cpu (order_of kind (boot_units_in c cpu)) choice)
        → MatchBool yes (Start choice ≡ Bootsel FlashOff)
        (IsStart d cpu (order_of kind (boot_units_in c cpu)) choice)
    go true e = e
    go false s = kept (order_of kind (boot_units_in c cpu)) s

chosen-moved : (c d : Content) (cpu : Cpu) (kind : BootKind) (choice : Choice) → flash_off d.otp ≡ flash_off c.otp
    → boot_units_in d cpu ≡ boot_units_in c cpu
    → ((order : Order) → IsStart c cpu order choice → IsStart d cpu order choice)
    → Chosen c cpu kind (Start choice) → Chosen d cpu kind (Start choice)
chosen-moved c d cpu AskBootsel choice off units kept h = h
chosen-moved c d cpu Normal choice off units kept h = flash-moved c d cpu Normal choice off units kept h
chosen-moved c d cpu (Update base) choice off units kept h = flash-moved c d cpu (Update base) choice off units kept h

module _ (c : Content) (cpu : Cpu) (kind : BootKind) (choice : Choice) (d : Content) (right : IsContent c)
    (h : Chosen c cpu kind (Start choice)) (left : MayLeave c (image_raises c.otp choice.image) d) where
  valid-now : Valid c choice.image.window cpu true choice.image
  valid-now = start-valid c cpu kind choice h

  same-flash : d.flash ≡ c.flash
  same-flash = flash-left c (image_raises c.otp choice.image) d
      (image-raises c.otp choice.image.rows.items choice.image.rollback) left

  pub raises-kept : Chosen d cpu kind (Start choice)
  raises-kept =
      let rows = valid-rows c choice.image.window cpu true choice.image valid-now in
      let version = valid-version c choice.image.window cpu true choice.image valid-now in
      let not = not_below-left c choice.image d right rows version (chosen-not_below c cpu kind choice h) left in
      let rises = raises-rise c (image_raises c.otp choice.image) d
      (image-raises c.otp choice.image.rows.items choice.image.rollback) left in
      let slot = slot_size-left c choice.image.rows.items d rows choice.image.rollback left (length c.flash) in
      let long = ap (λ f. length f) same-flash in
      let size = slot_size c.otp (length c.flash) in
      let table = table-same c d long slot (bytes c d cpu same-flash rises (slot_window size 0))
      (bytes c d cpu same-flash rises (slot_window size 1)) in
      chosen-moved c d cpu kind choice
      (flash_off-left c choice.image.rows.items d rows choice.image.rollback left)
      (units-same c d cpu table long slot)
      (λ order s. start-kept c d cpu same-flash rises order choice not s) h

  pub raises-bytes : SameImage d c choice.image cpu
  raises-bytes =
      let there = valid-holds c choice.image.window cpu true choice.image valid-now in
      let bytes_are : window_bytes d choice.image.window ≡ window_bytes c choice.image.window =
      ap (λ f. window_bytes (record { flash = f; otp = d.otp }) choice.image.window) same-flash in
      same-image d c choice.image cpu
      (subst (λ those. HoldsImage cpu those choice.image) (sym bytes_are) there) bytes_are

-- a normal boot updates nothing, so it starts no trial and erases nothing
normal-updated : (us : List SlotUnit) (i : ℕ) (m : Member) → is_updated (order_of Normal us) i m ≡ false
normal-updated us zero m = refl
normal-updated us (suc i) m = refl

pub plain-steps : (trial : Bool) (steps : List Step) → trial ≡ false
    → (let r : List Step = if trial then [] else steps in r) ≡ steps
plain-steps false steps e = refl
plain-steps true steps e = cc

not-true : (b : Bool) → (b ≡ true → false ≡ true) → b ≡ false
not-true false never = refl
not-true true never = sym (never refl)

pub normal-steps : (c : Content) (cpu : Cpu) (choice : Choice) → Chosen c cpu Normal (Start choice)
    → start_steps c cpu choice ≡ image_raises c.otp choice.image
normal-steps c cpu choice h =
    let s = start c cpu Normal choice h in
    let same : choice.updated ≡ false = s.updated ∙ normal-updated (boot_units_in c cpu) s.place choice.member in
    let plain : choice.image.trial ≡ false =
    not-true choice.image.trial (λ is. sym same ∙ start-trial c cpu Normal choice h is) in
    plain-steps choice.image.trial (settling c cpu choice) plain
    ∙ ap (λ before. before ++ image_raises c.otp choice.image) (not-updated c cpu choice same)

pub normal-kept : (c : Content) (cpu : Cpu) (choice : Choice) (d : Content) → IsContent c
    → Chosen c cpu Normal (Start choice) → CutOf c (start_steps c cpu choice) d → Chosen d cpu Normal (Start choice)
normal-kept c cpu choice d right h cut =
    raises-kept c cpu Normal choice d right h
    (inr (subst (λ steps. CutOf c steps d) (normal-steps c cpu choice h) cut))

-- an update of an address at which no member starts is a normal boot
order-plain : (us vs : List SlotUnit) (m : Option Member) → vs ≡ us → m ≡ None
    → (let o : Order = record { units = vs; updated = m } in o) ≡ order_of Normal us
order-plain us vs m same none = cc

nothing-updated : (c : Content) (cpu : Cpu) (base : ℕ) (e : Decision)
    → updated_member (boot_units_in c cpu) base ≡ None → Chosen c cpu (Update base) e → Chosen c cpu Normal e
nothing-updated c cpu base e none h =
    subst (λ (o : Order). MatchBool (flash_off c.otp) (e ≡ Bootsel FlashOff) (ChosenFrom c cpu o e))
    (order-plain (boot_units_in c cpu) (update_order (boot_units_in c cpu) base)
    (updated_member (boot_units_in c cpu) base)
    (not_updated (boot_units_in c cpu) base none).order none) h

pub update-kept : (c : Content) (cpu : Cpu) (base : ℕ) (choice : Choice) (d : Content) → IsContent c
    → updated_member (boot_units_in c cpu) base ≡ None → Chosen c cpu (Update base) (Start choice)
    → CutOf c (start_steps c cpu choice) d → Chosen d cpu Normal (Start choice)
update-kept c cpu base choice d right none h cut =
    normal-kept c cpu choice d right (nothing-updated c cpu base (Start choice) none h) cut
