-- What a normal boot decides where power is lost in a start's or a buy's writes.
use Rattle.std.proofs.Common.{◌≡◌, ◌≢◌, ◌⊎◌, ℕ, zero, suc, ◌≤◌, Bool, true, false, List, [], ◌∷◌, ◌++◌, length, slice_get, Option, Some, None, refl, sym, ap, ◌∙◌, subst, arith, inl, inr, option_and_then}
use Rattle.std.specs.Prelude.{IfSome, if◌then◌else◌}
use Rattle.std.specs.Option.{option_or}
use Rattle.std.proofs.lemmas.Bool.{cases_eq}
use Rattle.std.proofs.lemmas.List.Elements.{Contains-append_right}
use Rattle.std.proofs.lemmas.Option.{same_Some}
use Rattle.pico_board.specs.declared.Step.{Step}
use Rattle.pico_board.specs.declared.Step.TheVariants.{Raise}
use Rattle.pico_board.specs.declared.boot.Cpu.{Cpu}
use Rattle.pico_board.specs.declared.boot.BootKind.TheVariants.{Normal}
use Rattle.pico_board.specs.declared.window.Window.{Window}
use Rattle.pico_board.specs.Content.{AreApart, Content, IsContent, window_bytes}
use Rattle.image_def.specs.declared.started.Started.{Started}
use Rattle.otp_roll.specs.Flags.{flash_off, slot_size}
use Rattle.otp_roll.specs.Rows.{AreRollbackRows, count}
use Rattle.image_check.specs.Addressing.{in_flash}
use Rattle.image_check.specs.NotBelow.{NotBelow}
use Rattle.image_check.specs.Valid.{Valid}
use Rattle.image_check.proofs.LawLemmas.{not-below}
use Rattle.slot_choice.specs.declared.unit.Member.{Member}
use Rattle.slot_choice.specs.declared.unit.Member.TheVariants.{A, B}
use Rattle.slot_choice.specs.declared.unit.SlotUnit.{SlotUnit}
use Rattle.slot_choice.specs.declared.choice.Choice.{Choice}
use Rattle.slot_choice.specs.Units.{IsMember, member_window}
use Rattle.trial_buy.specs.Starting.{image_raises, other_erase}
use Rattle.boot_rules.specs.declared.decision.Decision.{Decision}
use Rattle.boot_rules.specs.declared.decision.Decision.TheVariants.{Start, Bootsel}
use Rattle.boot_rules.specs.declared.decision.Fall.TheVariants.{FlashOff}
use Rattle.boot_rules.specs.Choosing.{boot_units_in, decision_in, decision_of, images_in, member_image, ordered_choice, other_of, unit_choice}
use Rattle.part_table.specs.Windows.{IsPlacedIn}
use Rattle.boot_rules.specs.Starts.{IsOfUnit, table_of_content}
use Rattle.boot_rules.specs.Tables.{table_in}
use Rattle.boot_rules.proofs.DecisionLemmas.{found-valid, valid-found}
use Rattle.boot_rules.proofs.PlaceLemmas.{table-sound}
use Rattle.boot_rules.proofs.StartLemmas.{is-member}
use Rattle.law_boot_cuts.specs.Crashes.{KeepsOtherRows}
use Rattle.law_boot_cuts.proofs.LeftImageLemmas.{image-back, image-kept}
use Rattle.boot_rules.proofs.SameUnitLemmas.{units-same}
use Rattle.slot_choice.proofs.PlaceLemmas.{units-apart}
use Rattle.law_boot_cuts.proofs.OwnLeftLemmas.{IsLeft, count-kept, flash_off-stays, required-stays, rows-rise, slot_size-stays}
use Rattle.law_boot_cuts.proofs.OwnPickLemmas.{none-found}
use Rattle.law_boot_cuts.proofs.PairLemmas.{choice-pair}

abbrev Images : Type 0
Images = Window → Bool → Option Started

-- the choice of units that are all alike in two states
ordered-same : (f g : Images) (us : List SlotUnit)
    → ((i : ℕ) (v : SlotUnit) → slice_get us i ≡ Some v → unit_choice g v None ≡ unit_choice f v None)
    → ordered_choice g us None ≡ ordered_choice f us None
ordered-same f g [] same = refl
ordered-same f g (v ∷ us) same =
    ap (λ o. option_or o (ordered_choice g us None)) (same 0 v refl)
    ∙ ap (option_or (unit_choice f v None)) (ordered-same f g us (λ i w at. same (suc i) w at))

-- of units that are all alike in three states but that at one place, where the second and the third have this choice:
-- the second has the choice of the first, or both have this one
ordered-but : (f g h : Images) (us : List SlotUnit) (p : ℕ) (u : SlotUnit) (x : Choice) → slice_get us p ≡ Some u
    → ((i : ℕ) (v : SlotUnit) → i ≢ p → slice_get us i ≡ Some v
    → (unit_choice g v None ≡ unit_choice f v None) × (unit_choice h v None ≡ unit_choice f v None))
    → unit_choice g u None ≡ Some x → unit_choice h u None ≡ Some x
    → (ordered_choice g us None ≡ ordered_choice f us None)
    ⊎ ((ordered_choice g us None ≡ Some x) × (ordered_choice h us None ≡ Some x))
ordered-but f g h [] p u x at same second third = cc
ordered-but f g h (v ∷ us) zero u x at same second third =
    let is : u ≡ v = sym (same_Some v u at) in
    inr (
      ap (λ w. option_or (unit_choice g w None) (ordered_choice g us None)) (sym is)
          ∙ ap (λ o. option_or o (ordered_choice g us None)) second,
      ap (λ w. option_or (unit_choice h w None) (ordered_choice h us None)) (sym is)
          ∙ ap (λ o. option_or o (ordered_choice h us None)) third,
    )
ordered-but f g h (v ∷ us) (suc p) u x at same second third =
    let here = same 0 v (λ e. absurd (omega arith)) refl in
    go (unit_choice f v None) here.0 here.1
    (ordered-but f g h us p u x at (λ i w differ there. same (suc i) w (λ e. differ (omega (arith, e))) there) second
    third)
  where
    go : (o : Option Choice) → unit_choice g v None ≡ o → unit_choice h v None ≡ o
        → (ordered_choice g us None ≡ ordered_choice f us None)
        ⊎ ((ordered_choice g us None ≡ Some x) × (ordered_choice h us None ≡ Some x))
        → (option_or (unit_choice g v None) (ordered_choice g us None) ≡ option_or o (ordered_choice f us None))
        ⊎ ((option_or (unit_choice g v None) (ordered_choice g us None) ≡ Some x)
        × (option_or (unit_choice h v None) (ordered_choice h us None) ≡ Some x))
    go (Some y) one two rest = inl (ap (λ o. option_or o (ordered_choice g us None)) one)
    go None one two (inl e) = inl (ap (λ o. option_or o (ordered_choice g us None)) one ∙ e)
    go None one two (inr both) = inr (
      ap (λ o. option_or o (ordered_choice g us None)) one ∙ both.0,
      ap (λ o. option_or o (ordered_choice h us None)) two ∙ both.1,
    )

not-apart : (w : Window) → 4096 ≤ w.len → AreApart w w → ⊥
not-apart w some (inl before) = omega arith
not-apart w some (inr behind) = omega arith

module _ (c : Content) (cpu : Cpu) (choice : Choice) (right : IsContent c) (placed : IsPlacedIn c choice.image.window)
    (u : SlotUnit) (of : IsOfUnit c cpu choice u) (listed : AreRollbackRows choice.image.rows.items) where
  -- the rows that images of other boot units list have the count that they had
  pub record KeepsCounts (x : Content) : Type 0 where
    pub same : (i : ℕ) (v : SlotUnit) (m : Member) (w : Window) (s : Started) → slice_get (boot_units_in c cpu) i ≡ Some v
        → v ≢ u → member_window m v ≡ Some w → Valid c w cpu false s → count x.otp s.rows.items ≡ count c.otp s.rows.items

  -- the members of another boot unit
  other-unit : (i : ℕ) (v : SlotUnit) → i ≢ of.place → slice_get (boot_units_in c cpu) i ≡ Some v → (w : Window)
      → IsMember v w → (x : Window) → IsMember u x → AreApart x w
  other-unit i v differ at w in_v x in_u =
      units-apart (table_of_content c) (length c.flash) (slot_size c.otp (length c.flash)) cpu
      (table-sound c (table_in c) refl) of.place i u v (λ e. differ (sym e)) of.tried at x w in_u in_v

  started-member : IsMember u choice.image.window
  started-member = is-member choice.member u choice.image.window of.stands

  unit-differs : (i : ℕ) (v : SlotUnit) → i ≢ of.place → slice_get (boot_units_in c cpu) i ≡ Some v → v ≢ u
  unit-differs i v differ at same =
      not-apart choice.image.window placed.some
      (other-unit i v differ at choice.image.window
      (subst (λ (x : SlotUnit). IsMember x choice.image.window) (sym same) started-member)
      choice.image.window started-member)

  -- the images of another boot unit, where what is left is known
  module _ (x : Content) (left : IsLeft c choice x) (keeps : KeepsCounts x) where
    window-same : (i : ℕ) (v : SlotUnit) → i ≢ of.place → slice_get (boot_units_in c cpu) i ≡ Some v → (m : Member)
        → (w : Window) → member_window m v ≡ Some w → images_in x cpu w false ≡ images_in c cpu w false
    window-same i v differ at m w stands = go (images_in c cpu w false) refl
      where
        in_v : IsMember v w
        in_v = is-member m v w stands

        bytes : window_bytes x w ≡ window_bytes c w
        bytes = left.bytes w (other-unit i v differ at w in_v choice.image.window started-member)
            (λ y e. other-unit i v differ at w in_v y (is-member (other_of choice.member) u y (sym of.other ∙ e)))

        not : (s : Started) → Valid c w cpu false s → NotBelow x.otp s
        not s valid =
            let was = not-below in_flash w cpu false c.otp (window_bytes c w) s valid in
            let same : count x.otp s.rows.items ≡ count c.otp s.rows.items =
            keeps.same i v m w s at (unit-differs i v differ at) stands valid in
            record {
              version = subst (λ n. IfSome s.rollback (λ v. n ≤ v)) (sym same) was.version;
              required = λ is. was.required (sym (required-stays c x choice.image right listed left.rows) ∙ is);
            }

        go : (o : Option Started) → images_in c cpu w false ≡ o → images_in x cpu w false ≡ o
        go (Some s) is =
            let valid = found-valid c cpu w false s is in
            valid-found x cpu w false s (image-kept c x w cpu false s bytes (not s valid) valid)
        go None is = none-found x cpu w (λ s there.
            some-not s (valid-found c cpu w false s
            (image-back c x w cpu false s bytes (rows-rise c x choice.image right listed left.rows) there)) is)
          where
            some-not : (s : Started) → images_in c cpu w false ≡ Some s → images_in c cpu w false ≡ None → ⊥
            some-not s e f = let h : Some s ≡ None = sym e ∙ f in cc

    unit-same : (i : ℕ) (v : SlotUnit) → i ≢ of.place → slice_get (boot_units_in c cpu) i ≡ Some v
        → unit_choice (images_in x cpu) v None ≡ unit_choice (images_in c cpu) v None
    unit-same i v differ at =
        choice-pair (images_in x cpu) v A (member_image (images_in c cpu) v A false)
        (member_image (images_in c cpu) v B false) (member A (member_window A v) refl)
        (member B (member_window B v) refl)
        ∙ sym (choice-pair (images_in c cpu) v A (member_image (images_in c cpu) v A false)
        (member_image (images_in c cpu) v B false) refl refl)
      where
        member : (m : Member) (o : Option Window) → member_window m v ≡ o
            → option_and_then (λ w. images_in x cpu w false) o ≡ option_and_then (λ w. images_in c cpu w false) o
        member m None e = refl
        member m (Some w) e = window-same i v differ at m w e

  -- the decision of a normal boot by its flag, its units and its images
  abbrev decide : Bool → List SlotUnit → Images → Decision
  decide off us f = if off then Bootsel FlashOff else decision_of (ordered_choice f us None)

  decision-is : (x : Content)
      → decision_in x cpu Normal ≡ decide (flash_off x.otp) (boot_units_in x cpu) (images_in x cpu)
  unfolding decision_in
  decision-is x = refl

  -- the decision of a normal boot on what is left, with the table of c, by the flag and the units of c and the images
  -- of what is left
  decision-left : (x : Content) → IsLeft c choice x → table_in x ≡ table_in c
      → decision_in x cpu Normal ≡ decide (flash_off c.otp) (boot_units_in c cpu) (images_in x cpu)
  decision-left x left table =
      decision-is x
      ∙ ap (λ off. decide off (boot_units_in x cpu) (images_in x cpu))
      (flash_off-stays c x choice.image right listed left.rows)
      ∙ ap (λ us. decide (flash_off c.otp) us (images_in x cpu))
      (units-same c x cpu table left.long
      (slot_size-stays c x choice.image right listed left.rows (length c.flash)))

  -- where the unit takes what it took before
  pub decision-stays : (d : Content) → IsLeft c choice d → KeepsCounts d → table_in d ≡ table_in c
      → unit_choice (images_in d cpu) u None ≡ unit_choice (images_in c cpu) u None
      → decision_in d cpu Normal ≡ decision_in c cpu Normal
  decision-stays d left keeps table same =
      decision-left d left table
      ∙ ap (λ o. if flash_off c.otp then Bootsel FlashOff else decision_of o)
      (ordered-same (images_in c cpu) (images_in d cpu) (boot_units_in c cpu) each)
      ∙ sym (decision-is c)
    where
      each : (i : ℕ) (v : SlotUnit) → slice_get (boot_units_in c cpu) i ≡ Some v
          → unit_choice (images_in d cpu) v None ≡ unit_choice (images_in c cpu) v None
      each i v at = elim (cases_eq i of.place) [
        | inl here ↦
            (let is : u ≡ v = same_Some u v (sym of.tried ∙ ap (slice_get (boot_units_in c cpu)) (sym here) ∙ at) in
            subst (λ (w : SlotUnit). unit_choice (images_in d cpu) w None ≡ unit_choice (images_in c cpu) w None) is
            same)
        | inr differ ↦ unit-same d left keeps i v differ at
      ]

  -- where it takes what it takes after the steps
  pub decision-ends : (d z : Content) (x : Choice) → IsLeft c choice d → KeepsCounts d → IsLeft c choice z
      → KeepsCounts z → table_in d ≡ table_in c → table_in z ≡ table_in c → unit_choice (images_in d cpu) u None ≡ Some x
      → unit_choice (images_in z cpu) u None ≡ Some x
      → (decision_in d cpu Normal ≡ decision_in c cpu Normal)
      ⊎ ((decision_in d cpu Normal ≡ Start x) × (decision_in z cpu Normal ≡ Start x))
  decision-ends d z x left keeps done ends table same_table second third =
      go (flash_off c.otp) (decision-left d left table) (decision-left z done same_table) (decision-is c)
      (ordered-but (images_in c cpu) (images_in d cpu) (images_in z cpu) (boot_units_in c cpu) of.place u x of.tried
      (λ i v differ at. (unit-same d left keeps i v differ at, unit-same z done ends i v differ at)) second third)
    where
      go : (off : Bool) → decision_in d cpu Normal ≡ decide off (boot_units_in c cpu) (images_in d cpu)
          → decision_in z cpu Normal ≡ decide off (boot_units_in c cpu) (images_in z cpu)
          → decision_in c cpu Normal ≡ decide off (boot_units_in c cpu) (images_in c cpu)
          → (ordered_choice (images_in d cpu) (boot_units_in c cpu) None
          ≡ ordered_choice (images_in c cpu) (boot_units_in c cpu) None)
          ⊎ ((ordered_choice (images_in d cpu) (boot_units_in c cpu) None ≡ Some x)
          × (ordered_choice (images_in z cpu) (boot_units_in c cpu) None ≡ Some x))
          → (decision_in d cpu Normal ≡ decision_in c cpu Normal)
          ⊎ ((decision_in d cpu Normal ≡ Start x) × (decision_in z cpu Normal ≡ Start x))
      go true one two former either = inl (one ∙ sym former)
      go false one two former (inl same) = inl (one ∙ ap decision_of same ∙ sym former)
      go false one two former (inr both) = inr (one ∙ ap decision_of both.0, two ∙ ap decision_of both.1)

  -- where no raise of the whole list is of a row in the triple of a row that another unit's image lists
  module _ (before : List Step)
      (keeps : KeepsOtherRows c cpu u (before ++ (other_erase c cpu choice ++ image_raises c.otp choice.image))) where
    counts-kept : (x : Content) → IsLeft c choice x → KeepsCounts x
    counts-kept x left = record {
      same = λ i v m w s at differ stands valid.
          count-kept c x choice.image right listed left.rows s.rows.items
          (λ r row bits among raised.
          keeps.apart i v m w s r row bits at differ stands valid among
          (Contains-append_right before (other_erase c cpu choice ++ image_raises c.otp choice.image) (Raise row bits)
          (Contains-append_right (other_erase c cpu choice) (image_raises c.otp choice.image) (Raise row bits)
          raised)));
    }

    pub decision-kept : (d : Content) → IsLeft c choice d → table_in d ≡ table_in c
        → unit_choice (images_in d cpu) u None ≡ unit_choice (images_in c cpu) u None
        → decision_in d cpu Normal ≡ decision_in c cpu Normal
    decision-kept d left table same = decision-stays d left (counts-kept d left) table same

    pub decision-settled : (d z : Content) (x : Choice) → IsLeft c choice d → IsLeft c choice z
        → table_in d ≡ table_in c → table_in z ≡ table_in c → unit_choice (images_in d cpu) u None ≡ Some x
        → unit_choice (images_in z cpu) u None ≡ Some x
        → (decision_in d cpu Normal ≡ decision_in c cpu Normal)
        ⊎ ((decision_in d cpu Normal ≡ Start x) × (decision_in z cpu Normal ≡ Start x))
    decision-settled d z x left done table same_table second third =
        decision-ends d z x left (counts-kept d left) done (counts-kept z done) table same_table second third
