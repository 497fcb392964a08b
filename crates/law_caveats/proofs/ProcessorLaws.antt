-- No caveat, no doubt: the other processor, and the slots of a flash without a table.
use Rattle.std.proofs.Common.{◌≡◌, ◌≢◌, ◌⊎◌, ◌↔◌, ℕ, zero, suc, ◌==◌, ◌&&◌, ◌||◌, Bool, true, false, cond, List, [], ◌∷◌, slice_get, Option, Some, None, refl, sym, ap, ◌∙◌, subst, inl, inr}
use Rattle.std.specs.Prelude.{Contains, option_to_list}
use Rattle.std.proofs.lemmas.Bool.{eqb-true, eq-eqb}
use Rattle.std.proofs.lemmas.Option.{same_Some}
use Rattle.std.proofs.lemmas.List.Elements.{Contains-append_left, Contains-append_right}
use Rattle.pico_board.specs.declared.boot.Cpu.{Cpu}
use Rattle.pico_board.specs.declared.boot.BootKind.{BootKind}
use Rattle.pico_board.specs.declared.window.Window.{Window}
use Rattle.pico_board.specs.declared.window.TheConstants.{SMALLEST_SLOT}
use Rattle.pico_board.specs.Content.{Content}
use Rattle.image_def.specs.declared.started.Started.{Started}
use Rattle.image_check.specs.Valid.{Valid}
use Rattle.otp_roll.specs.Flags.{flash_off}
use Rattle.slot_choice.specs.declared.unit.Member.{Member}
use Rattle.slot_choice.specs.declared.unit.Member.TheVariants.{A, B}
use Rattle.slot_choice.specs.declared.unit.SlotUnit.{SlotUnit}
use Rattle.slot_choice.specs.declared.choice.Choice.{Choice}
use Rattle.slot_choice.specs.Units.{member_window, slot_pair}
use Rattle.boot_rules.specs.declared.decision.Decision.{Decision}
use Rattle.boot_rules.specs.declared.decision.Decision.TheVariants.{Start, Bootsel}
use Rattle.boot_rules.specs.declared.decision.Fall.TheVariants.{Requested, FlashOff, NoImage}
use Rattle.boot_rules.specs.Choosing.{boot_units_in, choose, decision_in, decision_of, images_in, order_of}
use Rattle.boot_rules.specs.Chosen.{Chosen, ChosenFrom, Counts}
use Rattle.boot_rules.specs.Tables.{slot_window}
use Rattle.boot_rules.proofs.DecisionLemmas.{chosen-decision, decision-chosen}
use Rattle.boot_reasons.specs.declared.slots.TableInForce.{TableInForce}
use Rattle.boot_reasons.specs.declared.reasons.Reasons.{Reasons}
use Rattle.boot_reasons.specs.Reasons.{reasons_in}
use Rattle.boot_reasons.specs.SlotRules.{IsTableInForce}
use Rattle.boot_reasons.proofs.ReasonLemmas.{reasons-right}
use Rattle.slot_caveats.specs.declared.caveat.Caveat.{Caveat}
use Rattle.slot_caveats.specs.declared.caveat.Caveat.TheVariants.{OtherProcessor, SlotImage}
use Rattle.slot_caveats.specs.Listing.{caveat_if}
use Rattle.boot_caveats.specs.Caveats.{choice_caveats}
use Rattle.boot_caveats.specs.Rules.{AreCaveats}
use Rattle.boot_caveats.specs.ChoiceCaveats.{first_slot_image, has_normal_image, has_second_image, lacks_image, lone_slot_images, other_cpu, slot_images, started_window}
use Rattle.boot_caveats.specs.ChoiceRules.{IsTableless}
use Rattle.law_caveats.specs.Alternatives.{ChosenOfBoth, ChosenWithSlots, slots_alone}
use Rattle.boot_caveats.specs.ProcessorCaveats.{looked_members, other_processors, updated_in}
use Rattle.boot_caveats.proofs.ProcessorLemmas.{start-listed}
use Rattle.boot_caveats.proofs.CaveatLemmas.{caveats-only}
use Rattle.boot_caveats.proofs.ChoiceCaveatLemmas.{lacks-decides, normal-decides}
use Rattle.law_caveats.proofs.DoubtLemmas.{by-choice, contains-one, decided, in-choice, reasons-decide}

both : (a b : Bool) → a ≡ true → b ≡ true → (a && b) ≡ true
both true true e f = refl
both true false e f = cc
both false b e f = cc

right-one : (a b : Bool) → b ≡ true → (a || b) ≡ true
right-one true b e = refl
right-one false b e = e

none-else : (d : Decision) → (d ≡ Bootsel NoImage) ⊎ (d ≢ Bootsel NoImage)
none-else d = go (lacks_image d) refl
  where
    apart : (b : Bool) → b ≡ true → b ≡ false → ⊥
    apart b e f = cc

    go : (b : Bool) → lacks_image d ≡ b → (d ≡ Bootsel NoImage) ⊎ (d ≢ Bootsel NoImage)
    go true e = inl ((lacks-decides d).0 e)
    go false e = inr (λ same. apart (lacks_image d) ((lacks-decides d).1 same) e)

module _ (c : Content) (cpu : Cpu) (kind : BootKind) (list : List Caveat) (are : AreCaveats c cpu kind list) where
  listed : (x : Caveat) → Contains (choice_caveats c cpu kind (reasons_in c cpu kind)) x → Contains list x
  listed x is =
      subst (λ (xs : List Caveat). Contains xs x) (sym (caveats-only c cpu kind list are)) (in-choice c cpu kind x is)

  -- ---- the other processor

  module _ (never : (w : Window) → Contains list (OtherProcessor w) → ⊥) where
    -- where no image starts, none starts for the other processor
    other-none : decision_in c cpu kind ≡ Bootsel NoImage → decision_in c (other_cpu cpu) kind ≡ Bootsel NoImage
    other-none none = go (choose (images_in c (other_cpu cpu)) (order_of kind (boot_units_in c (other_cpu cpu)))) refl
      where
        by : decision_in c (other_cpu cpu) kind
            ≡ decision_of (choose (images_in c (other_cpu cpu)) (order_of kind (boot_units_in c (other_cpu cpu))))
        by = decided c (other_cpu cpu) kind
            ∙ by-choice kind (flash_off c.otp) (choose (images_in c cpu) (order_of kind (boot_units_in c cpu))) _
            (sym (decided c cpu kind) ∙ none)

        go : (o : Option Choice)
            → choose (images_in c (other_cpu cpu)) (order_of kind (boot_units_in c (other_cpu cpu))) ≡ o
            → decision_in c (other_cpu cpu) kind ≡ Bootsel NoImage
        go None e = by ∙ ap decision_of e
        go (Some choice) e =
            absurd (never choice.image.window (listed (OtherProcessor choice.image.window)
            (Contains-append_left _ _ _ (start-listed c cpu kind (reasons_in c cpu kind).decision
            (looked_members (reasons_in c cpu kind).looks.items (updated_in c cpu kind)) choice.image.window
            ((lacks-decides (reasons_in c cpu kind).decision).1 (reasons-decide c cpu kind ∙ none))
            (ap started_window (by ∙ ap decision_of e))))))

    pub processor-doubt : (d : Decision) → ChosenOfBoth c cpu kind d ↔ Chosen c cpu kind d
    processor-doubt d = (to, from (none-else d))
      where
        to : ChosenOfBoth c cpu kind d → Chosen c cpu kind d
        to (inl one) = one.0
        to (inr two) =
            subst (λ (e : Decision). Chosen c cpu kind e)
            (sym (chosen-decision c (other_cpu cpu) kind d two.1
            ∙ other-none (sym (chosen-decision c cpu kind (Bootsel NoImage) two.0)))) two.0

        from : (d ≡ Bootsel NoImage) ⊎ (d ≢ Bootsel NoImage) → Chosen c cpu kind d → ChosenOfBoth c cpu kind d
        from (inr other) is = inl (is, other)
        from (inl none) is =
            let here = subst (λ (e : Decision). Chosen c cpu kind e) none is in
            inr (
              here,
              subst (λ (e : Decision). Chosen c (other_cpu cpu) kind e)
                  (other-none (sym (chosen-decision c cpu kind (Bootsel NoImage) here)) ∙ sym none)
                  (decision-chosen c (other_cpu cpu) kind),
            )

  -- ---- the slots of a flash without a table

  module _ (never : (w : Window) → Contains list (SlotImage w) → ⊥) where
    abbrev r : Reasons
    r = reasons_in c cpu kind

    tableless-or : IsTableless c ⊎ (IsTableless c → ⊥)
    tableless-or = go r.table (reasons-right c cpu kind).table (r.size == SMALLEST_SLOT) refl
      where
        differ : (m n : ℕ) → (m == n) ≡ false → m ≢ n
        differ m n h same = let this : (m == n) ≡ true = eq-eqb m n same in cc

        go : (o : Option TableInForce) → IsTableInForce c o → (b : Bool)
            → ((reasons_in c cpu kind).size == SMALLEST_SLOT) ≡ b
            → IsTableless c ⊎ (IsTableless c → ⊥)
        go (Some taken) is b e = inr (λ none. none.0 _ is.0.1)
        go None is true e =
            inl (is, sym (reasons-right c cpu kind).size ∙ eqb-true (reasons_in c cpu kind).size SMALLEST_SLOT e)
        go None is false e = inr (λ none. differ (reasons_in c cpu kind).size SMALLEST_SLOT e
            ((reasons-right c cpu kind).size ∙ none.1))

    -- without a table the caveats of the slots are listed
    lone : IsTableless c
        → slot_images c cpu (reasons_in c cpu kind).decision (reasons_in c cpu kind).size (reasons_in c cpu kind).table
        ≡ lone_slot_images c cpu (reasons_in c cpu kind).decision
    lone none = go (reasons_in c cpu kind).table (reasons-right c cpu kind).table
      where
        go : (o : Option TableInForce) → IsTableInForce c o
            → slot_images c cpu (reasons_in c cpu kind).decision (reasons_in c cpu kind).size o
            ≡ lone_slot_images c cpu (reasons_in c cpu kind).decision
        go (Some taken) is = absurd (none.0 _ is.0.1)
        go None is =
            ap (λ b. cond b (lone_slot_images c cpu (reasons_in c cpu kind).decision) [])
            (eq-eqb (reasons_in c cpu kind).size SMALLEST_SLOT ((reasons-right c cpu kind).size ∙ none.1))

    slot-listed : (x : Caveat) → IsTableless c
        → Contains (lone_slot_images c cpu (reasons_in c cpu kind).decision) x → Contains list x
    slot-listed x none is =
        listed x (Contains-append_right
        (other_processors c cpu kind (reasons_in c cpu kind).decision
        (looked_members (reasons_in c cpu kind).looks.items (updated_in c cpu kind))) _ x
        (Contains-append_left _ _ x (subst (λ (xs : List Caveat). Contains xs x) (sym (lone none)) is)))

    -- where no image starts, no slot has one
    no-slot : IsTableless c → decision_in c cpu kind ≡ Bootsel NoImage → (w : Window)
        → (w ≡ slot_window SMALLEST_SLOT 0) ⊎ (w ≡ slot_window SMALLEST_SLOT 1) → (s : Started)
        → Valid c w cpu false s → ⊥
    no-slot none lacks w (inl same) s valid =
        never (slot_window SMALLEST_SLOT 0) (slot-listed (SlotImage (slot_window SMALLEST_SLOT 0)) none
        (Contains-append_left _ _ _ (contains-one _ _ (ap (λ b. caveat_if b (SlotImage (slot_window SMALLEST_SLOT 0)))
        (both (lacks_image (reasons_in c cpu kind).decision) (has_normal_image c cpu (slot_window SMALLEST_SLOT 0))
        ((lacks-decides (reasons_in c cpu kind).decision).1 (reasons-decide c cpu kind ∙ lacks))
        ((normal-decides c cpu (slot_window SMALLEST_SLOT 0)).1
        (s, subst (λ (v : Window). Valid c v cpu false s) same valid)))))))
    no-slot none lacks w (inr same) s valid =
        never (slot_window SMALLEST_SLOT 1) (slot-listed (SlotImage (slot_window SMALLEST_SLOT 1)) none
        (Contains-append_right (option_to_list (first_slot_image c cpu (reasons_in c cpu kind).decision)) _ _
        (contains-one _ _ (ap (λ b. caveat_if b (SlotImage (slot_window SMALLEST_SLOT 1)))
        (right-one (has_second_image c) _
        (both (lacks_image (reasons_in c cpu kind).decision) (has_normal_image c cpu (slot_window SMALLEST_SLOT 1))
        ((lacks-decides (reasons_in c cpu kind).decision).1 (reasons-decide c cpu kind ∙ lacks))
        ((normal-decides c cpu (slot_window SMALLEST_SLOT 1)).1
        (s, subst (λ (v : Window). Valid c v cpu false s) same valid))))))))

    no-count : IsTableless c → decision_in c cpu kind ≡ Bootsel NoImage → (i : ℕ) (u : SlotUnit) (m : Member)
        (s : Started) → Counts c cpu slots_alone i u m s → ⊥
    no-count none lacks zero u m s counts = go m (subst (λ (v : SlotUnit). member_window m v ≡ Some counts.window)
        (sym (same_Some (slot_pair SMALLEST_SLOT) u counts.tried)) counts.stands) counts.valid
      where
        go : (m : Member) → member_window m (slot_pair SMALLEST_SLOT) ≡ Some counts.window
            → Valid c counts.window cpu false s → ⊥
        go A at valid = no-slot none lacks counts.window
            (inl (sym (same_Some (slot_window SMALLEST_SLOT 0) counts.window at))) s valid
        go B at valid = no-slot none lacks counts.window
            (inr (sym (same_Some (slot_window SMALLEST_SLOT 1) counts.window at))) s valid
    no-count none lacks (suc i) u m s counts = absurd (nowhere i u counts.tried)
      where
        nowhere : (i : ℕ) (u : SlotUnit) → slice_get (slot_pair SMALLEST_SLOT ∷ []) (suc i) ≡ Some u → ⊥
        nowhere i u e = cc

    pub slots-doubt : (d : Decision) → ChosenWithSlots c cpu kind d ↔ Chosen c cpu kind d
    slots-doubt d = (to d, from (none-else d) tableless-or)
      where
        by-slots : (d : Decision) → Chosen c cpu kind (Bootsel NoImage) → IsTableless c
            → ChosenFrom c cpu slots_alone d → Chosen c cpu kind d
        by-slots (Start choice) here none is =
            absurd (no-count none (sym (chosen-decision c cpu kind (Bootsel NoImage) here)) is.place is.unit
            choice.member choice.image is.counts)
        by-slots (Bootsel Requested) here none is = absurd is
        by-slots (Bootsel FlashOff) here none is = absurd is
        by-slots (Bootsel NoImage) here none is = here

        to : (d : Decision) → ChosenWithSlots c cpu kind d → Chosen c cpu kind d
        to d (inl one) = one.0
        to d (inr two) = by-slots d two.0 two.1 two.2

        from : (d ≡ Bootsel NoImage) ⊎ (d ≢ Bootsel NoImage) → IsTableless c ⊎ (IsTableless c → ⊥)
            → Chosen c cpu kind d → ChosenWithSlots c cpu kind d
        from (inr other) lone_or is = inl (is, inl other)
        from (inl none) (inr never_so) is = inl (is, inr never_so)
        from (inl none) (inl alone) is =
            let here = subst (λ (e : Decision). Chosen c cpu kind e) none is in
            inr (
              here,
              alone,
              subst (λ (e : Decision). ChosenFrom c cpu slots_alone e) (sym none)
                  (no-count alone (sym (chosen-decision c cpu kind (Bootsel NoImage) here))),
            )
