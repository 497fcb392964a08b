-- After a normal boot the content stays, and so does what it starts.
use Rattle.std.proofs.Common.{◌≡◌, ◌∙◌, ℕ, zero, suc, ◌+◌, true, List, [], Option, Some, None, add-one, arith, refl, sym, ap, subst, inl}
use Rattle.std.specs.Prelude.{IfSome}
use Rattle.pico_board.specs.declared.boot.Cpu.{Cpu}
use Rattle.pico_board.specs.declared.boot.BootKind.TheVariants.{Normal}
use Rattle.pico_board.specs.Content.{Content, IsContent}
use Rattle.pico_board.specs.Steps.{after_all}
use Rattle.image_check.specs.SameImage.{SameImage}
use Rattle.image_check.proofs.LawLemmas.{same-image, valid-holds}
use Rattle.otp_roll.specs.Raises.{raises}
use Rattle.otp_roll.specs.Rows.{AreRollbackRows, IsRollbackVersion}
use Rattle.otp_roll.proofs.CountedLemmas.{count-raises}
use Rattle.otp_roll.proofs.RisingLemmas.{raises-none}
use Rattle.slot_choice.specs.declared.choice.Choice.{Choice}
use Rattle.trial_buy.specs.Starting.{image_raises, raises_of, start_steps}
use Rattle.trial_buy.proofs.ImageLemmas.{valid-rows, valid-version}
use Rattle.boot_rules.specs.declared.decision.Decision.{Decision}
use Rattle.boot_rules.specs.declared.decision.Decision.TheVariants.{Start, Bootsel}
use Rattle.boot_rules.specs.Choosing.{decision_in}
use Rattle.boot_rules.specs.Chosen.{Chosen}
use Rattle.boot_rules.proofs.DecisionLemmas.{chosen-decision, decision-chosen}
use Rattle.boot_rules.proofs.StartLemmas.{start-valid}
use Rattle.boot_machine.specs.Boots.{decided_steps}
use Rattle.law_boot_cuts.proofs.RaisesCutLemmas.{normal-steps, raises-bytes, raises-kept}
use Rattle.check_images.specs.Boots.{after_boot}
use Rattle.law_updates.specs.Boots.{after_boots}

-- what an image raises is raised once
raised-once : (c : Content) (rows : List ℕ) (o : Option ℕ) → IsContent c → AreRollbackRows rows
    → IfSome o (λ version. IsRollbackVersion version rows)
    → raises_of (after_all c (raises_of c.otp rows o)).otp rows o ≡ []
raised-once c rows None right listed is = refl
raised-once c rows (Some version) right listed is =
    let counted = count-raises c rows version right listed is in
    raises-none (after_all c (raises c.otp rows version)).otp rows version (omega (arith, counted))

module _ (z : Content) (cpu : Cpu) (choice : Choice) (right : IsContent z)
    (h : Chosen z cpu Normal (Start choice)) where
  pub boot-is : after_boot z cpu ≡ after_all z (image_raises z.otp choice.image)
  boot-is =
      ap (λ d. after_all z (decided_steps z cpu d)) (sym (chosen-decision z cpu Normal (Start choice) h))
      ∙ ap (after_all z) (normal-steps z cpu choice h)

  pub starts-again : Chosen (after_boot z cpu) cpu Normal (Start choice)
  starts-again = raises-kept z cpu Normal choice (after_boot z cpu) right h (inl boot-is)

  pub bytes-again : SameImage (after_boot z cpu) z choice.image cpu
  bytes-again = raises-bytes z cpu Normal choice (after_boot z cpu) right h (inl boot-is)

  pub nothing-more : start_steps (after_boot z cpu) cpu choice ≡ []
  nothing-more =
      let valid = start-valid z cpu Normal choice h in
      normal-steps (after_boot z cpu) cpu choice starts-again
      ∙ (ap (λ (y : Content). image_raises y.otp choice.image) boot-is
      ∙ raised-once z choice.image.rows.items choice.image.rollback right
      (valid-rows z choice.image.window cpu true choice.image valid)
      (valid-version z choice.image.window cpu true choice.image valid))

-- a second boot leaves what the first one left
boot-by : (z : Content) (cpu : Cpu) (d : Decision) → IsContent z → Chosen z cpu Normal d
    → after_boot (after_boot z cpu) cpu ≡ after_boot z cpu
boot-by z cpu (Start choice) right h =
    ap (λ d. after_all (after_boot z cpu) (decided_steps (after_boot z cpu) cpu d))
    (sym (chosen-decision (after_boot z cpu) cpu Normal (Start choice) (starts-again z cpu choice right h)))
    ∙ ap (after_all (after_boot z cpu)) (nothing-more z cpu choice right h)
boot-by z cpu (Bootsel fall) right h =
    let same : after_boot z cpu ≡ z =
    ap (λ d. after_all z (decided_steps z cpu d)) (sym (chosen-decision z cpu Normal (Bootsel fall) h)) in
    ap (λ y. after_boot y cpu) same

pub boot-again : (z : Content) (cpu : Cpu) → IsContent z → after_boot (after_boot z cpu) cpu ≡ after_boot z cpu
boot-again z cpu right = boot-by z cpu (decision_in z cpu Normal) right (decision-chosen z cpu Normal)

more : (z : Content) (cpu : Cpu) (n : ℕ) → IsContent z → after_boots (suc n) z cpu ≡ after_boot z cpu
more z cpu zero right = refl
more z cpu (suc n) right = ap (λ y. after_boot y cpu) (more z cpu n right) ∙ boot-again z cpu right

pub boots-again : (z : Content) (cpu : Cpu) (n : ℕ) → IsContent z → after_boots (n + 1) z cpu ≡ after_boot z cpu
boots-again z cpu n right = ap (λ k. after_boots k z cpu) (add-one n) ∙ more z cpu n right

pub starts-on : (z : Content) (cpu : Cpu) (choice : Choice) (n : ℕ) → IsContent z → Chosen z cpu Normal (Start choice)
    → Chosen (after_boots n z cpu) cpu Normal (Start choice)
starts-on z cpu choice zero right h = h
starts-on z cpu choice (suc n) right h =
    subst (λ y. Chosen y cpu Normal (Start choice)) (sym (more z cpu n right)) (starts-again z cpu choice right h)

pub bytes-on : (z : Content) (cpu : Cpu) (choice : Choice) (n : ℕ) → IsContent z → Chosen z cpu Normal (Start choice)
    → SameImage (after_boots n z cpu) z choice.image cpu
bytes-on z cpu choice zero right h =
    same-image z z choice.image cpu
    (valid-holds z choice.image.window cpu true choice.image (start-valid z cpu Normal choice h)) refl
bytes-on z cpu choice (suc n) right h =
    subst (λ y. SameImage y z choice.image cpu) (sym (more z cpu n right)) (bytes-again z cpu choice right h)
