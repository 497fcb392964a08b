-- What is picked of a unit, in the words of the rule.
use Rattle.std.proofs.Common.{subst, ◌≡◌, ◌↔◌, zero, true, false, [], ◌∷◌, Option, Some, None, refl, sym, ap, ◌∙◌, arith, inl, inr, ◌⊎◌}
use Rattle.std.specs.Prelude.{option_map}
use Rattle.std.specs.Option.{option_or}
use Rattle.std.proofs.lemmas.Option.{same_Some}
use Rattle.pico_board.specs.declared.boot.Cpu.{Cpu}
use Rattle.pico_board.specs.Content.{Content}
use Rattle.image_def.specs.declared.started.Started.{Started}
use Rattle.slot_choice.specs.declared.unit.Member.{Member}
use Rattle.slot_choice.specs.declared.unit.SlotUnit.{SlotUnit}
use Rattle.slot_choice.specs.declared.choice.Choice.{Choice}
use Rattle.boot_rules.specs.Choosing.{choice_of, images_in, member_image, other_of}
use Rattle.boot_rules.specs.Chosen.{IsBetter, IsStart, is_member}
use Rattle.boot_rules.specs.Picking.{IsNormalImage, IsPick, pick, taken}
use Rattle.boot_rules.proofs.ChoiceLemmas.{order, start-choice}
use Rattle.boot_rules.proofs.DecisionLemmas.{found-valid, valid-found}
use Rattle.boot_rules.proofs.UnitLemmas.{image-window, unit-none, unit-some, window-image}

module _ (c : Content) (u : SlotUnit) (cpu : Cpu) where
  -- the images of members, as the function of images has them
  normal-image : (m : Member) (s : Started) → member_image (images_in c cpu) u m false ≡ Some s
      → IsNormalImage c cpu u m s
  normal-image m s e =
      let found = image-window (images_in c cpu) u m false s e in
      record { window = found.0; stands = found.1; valid = found-valid c cpu found.0 false s found.2 }

  image-normal : (m : Member) (s : Started) → IsNormalImage c cpu u m s
      → member_image (images_in c cpu) u m false ≡ Some s
  image-normal m s is = window-image (images_in c cpu) u m false is.window is.stands
      ∙ valid-found c cpu is.window false s is.valid

  taken-pick : (choice : Choice) → taken c cpu u ≡ Some choice → IsPick c u cpu choice.image
  taken-pick choice e =
      let is = unit-some (images_in c cpu) u None choice e in
      record {
        member = choice.member;
        image = normal-image choice.member choice.image is.image_is;
        better = best is.best;
      }
    where
      best : (is_member None choice.member ≡ true)
          ⊎ (((t : Started) → is_member None (other_of choice.member) ≡ true
          → member_image (images_in c cpu) u (other_of choice.member) false ≡ Some t → ⊥)
          × ((t : Started) → member_image (images_in c cpu) u (other_of choice.member) false ≡ Some t
          → IsBetter choice.member choice.image.version t.version))
          → (t : Started) → IsNormalImage c cpu u (other_of choice.member) t
          → IsBetter choice.member choice.image.version t.version
      best (inl it) t is = let never : false ≡ true = it in cc
      best (inr q) t is = q.1 t (image-normal (other_of choice.member) t is)

  pick-start : (s : Started) (is : IsPick c u cpu s)
      → IsStart c cpu (order (u ∷ []) None) (choice_of u is.member false s)
  pick-start s is = record {
    place = zero;
    unit = u;
    counts = record { window = is.image.window; tried = refl; stands = is.image.stands; valid = is.image.valid };
    first = λ i v m t lt k. absurd (omega (arith, lt));
    best = inr (record {
      no_update = λ t (it : false ≡ true) k. cc;
      better = λ t k. is.better t (record { window = k.window; stands = k.stands; valid = k.valid });
    });
    other = refl;
    updated = refl;
  }

  or-none : (o : Option Choice) (x : Choice) → option_or o None ≡ Some x → o ≡ Some x
  or-none None x e = cc
  or-none (Some y) x e = e

  pick-taken : (s : Started) (is : IsPick c u cpu s) → taken c cpu u ≡ Some (choice_of u is.member false s)
  pick-taken s is =
      or-none (taken c cpu u) (choice_of u is.member false s)
      (start-choice c cpu (images_in c cpu) (found-valid c cpu) (valid-found c cpu) (u ∷ []) None
      (choice_of u is.member false s) (pick-start s is))

  picked : (o : Option Choice) → taken c cpu u ≡ o → (s : Started) → option_map (λ (x : Choice). x.image) o ≡ Some s
      → IsPick c u cpu s
  picked None is s e = cc
  picked (Some choice) is s e = subst (IsPick c u cpu) (same_Some choice.image s e) (taken-pick choice is)

  pub pick-some : (s : Started) → (pick c u cpu ≡ Some s) ↔ IsPick c u cpu s
  pick-some s = (picked (taken c cpu u) refl s, λ is. ap (option_map (λ (x : Choice). x.image)) (pick-taken s is))

  never : {P : Type 0} (o : Option Started) (s : Started) → o ≡ None → o ≡ Some s → P
  never o s e f = let h : None ≡ Some s = sym e ∙ f in cc

  unpicked : (o : Option Choice) → taken c cpu u ≡ o → option_map (λ (x : Choice). x.image) o ≡ None
      → (m : Member) (s : Started) → IsNormalImage c cpu u m s → ⊥
  unpicked None is e m s image =
      never (member_image (images_in c cpu) u m false) s (unit-none (images_in c cpu) u None is m)
      (image-normal m s image)
  unpicked (Some choice) is e m s image = let h : Some choice.image ≡ None = e in cc

  nothing : ((m : Member) (s : Started) → IsNormalImage c cpu u m s → ⊥) → (o : Option Choice) → taken c cpu u ≡ o
      → option_map (λ (x : Choice). x.image) o ≡ None
  nothing none None is = refl
  nothing none (Some choice) is = absurd (none (taken-pick choice is).member choice.image (taken-pick choice is).image)

  pub pick-none : (pick c u cpu ≡ None) ↔ ((m : Member) (s : Started) → IsNormalImage c cpu u m s → ⊥)
  pick-none = (unpicked (taken c cpu u) refl, λ none. nothing none (taken c cpu u) refl)
