-- The choice in one unit: what it says where there is one, and where there is none.
use Rattle.std.proofs.Common.{subst, ◌≡◌, ◌⊎◌, Bool, true, false, cond, Option, Some, None, refl, sym, ◌∙◌, ap, inl, inr, option_map, option_and_then}
use Rattle.std.specs.Option.{option_or}
use Rattle.pico_board.specs.declared.window.Window.{Window}
use Rattle.image_def.specs.declared.started.Started.{Started}
use Rattle.slot_choice.specs.declared.unit.Member.{Member}
use Rattle.slot_choice.specs.declared.unit.Member.TheVariants.{A, B}
use Rattle.slot_choice.specs.declared.unit.SlotUnit.{SlotUnit}
use Rattle.slot_choice.specs.declared.choice.Choice.{Choice}
use Rattle.slot_choice.specs.Versions.{better, better_of, is_below}
use Rattle.slot_choice.proofs.VersionLemmas.{first_of_two, second_of_two}
use Rattle.boot_rules.specs.Choosing.{member_image, other_of, choice_of, of_better, version_of_image, unit_choice}
use Rattle.slot_choice.specs.Units.{member_window}
use Rattle.boot_rules.specs.Chosen.{is_member, IsBetter}

-- a member with an image has a window that holds it
pub image-window : (images : Window → Bool → Option Started) (u : SlotUnit) (m : Member) (trial : Bool) (s : Started)
    → member_image images u m trial ≡ Some s → (w : Window) × (member_window m u ≡ Some w) × (images w trial ≡ Some s)
image-window images u m trial s h = parts (member_window m u) h
  where
    parts : (o : Option Window) → option_and_then (λ w. images w trial) o ≡ Some s
        → (w : Window) × (o ≡ Some w) × (images w trial ≡ Some s)
    parts None e = cc
    parts (Some w) e = (w, refl, e)

pub window-image : (images : Window → Bool → Option Started) (u : SlotUnit) (m : Member) (trial : Bool) (w : Window)
    → member_window m u ≡ Some w → member_image images u m trial ≡ images w trial
window-image images u m trial w h = rw h refl

-- the images that count in a unit: the updated member's may be a trial
abbrev pub counting : (Window → Bool → Option Started) → SlotUnit → Option Member → Member → Option Started
counting images u updated m = member_image images u m (is_member updated m)

-- What the choice of a unit says of the images that count: it is that of its member; and this is the updated
-- member, or the updated member has none and the other image is no better one.
pub record IsUnitChoice (image : Member → Option Started) (u : SlotUnit) (updated : Option Member)
    (choice : Choice) : Type 0 where
  pub image_is : image choice.member ≡ Some choice.image
  pub best : (is_member updated choice.member ≡ true)
      ⊎ (((t : Started) → is_member updated (other_of choice.member) ≡ true → image (other_of choice.member) ≡ Some t
      → ⊥)
      × ((t : Started) → image (other_of choice.member) ≡ Some t
      → IsBetter choice.member choice.image.version t.version))
  pub other : choice.other ≡ member_window (other_of choice.member) u
  pub updated_is : choice.updated ≡ is_member updated choice.member

some-is : {X : Type 0} (x y : X) → Some x ≡ Some y → x ≡ y
some-is x y h = cc

-- a choice without an update
module _ (u : SlotUnit) (image : Member → Option Started) where
  abbrev plain : Option Started → Option Started → Option Choice
  plain a b = of_better u (better (version_of_image a) (version_of_image b)) a b

  plain-none : (a b : Option Started) → plain a b ≡ None → (a ≡ None) × (b ≡ None)
  plain-none None None h = (refl, refl)
  plain-none None (Some t) h = cc
  plain-none (Some s) None h = cc
  plain-none (Some s) (Some t) h = branch (is_below s.version t.version) h
    where
      branch : (below : Bool) → of_better u (Some (cond below B A)) (Some s) (Some t) ≡ None
          → (Some s ≡ None) × (Some t ≡ None)
      branch true e = cc
      branch false e = cc

  none-some : (o : Option Started) (t : Started) → o ≡ None → o ≡ Some t → ⊥
  none-some o t e f = cc

  version-is : (o : Option Started) (s t : Started) → o ≡ Some s → o ≡ Some t → s.version ≡ t.version
  version-is o s t e f = ap (λ (x : Started). x.version) (some-is s t (sym e ∙ f))

  plain-some : (a b : Option Started) → image A ≡ a → image B ≡ b → (choice : Choice) → plain a b ≡ Some choice
      → IsUnitChoice image u None choice
  plain-some None None ia ib choice h = cc
  plain-some None (Some t) ia ib choice h =
      subst (λ (ch : Choice). IsUnitChoice image u None ch) (some-is (choice_of u B false t) choice h) (record {
        image_is = ib;
        best = inr ((λ x (not_it : false ≡ true). cc), λ x held. absurd (none-some (image A) x ia held));
        other = refl;
        updated_is = refl;
      })
  plain-some (Some s) None ia ib choice h =
      subst (λ (ch : Choice). IsUnitChoice image u None ch) (some-is (choice_of u A false s) choice h) (record {
        image_is = ia;
        best = inr ((λ x (not_it : false ≡ true). cc), λ x held. absurd (none-some (image B) x ib held));
        other = refl;
        updated_is = refl;
      })
  plain-some (Some s) (Some t) ia ib choice h = branch (is_below s.version t.version) refl h
    where
      branch : (below : Bool) → is_below s.version t.version ≡ below
          → of_better u (Some (cond below B A)) (Some s) (Some t) ≡ Some choice → IsUnitChoice image u None choice
      branch true is e =
          subst (λ (ch : Choice). IsUnitChoice image u None ch) (some-is (choice_of u B false t) choice e) (record {
            image_is = ib;
            best = inr (
              (λ x (not_it : false ≡ true). cc),
              λ x held. ap (λ v. better_of v t.version) (sym (version-is (image A) s x ia held))
                  ∙ (second_of_two s.version t.version).1 is,
            );
            other = refl;
            updated_is = refl;
          })
      branch false is e =
          subst (λ (ch : Choice). IsUnitChoice image u None ch) (some-is (choice_of u A false s) choice e) (record {
            image_is = ia;
            best = inr (
              (λ x (not_it : false ≡ true). cc),
              λ x held. ap (λ v. better_of s.version v) (sym (version-is (image B) t x ib held))
                  ∙ (first_of_two s.version t.version).1 is,
            );
            other = refl;
            updated_is = refl;
          })

  -- a choice with an update of this member
  abbrev updating : Member → Option Started → Option Started → Option Choice
  updating m a b = option_or (option_map (choice_of u m true) a) (option_map (choice_of u (other_of m) false) b)

  updating-none : (m : Member) (a b : Option Started) → updating m a b ≡ None → (a ≡ None) × (b ≡ None)
  updating-none m None None h = (refl, refl)
  updating-none m None (Some t) h = cc
  updating-none m (Some s) b h = cc

  self-member : (m : Member) → is_member (Some m) m ≡ true
  self-member A = refl
  self-member B = refl

  other-member : (m : Member) → is_member (Some m) (other_of m) ≡ false
  other-member A = refl
  other-member B = refl

  other-other : (m : Member) → other_of (other_of m) ≡ m
  other-other A = refl
  other-other B = refl

  updating-some : (m : Member) (a b : Option Started) → image m ≡ a → image (other_of m) ≡ b → (choice : Choice)
      → updating m a b ≡ Some choice → IsUnitChoice image u (Some m) choice
  updating-some m None None ia ib choice h = cc
  updating-some m None (Some t) ia ib choice h =
      subst (λ (ch : Choice). IsUnitChoice image u (Some m) ch) (some-is (choice_of u (other_of m) false t) choice h)
      (record {
        image_is = ib;
        best = inr (
          (λ x it held. none-some (image m) x ia (back x held)),
          λ x held. absurd
              (none-some (image m) x ia (back x held)),
        );
        other = refl;
        updated_is = sym (other-member m);
      })
    where
      back : (x : Started) → image (other_of (other_of m)) ≡ Some x → image m ≡ Some x
      back x held = ap image (sym (other-other m)) ∙ held
  updating-some m (Some s) b ia ib choice h =
      subst (λ (ch : Choice). IsUnitChoice image u (Some m) ch) (some-is (choice_of u m true s) choice h) (record {
        image_is = ia;
        best = inl (self-member m);
        other = refl;
        updated_is = sym (self-member m);
      })

-- a unit without a choice has no image that counts
pub unit-none : (images : Window → Bool → Option Started) (u : SlotUnit) (updated : Option Member)
    → unit_choice images u updated ≡ None → (m : Member) → counting images u updated m ≡ None
unit-none images u None h A = (plain-none u (counting images u None) _ _ h).0
unit-none images u None h B = (plain-none u (counting images u None) _ _ h).1
unit-none images u (Some A) h A = (updating-none u (counting images u (Some A)) A _ _ h).0
unit-none images u (Some A) h B = (updating-none u (counting images u (Some A)) A _ _ h).1
unit-none images u (Some B) h A = (updating-none u (counting images u (Some B)) B _ _ h).1
unit-none images u (Some B) h B = (updating-none u (counting images u (Some B)) B _ _ h).0

-- a unit with a choice has it by the rules
pub unit-some : (images : Window → Bool → Option Started) (u : SlotUnit) (updated : Option Member) (choice : Choice)
    → unit_choice images u updated ≡ Some choice → IsUnitChoice (counting images u updated) u updated choice
unit-some images u None choice h = plain-some u (counting images u None) _ _ refl refl choice h
unit-some images u (Some A) choice h = updating-some u (counting images u (Some A)) A _ _ refl refl choice h
unit-some images u (Some B) choice h = updating-some u (counting images u (Some B)) B _ _ refl refl choice h
