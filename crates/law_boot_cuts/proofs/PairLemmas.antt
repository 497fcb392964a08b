-- The choice in a unit by the images of a member and of the other one.
use Rattle.std.proofs.Common.{◌≡◌, Bool, true, false, not, Option, Some, None, refl, ap, ◌∙◌}
use Rattle.pico_board.specs.declared.window.Window.{Window}
use Rattle.image_def.specs.declared.started.Started.{Started}
use Rattle.slot_choice.specs.declared.unit.Member.{Member}
use Rattle.slot_choice.specs.declared.unit.Member.TheVariants.{A, B}
use Rattle.slot_choice.specs.declared.unit.SlotUnit.{SlotUnit}
use Rattle.slot_choice.specs.declared.choice.Choice.{Choice}
use Rattle.slot_choice.specs.Versions.{better, better_of}
use Rattle.trial_buy.specs.Starting.{is_other_better, is_second}
use Rattle.boot_rules.specs.Choosing.{choice_of, member_image, of_better, other_of, unit_choice, version_of_image}

ap2 : {X Y Z : Type 0} (k : X → Y → Z) (a b : X) (c d : Y) → a ≡ b → c ≡ d → k a c ≡ k b d
ap2 k a b c d p q = ap (λ x. k x c) p ∙ ap (λ y. k b y) q

abbrev in_order : SlotUnit → Option Started → Option Started → Option Choice
in_order u a b = of_better u (better (version_of_image a) (version_of_image b)) a b

-- the choice of a normal boot in a unit, of the image of member m and that of the other one
abbrev pub pair_choice : Member → SlotUnit → Option Started → Option Started → Option Choice
pair_choice A u mine other = in_order u mine other
pair_choice B u mine other = in_order u other mine

pub choice-pair : (images : Window → Bool → Option Started) (u : SlotUnit) (m : Member) (a b : Option Started)
    → member_image images u m false ≡ a → member_image images u (other_of m) false ≡ b
    → unit_choice images u None ≡ pair_choice m u a b
choice-pair images u A a b mine other = ap2 (in_order u) _ _ _ _ mine other
choice-pair images u B a b mine other = ap2 (in_order u) _ _ _ _ other mine

-- the other member has no image, or one that is not better than this one, or that is
pub data IsWorse (m : Member) (s : Started) (b : Option Started) : Type 0 where
  no_image : b ≡ None → IsWorse m s b
  not_better : (t : Started) → b ≡ Some t → is_other_better m s.version t.version ≡ false → IsWorse m s b

second : (m : Member) → is_second m ≡ true → m ≡ B
second A e = cc
second B e = refl

not-second : (m : Member) → is_second m ≡ false → m ≡ A
not-second A e = refl
not-second B e = cc

first : (m : Member) → not (is_second m) ≡ true → m ≡ A
first A e = refl
first B e = cc

not-first : (m : Member) → not (is_second m) ≡ false → m ≡ B
not-first A e = cc
not-first B e = refl

by-better : (u : SlotUnit) (a b : Started) (m : Member) → better_of a.version b.version ≡ m
    → in_order u (Some a) (Some b) ≡ of_better u (Some m) (Some a) (Some b)
by-better u a b m e = ap (λ n. of_better u (Some n) (Some a) (Some b)) e

-- an image is taken where the other one is worse
pub takes-mine : (m : Member) (u : SlotUnit) (s : Started) (b : Option Started) → IsWorse m s b
    → pair_choice m u (Some s) b ≡ Some (choice_of u m false s)
takes-mine A u s b (no_image e) = ap (in_order u (Some s)) e
takes-mine B u s b (no_image e) = ap (λ o. in_order u o (Some s)) e
takes-mine A u s b (not_better t e is) =
    ap (in_order u (Some s)) e ∙ by-better u s t A (not-second (better_of s.version t.version) is)
takes-mine B u s b (not_better t e is) =
    ap (λ o. in_order u o (Some s)) e ∙ by-better u t s B (not-first (better_of t.version s.version) is)

-- this member has no image, or one that is worse than the other one
pub data IsBeaten (m : Member) (a : Option Started) (t : Started) : Type 0 where
  absent : a ≡ None → IsBeaten m a t
  beaten : (s : Started) → a ≡ Some s → is_other_better m s.version t.version ≡ true → IsBeaten m a t

pub takes-other : (m : Member) (u : SlotUnit) (a : Option Started) (t : Started) → IsBeaten m a t
    → pair_choice m u a (Some t) ≡ Some (choice_of u (other_of m) false t)
takes-other A u a t (absent e) = ap (λ o. in_order u o (Some t)) e
takes-other B u a t (absent e) = ap (in_order u (Some t)) e
takes-other A u a t (beaten s e is) =
    ap (λ o. in_order u o (Some t)) e ∙ by-better u s t B (second (better_of s.version t.version) is)
takes-other B u a t (beaten s e is) =
    ap (in_order u (Some t)) e ∙ by-better u t s A (first (better_of t.version s.version) is)
