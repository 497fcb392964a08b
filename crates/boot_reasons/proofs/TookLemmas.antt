-- Which image is taken in a unit, and why, by the function and in the words of the rules.
use Rattle.std.proofs.Common.{◌≡◌, ◌⊎◌, Bool, true, false, cond, ◌||◌, if◌then◌else◌, Option, Some, None, IsTrue, is_some, refl, sym, ap, ◌∙◌, subst, inl, inr}
use Rattle.std.proofs.lemmas.Option.{same_Some}
use Rattle.pico_board.specs.declared.window.Window.{Window}
use Rattle.image_def.specs.declared.started.Started.{Started}
use Rattle.slot_choice.specs.declared.unit.Member.{Member}
use Rattle.slot_choice.specs.declared.unit.Member.TheVariants.{A, B}
use Rattle.slot_choice.specs.declared.unit.SlotUnit.{SlotUnit}
use Rattle.slot_choice.specs.Units.{member_window}
use Rattle.slot_choice.specs.Versions.{better_of, is_below}
use Rattle.slot_choice.proofs.VersionLemmas.{first_of_two, second_of_two, total}
use Rattle.boot_rules.specs.Choosing.{other_of}
use Rattle.boot_rules.specs.Chosen.{is_member, IsBetter}
use Rattle.boot_reasons.specs.declared.looks.TakenImage.{TakenImage}
use Rattle.boot_reasons.specs.declared.looks.UnitReason.{UnitReason}
use Rattle.boot_reasons.specs.declared.looks.UnitReason.TheVariants.{Updated, Only, Version, Tie}
use Rattle.boot_reasons.specs.Looks.{better_image, taken_image, taken_of, taken_of_pair}
use Rattle.boot_reasons.specs.LookRules.{IsUpdatedOne, IsOnlyOne, IsGreaterOne, IsFirstOfEqual, IsReason, IsTakenImage, IsTakenBy}

true-false : (x : Bool) → x ≡ true → x ≡ false → ⊥
true-false x e f = cc

no-some : {X : Type 0} (o : Option X) (x : X) → o ≡ None → o ≡ Some x → ⊥
no-some o x e f = cc

-- Has tells what the function of images has
pub record Tells (Has : Member → Started → Type 0) (u : SlotUnit) (image : Member → Option Started) : Type 0 where
  pub to : (m : Member) (s : Started) → Has m s → image m ≡ Some s
  pub from : (m : Member) (s : Started) → image m ≡ Some s → Has m s
  pub place : (m : Member) (s : Started) → Has m s → member_window m u ≡ Some s.window

module _ (Has : Member → Started → Type 0) (u : SlotUnit) (image : Member → Option Started)
    (tells : Tells Has u image) where
  made : (updated : Option Member) (m : Member) (s : Started) (r : UnitReason) → Has m s
      → IsUpdatedOne updated m
      ⊎ ((t : Started) → Has (other_of m) t → (IsUpdatedOne updated (other_of m) → ⊥) × IsBetter m s.version t.version)
      → IsReason Has updated m s r → IsTakenBy Has u updated (taken_image m r s)
  made updated m s r has best reason =
      (s, record { counts = has; best = best }, tells.place m s has, reason)

  -- an image that is there is the only one of its member
  same : (m : Member) (s t : Started) → image m ≡ Some s → Has m t → s ≡ t
  same m s t e has = same_Some s t (sym e ∙ tells.to m t has)

  lacks : (m : Member) → image m ≡ None → (t : Started) → Has m t → ⊥
  lacks m none t has = no-some (image m) t none (tells.to m t has)

  -- where no image is the updated member's
  better-right : (updated : Option Member) → ((m : Member) (s : Started) → Has m s → IsUpdatedOne updated m → ⊥)
      → (a b : Option Started) → image A ≡ a → image B ≡ b → IsTakenBy Has u updated (better_image a b)
  better-right updated never None None ia ib = none
    where
      none : (m : Member) (s : Started) → Has m s → ⊥
      none A s has = lacks A ia s has
      none B s has = lacks B ib s has
  better-right updated never None (Some t) ia ib =
      let has : Has B t = tells.from B t ib in
      made updated B t Only has (inr (λ x held. absurd (lacks A ia x held)))
      (never B t has, λ x held. lacks A ia x held)
  better-right updated never (Some s) None ia ib =
      let has : Has A s = tells.from A s ia in
      made updated A s Only has (inr (λ x held. absurd (lacks B ib x held)))
      (never A s has, λ x held. lacks B ib x held)
  better-right updated never (Some s) (Some t) ia ib =
      by (is_below s.version t.version) (is_below t.version s.version) refl refl
    where
      first : Has A s
      first = tells.from A s ia

      second : Has B t
      second = tells.from B t ib

      by : (lower higher : Bool) → is_below s.version t.version ≡ lower → is_below t.version s.version ≡ higher
          → IsTakenBy Has u updated
          (taken_of_pair (if lower then B else A) (if lower || higher then Version else Tie) s t)
      by true higher l h =
          made updated B t Version second
          (inr (λ x held. (
            never A x held,
            subst (λ (y : Started). better_of y.version t.version ≡ B) (same A s x ia held)
                ((second_of_two s.version t.version).1 l),
          )))
          (never B t second, (λ only. only s first), (s, first, l))
      by false true l h =
          made updated A s Version first
          (inr (λ x held. (
            never B x held,
            subst (λ (y : Started). better_of s.version y.version ≡ A) (same B t x ib held)
                ((first_of_two s.version t.version).1 l),
          )))
          (never A s first, (λ only. only t second), (t, second, h))
      by false false l h =
          made updated A s Tie first
          (inr (λ x held. (
            never B x held,
            subst (λ (y : Started). better_of s.version y.version ≡ A) (same B t x ib held)
                ((first_of_two s.version t.version).1 l),
          ))) (
            never A s first,
            (λ only. only t second),
            (λ greater. true-false (is_below t.version s.version)
                (subst (λ (y : Started). is_below y.version s.version ≡ true)
                (sym (same B t greater.0 ib greater.1)) greater.2) h),
            (t, second, total t.version s.version h l, refl),
          )

  none-updated : (m : Member) (s : Started) → Has m s → IsUpdatedOne None m → ⊥
  none-updated m s has is = cc

  -- where the updated member lacks an image
  only-A : image A ≡ None → (m : Member) (s : Started) → Has m s → IsUpdatedOne (Some A) m → ⊥
  only-A none A s has is = lacks A none s has
  only-A none B s has is = cc

  only-B : image B ≡ None → (m : Member) (s : Started) → Has m s → IsUpdatedOne (Some B) m → ⊥
  only-B none A s has is = cc
  only-B none B s has is = lacks B none s has

  by-images : (updated : Option Member) (a b : Option Started) → image A ≡ a → image B ≡ b
      → IsTakenBy Has u updated (taken_of updated a b)
  by-images None a b ia ib = better-right None none-updated a b ia ib
  by-images (Some A) None b ia ib = better-right (Some A) (only-A ia) None b ia ib
  by-images (Some A) (Some s) b ia ib = made (Some A) A s Updated (tells.from A s ia) (inl refl) refl
  by-images (Some B) a None ia ib = better-right (Some B) (only-B ib) a None ia ib
  by-images (Some B) a (Some t) ia ib = made (Some B) B t Updated (tells.from B t ib) (inl refl) refl

  -- what is taken is right by the rules
  pub took-right : (updated : Option Member) → IsTakenBy Has u updated (taken_of updated (image A) (image B))
  took-right updated = by-images updated (image A) (image B) refl refl

  -- no two different reasons are right by the rules
  reason-once : (updated : Option Member) (m : Member) (s : Started) (r q : UnitReason)
      → IsReason Has updated m s r → IsReason Has updated m s q → r ≡ q
  reason-once updated m s Updated Updated x y = refl
  reason-once updated m s Updated Only x y = absurd (y.0 x)
  reason-once updated m s Updated Version x y = absurd (y.0 x)
  reason-once updated m s Updated Tie x y = absurd (y.0 x)
  reason-once updated m s Only Updated x y = absurd (x.0 y)
  reason-once updated m s Only Only x y = refl
  reason-once updated m s Only Version x y = absurd (y.1 x.1)
  reason-once updated m s Only Tie x y = absurd (y.1 x.1)
  reason-once updated m s Version Updated x y = absurd (x.0 y)
  reason-once updated m s Version Only x y = absurd (x.1 y.1)
  reason-once updated m s Version Version x y = refl
  reason-once updated m s Version Tie x y = absurd (y.2 x.2)
  reason-once updated m s Tie Updated x y = absurd (x.0 y)
  reason-once updated m s Tie Only x y = absurd (x.1 y.1)
  reason-once updated m s Tie Version x y = absurd (x.2 y.2)
  reason-once updated m s Tie Tie x y = refl

  one-updated : (updated : Option Member) (m : Member) → IsUpdatedOne updated m → IsUpdatedOne updated (other_of m) → ⊥
  one-updated None m p q = cc
  one-updated (Some A) A p q = cc
  one-updated (Some A) B p q = cc
  one-updated (Some B) A p q = cc
  one-updated (Some B) B p q = cc

  other-other : (m : Member) → other_of (other_of m) ≡ m
  other-other A = refl
  other-other B = refl

  not-both : (m : Member) (s t : Started) → IsBetter m s.version t.version → IsBetter (other_of m) t.version s.version
      → ⊥
  not-both A s t p q = let both : A ≡ B = sym p ∙ q in cc
  not-both B s t p q = let both : B ≡ A = sym p ∙ q in cc

  -- two members are not both taken
  not-two : (updated : Option Member) (m : Member) (s t : Started) → IsTakenImage Has updated m s
      → IsTakenImage Has updated (other_of m) t → ⊥
  not-two updated m s t p q = by p.best q.best
    where
      back : Has (other_of (other_of m)) s
      back = subst (λ (n : Member). Has n s) (sym (other-other m)) p.counts

      by : IsUpdatedOne updated m
          ⊎ ((x : Started) → Has (other_of m) x
          → (IsUpdatedOne updated (other_of m) → ⊥) × IsBetter m s.version x.version)
          → IsUpdatedOne updated (other_of m)
          ⊎ ((x : Started) → Has (other_of (other_of m)) x
          → (IsUpdatedOne updated (other_of (other_of m)) → ⊥) × IsBetter (other_of m) t.version x.version) → ⊥
      by (inl one) (inl two) = one-updated updated m one two
      by (inl one) (inr best) =
          (best s back).0 (subst (λ (n : Member). IsUpdatedOne updated n) (sym (other-other m)) one)
      by (inr best) (inl two) = (best t q.counts).0 two
      by (inr best) (inr more) = not-both m s t (best t q.counts).1 (more s back).1

  same-took : (x y : TakenImage) → x.member ≡ y.member → x.window ≡ y.window → x.because ≡ y.because → x ≡ y
  same-took x y e f g =
      ap (λ m. record { member = m; window = x.window; because = x.because }) e
      ∙ (ap (λ w. record { member = y.member; window = w; because = x.because }) f
      ∙ ap (λ r. record { member = y.member; window = y.window; because = r }) g)

  -- of one unit only one member is taken
  one-member : (updated : Option Member) (m n : Member) (s t : Started) → IsTakenImage Has updated m s
      → IsTakenImage Has updated n t → m ≡ n
  one-member updated A A s t p q = refl
  one-member updated A B s t p q = absurd (not-two updated A s t p q)
  one-member updated B A s t p q = absurd (not-two updated B s t p q)
  one-member updated B B s t p q = refl

  took-once : (updated : Option Member) (x y : Option TakenImage) → IsTakenBy Has u updated x
      → IsTakenBy Has u updated y → x ≡ y
  took-once updated None None p q = refl
  took-once updated None (Some y) p q = absurd (p y.member q.0 q.1.counts)
  took-once updated (Some x) None p q = absurd (q x.member p.0 p.1.counts)
  took-once updated (Some x) (Some y) p q =
      let m : x.member ≡ y.member = one-member updated x.member y.member p.0 q.0 p.1 q.1 in
      let counts : Has y.member p.0 = subst (λ (n : Member). Has n p.0) m p.1.counts in
      let s : p.0 ≡ q.0 = same y.member p.0 q.0 (tells.to y.member p.0 counts) q.1.counts in
      let w : x.window ≡ y.window =
      same_Some x.window y.window (sym p.2 ∙ (ap (λ (n : Member). member_window n u) m ∙ q.2)) in
      let r : IsReason Has updated y.member q.0 x.because =
      subst (λ (z : Started). IsReason Has updated y.member z x.because) s
      (subst (λ (n : Member). IsReason Has updated n p.0 x.because) m p.3) in
      ap Some (same-took x y m w (reason-once updated y.member q.0 x.because y.because r q.3))

  pub took-only : (updated : Option Member) (x : Option TakenImage) → IsTakenBy Has u updated x
      → x ≡ taken_of updated (image A) (image B)
  took-only updated x is = took-once updated x _ is (took-right updated)
