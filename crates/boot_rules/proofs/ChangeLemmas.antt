-- What a change of the images leaves of the choice.
use Rattle.std.proofs.Common.{◌≡◌, ◌≢◌, ◌⊎◌, ℕ, suc, Bool, true, false, cond, List, [], ◌∷◌, Option, Some, None, refl, sym, ◌∙◌, ap, subst, inl, inr, slice_get, option_map, option_and_then, ◌<◌, arith, IsSome}
use Rattle.std.specs.Option.{option_or}
use Rattle.std.proofs.lemmas.Bool.{cases_order}
use Rattle.pico_board.specs.declared.boot.Cpu.{Cpu}
use Rattle.pico_board.specs.declared.window.Window.{Window}
use Rattle.pico_board.specs.Content.{Content}
use Rattle.image_def.specs.declared.started.Started.{Started}
use Rattle.slot_choice.specs.declared.unit.Member.{Member}
use Rattle.slot_choice.specs.declared.unit.Member.TheVariants.{A, B}
use Rattle.slot_choice.specs.declared.unit.SlotUnit.{SlotUnit}
use Rattle.slot_choice.specs.declared.choice.Choice.{Choice}
use Rattle.slot_choice.specs.Versions.{better, is_below}
use Rattle.boot_rules.specs.Choosing.{Order, choose, member_image, other_of, choice_of, of_better, version_of_image, unit_choice, ordered_choice, images_in}
use Rattle.slot_choice.specs.Units.{member_window}
use Rattle.boot_rules.specs.Changes.{Images, HaveSameImages, HaveSameImagesBut, AreInPlace, IsNotIn, IsIn}
use Rattle.boot_rules.proofs.DecisionLemmas.{found-valid}

ap2 : {X Y Z : Type 0} (k : X → Y → Z) (a b : X) (c d : Y) → a ≡ b → c ≡ d → k a c ≡ k b d
ap2 k a b c d p q = ap (λ x. k x c) p ∙ ap (λ y. k b y) q

-- the images of the first unit, and those of the units behind it
sooner : (f g : Images) (u : SlotUnit) (us : List SlotUnit) → HaveSameImages f g (u ∷ us) → HaveSameImages f g us
sooner f g u us a = record { same = λ i v m w trial tried stands. a.same (suc i) v m w trial tried stands }

member-same : (f g : Images) (u : SlotUnit) (us : List SlotUnit) → HaveSameImages f g (u ∷ us)
    → (m : Member) (trial : Bool) → member_image f u m trial ≡ member_image g u m trial
member-same f g u us a m trial = go (member_window m u) refl
  where
    go : (o : Option Window) → member_window m u ≡ o
        → option_and_then (λ w. f w trial) o ≡ option_and_then (λ w. g w trial) o
    go None e = refl
    go (Some w) e = a.same 0 u m w trial refl e

abbrev plain : SlotUnit → Option Started → Option Started → Option Choice
plain u a b = of_better u (better (version_of_image a) (version_of_image b)) a b

abbrev updating : SlotUnit → Member → Option Started → Option Started → Option Choice
updating u m a b = option_or (option_map (choice_of u m true) a) (option_map (choice_of u (other_of m) false) b)

unit-same : (f g : Images) (u : SlotUnit) (us : List SlotUnit) → HaveSameImages f g (u ∷ us)
    → (updated : Option Member) → unit_choice f u updated ≡ unit_choice g u updated
unit-same f g u us a None = ap2 (plain u) _ _ _ _ (member-same f g u us a A false) (member-same f g u us a B false)
unit-same f g u us a (Some m) =
    ap2 (updating u m) _ _ _ _ (member-same f g u us a m true) (member-same f g u us a (other_of m) false)

ordered-same : (f g : Images) (us : List SlotUnit) (updated : Option Member)
    → HaveSameImages f g us → ordered_choice f us updated ≡ ordered_choice g us updated
ordered-same f g [] updated a = refl
ordered-same f g (u ∷ us) updated a =
    ap2 option_or _ _ _ _ (unit-same f g u us a updated) (ordered-same f g us None (sooner f g u us a))

-- equal images give equal choices
pub choose-same : (f g : Images) (order : Order) → HaveSameImages f g order.units → choose f order ≡ choose g order
choose-same f g order a = ordered-same f g order.units order.updated a

same-window : (a b c d : ℕ) → a ≡ c → b ≡ d
    → (let v : Window = record { start = a; len = b } in
    let w : Window = record { start = c; len = d } in v ≡ w)
same-window a b c d p q = cc

-- two windows are the same or not
decide-window : (v w : Window) → (v ≡ w) ⊎ (v ≢ w)
decide-window v w = starts (cases_order v.start w.start)
  where
    above : (m n : ℕ) → (m < n) ⊎ (n < m) → m ≡ n → ⊥
    above m n (inl lt) e = omega arith
    above m n (inr lt) e = omega arith

    lengths : v.start ≡ w.start → (v.len ≡ w.len) ⊎ ((v.len < w.len) ⊎ (w.len < v.len)) → (v ≡ w) ⊎ (v ≢ w)
    lengths p (inl q) = inl (same-window _ _ _ _ p q)
    lengths p (inr apart) = inr (λ h. above v.len w.len apart (ap (λ (x : Window). x.len) h))

    starts : (v.start ≡ w.start) ⊎ ((v.start < w.start) ⊎ (w.start < v.start)) → (v ≡ w) ⊎ (v ≢ w)
    starts (inl p) = lengths p (cases_order v.len w.len)
    starts (inr apart) = inr (λ h. above v.start w.start apart (ap (λ (x : Window). x.start) h))

module _ (w : Window) where
  -- the images but that of window w
  abbrev kept : (v : Window) → (v ≡ w) ⊎ (v ≢ w) → Option Started → Option Started
  kept v (inl e) image = None
  kept v (inr n) image = image

  abbrev without : Images → Images
  without f v trial = kept v (decide-window v w) (f v trial)

  without-same : (f g : Images) (us : List SlotUnit) → HaveSameImagesBut w f g us
      → HaveSameImages (without f) (without g) us
  without-same f g us a = record
      { same = λ i u m v trial tried stands. go i u m v trial tried stands (decide-window v w) }
    where
      go : (i : ℕ) (u : SlotUnit) (m : Member) (v : Window) (trial : Bool) → slice_get us i ≡ Some u
          → member_window m u ≡ Some v
          → (d : (v ≡ w) ⊎ (v ≢ w)) → kept v d (f v trial) ≡ kept v d (g v trial)
      go i u m v trial tried stands (inl e) = refl
      go i u m v trial tried stands (inr n) = a.same i u m v trial tried stands n

  without-none : (g : Images) (us : List SlotUnit) → ((trial : Bool) → g w trial ≡ None)
      → HaveSameImages g (without g) us
  without-none g us none = record { same = λ i u m v trial tried stands. go v trial (decide-window v w) }
    where
      go : (v : Window) (trial : Bool) (d : (v ≡ w) ⊎ (v ≢ w)) → g v trial ≡ kept v d (g v trial)
      go v trial (inl e) = ap (λ x. g x trial) e ∙ none trial
      go v trial (inr n) = refl

  -- an image was left, or it was of window w
  data Left (image left : Option Started) : Type 0 where
    stayed : left ≡ image → Left image left
    taken : left ≡ None → ((s : Started) → image ≡ Some s → s.window ≡ w) → Left image left

  module _ (f : Images) (placed : AreInPlace f) where
    member-left : (u : SlotUnit) (m : Member) (trial : Bool)
        → Left (member_image f u m trial) (member_image (without f) u m trial)
    member-left u m trial = go (member_window m u)
      where
        by_window : (v : Window) (d : (v ≡ w) ⊎ (v ≢ w)) → Left (f v trial) (kept v d (f v trial))
        by_window v (inl e) = taken refl (λ s h. placed v trial s h ∙ e)
        by_window v (inr n) = stayed refl

        go : (o : Option Window) → Left (option_and_then (λ v. f v trial) o)
            (option_and_then (λ v. without f v trial) o)
        go None = stayed refl
        go (Some v) = by_window v (decide-window v w)

    plain-left : (u : SlotUnit) (a b x y : Option Started) → Left a x → Left b y → IsNotIn w (plain u a b)
        → plain u x y ≡ plain u a b
    plain-left u a b x y (stayed p) (stayed q) out = ap2 (plain u) x a y b p q
    plain-left u a b x y (taken p away) (stayed q) out = ap2 (plain u) x None y b p q ∙ go a b away out
      where
        go : (c d : Option Started) → ((s : Started) → c ≡ Some s → s.window ≡ w) → IsNotIn w (plain u c d)
            → plain u None d ≡ plain u c d
        go None d gone o = refl
        go (Some s) None gone o = absurd (o (gone s refl))
        go (Some s) (Some t) gone o = branch (is_below s.version t.version) o
          where
            branch : (below : Bool) → IsNotIn w (of_better u (Some (cond below B A)) (Some s) (Some t))
                → plain u None (Some t) ≡ of_better u (Some (cond below B A)) (Some s) (Some t)
            branch true k = refl
            branch false k = absurd (k (gone s refl))
    plain-left u a b x y (stayed p) (taken q away) out = ap2 (plain u) x a y None p q ∙ go a b away out
      where
        go : (c d : Option Started) → ((s : Started) → d ≡ Some s → s.window ≡ w) → IsNotIn w (plain u c d)
            → plain u c None ≡ plain u c d
        go c None gone o = refl
        go None (Some t) gone o = absurd (o (gone t refl))
        go (Some s) (Some t) gone o = branch (is_below s.version t.version) o
          where
            branch : (below : Bool) → IsNotIn w (of_better u (Some (cond below B A)) (Some s) (Some t))
                → plain u (Some s) None ≡ of_better u (Some (cond below B A)) (Some s) (Some t)
            branch true k = absurd (k (gone t refl))
            branch false k = refl
    plain-left u a b x y (taken p gone) (taken q away) out = ap2 (plain u) x None y None p q ∙ go a b gone away out
      where
        go : (c d : Option Started) → ((s : Started) → c ≡ Some s → s.window ≡ w)
            → ((s : Started) → d ≡ Some s → s.window ≡ w)
            → IsNotIn w (plain u c d) → plain u None None ≡ plain u c d
        go None None h k o = refl
        go None (Some t) h k o = absurd (o (k t refl))
        go (Some s) None h k o = absurd (o (h s refl))
        go (Some s) (Some t) h k o = branch (is_below s.version t.version) o
          where
            branch : (below : Bool) → IsNotIn w (of_better u (Some (cond below B A)) (Some s) (Some t))
                → plain u None None ≡ of_better u (Some (cond below B A)) (Some s) (Some t)
            branch true l = absurd (l (k t refl))
            branch false l = absurd (l (h s refl))

    updating-left : (u : SlotUnit) (m : Member) (a b x y : Option Started) → Left a x → Left b y
        → IsNotIn w (updating u m a b) → updating u m x y ≡ updating u m a b
    updating-left u m a b x y (stayed p) (stayed q) out = ap2 (updating u m) x a y b p q
    updating-left u m a b x y (taken p away) (stayed q) out = ap2 (updating u m) x None y b p q ∙ go a away out
      where
        go : (c : Option Started) → ((s : Started) → c ≡ Some s → s.window ≡ w) → IsNotIn w (updating u m c b)
            → updating u m None b ≡ updating u m c b
        go None gone o = refl
        go (Some s) gone o = absurd (o (gone s refl))
    updating-left u m a b x y (stayed p) (taken q away) out = ap2 (updating u m) x a y None p q ∙ go a b away out
      where
        go : (c d : Option Started) → ((s : Started) → d ≡ Some s → s.window ≡ w) → IsNotIn w (updating u m c d)
            → updating u m c None ≡ updating u m c d
        go (Some s) d gone o = refl
        go None None gone o = refl
        go None (Some t) gone o = absurd (o (gone t refl))
    updating-left u m a b x y (taken p gone) (taken q away) out = ap2 (updating u m) x None y None p q
        ∙ go a b gone away out
      where
        go : (c d : Option Started) → ((s : Started) → c ≡ Some s → s.window ≡ w)
            → ((s : Started) → d ≡ Some s → s.window ≡ w)
            → IsNotIn w (updating u m c d) → updating u m None None ≡ updating u m c d
        go None None h k o = refl
        go None (Some t) h k o = absurd (o (k t refl))
        go (Some s) d h k o = absurd (o (h s refl))

    unit-left : (u : SlotUnit) (updated : Option Member) → IsNotIn w (unit_choice f u updated)
        → unit_choice (without f) u updated ≡ unit_choice f u updated
    unit-left u None out = plain-left u _ _ _ _ (member-left u A false) (member-left u B false) out
    unit-left u (Some m) out = updating-left u m _ _ _ _ (member-left u m true) (member-left u (other_of m) false) out

    none-out : (o : Option Choice) → o ≡ None → IsNotIn w o
    none-out o e = subst (IsNotIn w) (sym e) tt

    ordered-left : (us : List SlotUnit) (updated : Option Member) → IsNotIn w (ordered_choice f us updated)
        → ordered_choice (without f) us updated ≡ ordered_choice f us updated
    ordered-left [] updated out = refl
    ordered-left (u ∷ us) updated out = go (λ k. ordered-left us None k) (unit_choice f u updated) refl out
      where
        go : (IsNotIn w (ordered_choice f us None) → ordered_choice (without f) us None ≡ ordered_choice f us None)
            → (o : Option Choice) → unit_choice f u updated ≡ o → IsNotIn w (option_or o (ordered_choice f us None))
            → option_or (unit_choice (without f) u updated) (ordered_choice (without f) us None)
            ≡ option_or o (ordered_choice f us None)
        go rest None e k = ap2 option_or _ _ _ _ (unit-left u updated (none-out _ e) ∙ e) (rest k)
        go rest (Some c) e k = ap (λ o. option_or o (ordered_choice (without f) us None))
            (unit-left u updated (subst (IsNotIn w) (sym e) k) ∙ e)

    -- without the image of a window that is not taken the choice is the same
    left : (order : Order) → IsNotIn w (choose f order) → choose (without f) order ≡ choose f order
    left order out = ordered-left order.units order.updated out

  module _ (f g : Images) (order : Order) (but : HaveSameImagesBut w f g order.units) (placed : AreInPlace f)
      (out : IsNotIn w (choose f order)) where
    both-left : choose (without g) order ≡ choose f order
    both-left = sym (choose-same (without f) (without g) order (without-same f g order.units but))
        ∙ left f placed order out

    pub changed-then-none : ((trial : Bool) → g w trial ≡ None) → choose g order ≡ choose f order
    changed-then-none none = choose-same g (without g) order (without-none g order.units none) ∙ both-left

    pub changed : AreInPlace g → IsIn w (choose g order) ⊎ (choose g order ≡ choose f order)
    changed in_place = go (choose g order) refl
      where
        there : (c : Choice) → choose g order ≡ Some c → (c.image.window ≡ w) ⊎ (c.image.window ≢ w)
            → IsIn w (choose g order) ⊎ (choose g order ≡ choose f order)
        there c e (inl here) = inl (record { start = c; chosen = e; there = here })
        there c e (inr n) = inr (sym (left g in_place order (subst (IsNotIn w) (sym e) n)) ∙ both-left)

        go : (o : Option Choice) → choose g order ≡ o → IsIn w (choose g order) ⊎ (choose g order ≡ choose f order)
        go None e = inr (sym (left g in_place order (none-out g in_place _ e)) ∙ both-left)
        go (Some c) e = there c e (decide-window c.image.window w)

-- a start stays a start
pub changed-stays : (w : Window) (f g : Images) (order : Order) → HaveSameImagesBut w f g order.units → AreInPlace f
    → AreInPlace g
    → IsNotIn w (choose f order) → IsSome (choose f order) → IsSome (choose g order)
changed-stays w f g order but placed in_place out some = go (changed w f g order but placed out in_place)
  where
    go : IsIn w (choose g order) ⊎ (choose g order ≡ choose f order) → IsSome (choose g order)
    go (inl there) = subst IsSome (sym there.chosen) refl
    go (inr same) = subst IsSome (sym same) some

-- the images of a content stand in their windows
pub images-placed : (c : Content) (cpu : Cpu) → AreInPlace (images_in c cpu)
images-placed c cpu v trial s h = ap (λ (x : Started). x.window) (found-valid c cpu v trial s h).started
