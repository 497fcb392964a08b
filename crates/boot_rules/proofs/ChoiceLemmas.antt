-- The choice as a function of the images is the choice that the rules name, and the only one.
use Rattle.std.proofs.Common.{subst, ◌≡◌, ◌⊎◌, ℕ, zero, suc, ◌<◌, Bool, true, false, List, [], ◌∷◌, Option, Some, None, refl, sym, ◌∙◌, ap, inl, inr, IsTrue, slice_get, arith}
use Rattle.std.specs.Option.{option_or}
use Rattle.std.proofs.lemmas.Bool.{cases_order}
use Rattle.pico_board.specs.declared.boot.Cpu.{Cpu}
use Rattle.pico_board.specs.declared.window.Window.{Window}
use Rattle.pico_board.specs.Content.{Content}
use Rattle.image_def.specs.declared.started.Started.{Started}
use Rattle.slot_choice.specs.declared.unit.Member.{Member}
use Rattle.slot_choice.specs.declared.unit.Member.TheVariants.{A, B}
use Rattle.slot_choice.specs.declared.unit.SlotUnit.{SlotUnit}
use Rattle.slot_choice.specs.declared.choice.Choice.{Choice}
use Rattle.image_check.specs.Valid.{Valid}
use Rattle.boot_rules.specs.Choosing.{Order, member_image, other_of, unit_choice, ordered_choice}
use Rattle.slot_choice.specs.Units.{member_window}
use Rattle.boot_rules.specs.Chosen.{is_member, is_updated, Counts, IsBetter, IsBest, IsStart}
use Rattle.boot_rules.proofs.UnitLemmas.{image-window, window-image, counting, unit-none, unit-some, IsUnitChoice}

abbrev pub order : List SlotUnit → Option Member → Order
order us updated = record { units = us; updated = updated }

-- without an updated member none is updated
never-updated : (us : List SlotUnit) (i : ℕ) (m : Member) → is_updated (order us None) i m ≡ false
never-updated us zero m = refl
never-updated us (suc i) m = refl

same-some : {X : Type 0} (x y : X) → Some x ≡ Some y → x ≡ y
same-some x y h = cc

option_or-none : {X : Type 0} (a b : Option X) → option_or a b ≡ None → (a ≡ None) × (b ≡ None)
option_or-none None b h = (refl, h)
option_or-none (Some x) b h = cc

module _ (c : Content) (cpu : Cpu) (images : Window → Bool → Option Started)
    (valid : (w : Window) (trial : Bool) (s : Started) → images w trial ≡ Some s → Valid c w cpu trial s)
    (found : (w : Window) (trial : Bool) (s : Started) → Valid c w cpu trial s → images w trial ≡ Some s) where
  -- an image counts where the function of images has it in the member's window
  image-counts : (o : Order) (i : ℕ) (u : SlotUnit) (m : Member) (s : Started)
      → slice_get o.units i ≡ Some u → member_image images u m (is_updated o i m) ≡ Some s → Counts c cpu o i u m s
  image-counts o i u m s tried h =
      let p = image-window images u m (is_updated o i m) s h in
      record { window = p.0; tried = tried; stands = p.1; valid = valid (p.0) (is_updated o i m) s (p.2) }

  counts-image : (o : Order) (i : ℕ) (u : SlotUnit) (m : Member) (s : Started)
      → Counts c cpu o i u m s → member_image images u m (is_updated o i m) ≡ Some s
  counts-image o i u m s k = window-image images u m (is_updated o i m) k.window k.stands
      ∙ found k.window (is_updated o i m) s k.valid

  -- what counts in the later units counts behind one more unit, and the other way round
  counts-later : (v : SlotUnit) (us : List SlotUnit) (updated : Option Member) (i : ℕ) (u : SlotUnit) (m : Member)
      (s : Started)
      → Counts c cpu (order us None) i u m s → Counts c cpu (order (v ∷ us) updated) (suc i) u m s
  counts-later v us updated i u m s k = record {
    window = k.window;
    tried = k.tried;
    stands = k.stands;
    valid = subst (λ trial. Valid c k.window cpu trial s) (never-updated us i m) k.valid;
  }

  counts-sooner : (v : SlotUnit) (us : List SlotUnit) (updated : Option Member) (i : ℕ) (u : SlotUnit) (m : Member)
      (s : Started)
      → Counts c cpu (order (v ∷ us) updated) (suc i) u m s → Counts c cpu (order us None) i u m s
  counts-sooner v us updated i u m s k = record {
    window = k.window;
    tried = k.tried;
    stands = k.stands;
    valid = subst (λ trial. Valid c k.window cpu trial s) (sym (never-updated us i m)) k.valid;
  }

  -- where there is no choice, no image counts
  pub nothing-counts : (us : List SlotUnit) (updated : Option Member) → ordered_choice images us updated ≡ None
      → (i : ℕ) (u : SlotUnit) (m : Member) (s : Started) → Counts c cpu (order us updated) i u m s → ⊥
  nothing-counts [] updated h i u m s k = let tried : None ≡ Some u = k.tried in cc
  nothing-counts (v ∷ us) updated h zero u m s k =
      let none = unit-none images v updated (option_or-none _ _ h).0 m in
      let unit : v ≡ u = same-some v u k.tried in
      let some = counts-image (order (v ∷ us) updated) zero u m s k in
      let here : counting images v updated m ≡ Some s =
      subst (λ (w : SlotUnit). counting images w updated m ≡ Some s) (sym unit) some in
      none-some _ none here
    where
      none-some : (o : Option Started) → o ≡ None → o ≡ Some s → ⊥
      none-some o e f = cc
  nothing-counts (v ∷ us) updated h (suc i) u m s k =
      nothing-counts us None (option_or-none _ _ h).1 i u m s (counts-sooner v us updated i u m s k)

  -- the choice of the first unit
  start-here : (v : SlotUnit) (us : List SlotUnit) (updated : Option Member) (choice : Choice)
      → IsUnitChoice (counting images v updated) v updated choice → IsStart c cpu (order (v ∷ us) updated) choice
  start-here v us updated choice p = record {
    place = zero;
    unit = v;
    counts = image-counts (order (v ∷ us) updated) zero v choice.member choice.image refl p.image_is;
    first = λ i u m s lt k. absurd (omega (arith, lt));
    best = best p.best;
    other = p.other;
    updated = p.updated_is;
  }
    where
      seen : (t : Started) → Counts c cpu (order (v ∷ us) updated) zero v (other_of choice.member) t
          → counting images v updated (other_of choice.member) ≡ Some t
      seen t k = counts-image (order (v ∷ us) updated) zero v (other_of choice.member) t k

      best : (is_member updated choice.member ≡ true)
          ⊎ (((t : Started) → is_member updated (other_of choice.member) ≡ true
          → counting images v updated (other_of choice.member) ≡ Some t → ⊥)
          × ((t : Started) → counting images v updated (other_of choice.member) ≡ Some t
          → IsBetter choice.member choice.image.version t.version))
          → IsTrue (is_updated (order (v ∷ us) updated) zero choice.member)
          ⊎ IsBest c cpu (order (v ∷ us) updated) zero v choice.member choice.image
      best (inl it) = inl it
      best (inr q) = inr (record { no_update = λ t it k. (q.0) t it (seen t k); better = λ t k. (q.1) t (seen t k) })

  -- the choice of a later unit
  start-later : (v : SlotUnit) (us : List SlotUnit) (updated : Option Member) (choice : Choice)
      → unit_choice images v updated ≡ None → IsStart c cpu (order us None) choice
      → IsStart c cpu (order (v ∷ us) updated) choice
  start-later v us updated choice none r = record {
    place = suc r.place;
    unit = r.unit;
    counts = counts-later v us updated r.place r.unit choice.member choice.image r.counts;
    first = first;
    best = best r.best;
    other = r.other;
    updated = r.updated ∙ never-updated us r.place choice.member;
  }
    where
      first : (i : ℕ) (u : SlotUnit) (m : Member) (s : Started) → i < suc r.place
          → Counts c cpu (order (v ∷ us) updated) i u m s → ⊥
      first zero u m s lt k = only (same-some v u k.tried) (counts-image (order (v ∷ us) updated) zero u m s k)
        where
          none-some : (o : Option Started) → o ≡ None → o ≡ Some s → ⊥
          none-some o e f = cc

          only : v ≡ u → counting images u updated m ≡ Some s → ⊥
          only unit some = none-some _ (unit-none images v updated none m)
              (subst (λ (w : SlotUnit). counting images w updated m ≡ Some s) (sym unit) some)
      first (suc i) u m s lt k = r.first i u m s (omega (arith, lt)) (counts-sooner v us updated i u m s k)

      later : (t : Started) → Counts c cpu (order (v ∷ us) updated) (suc r.place) r.unit (other_of choice.member) t
          → Counts c cpu (order us None) r.place r.unit (other_of choice.member) t
      later t k = counts-sooner v us updated r.place r.unit (other_of choice.member) t k

      not-updated : is_updated (order us None) r.place choice.member ≡ true → ⊥
      not-updated it = let e : false ≡ true = sym (never-updated us r.place choice.member) ∙ it in cc

      best : IsTrue (is_updated (order us None) r.place choice.member)
          ⊎ IsBest c cpu (order us None) r.place r.unit choice.member choice.image
          → IsTrue (is_updated (order (v ∷ us) updated) (suc r.place) choice.member)
          ⊎ IsBest c cpu (order (v ∷ us) updated) (suc r.place) r.unit choice.member choice.image
      best (inl it) = absurd (not-updated it)
      best (inr q) = inr (record { no_update = λ t (it : false ≡ true) k. cc; better = λ t k. q.better t (later t k) })

  -- where there is a choice, it is one that the rules name
  pub choice-starts : (us : List SlotUnit) (updated : Option Member) (choice : Choice)
      → ordered_choice images us updated ≡ Some choice → IsStart c cpu (order us updated) choice
  choice-starts [] updated choice h = cc
  choice-starts (v ∷ us) updated choice h = go (choice-starts us None choice) (unit_choice images v updated) refl h
    where
      go : (ordered_choice images us None ≡ Some choice → IsStart c cpu (order us None) choice)
          → (o : Option Choice) → unit_choice images v updated ≡ o
          → option_or o (ordered_choice images us None) ≡ Some choice
          → IsStart c cpu (order (v ∷ us) updated) choice
      go rest (Some ch) is e = start-here v us updated choice (unit-some images v updated choice (is ∙ e))
      go rest None is e = start-later v us updated choice is (rest e)

  -- two members of a unit
  data Members (m n : Member) : Type 0 where
    same : m ≡ n → Members m n
    two : n ≡ other_of m → m ≡ other_of n → Members m n

  members : (m n : Member) → Members m n
  members A A = same refl
  members A B = two refl refl
  members B A = two refl refl
  members B B = same refl

  -- a choice that the rules name, at a place and in a unit
  record StartAt (o : Order) (i : ℕ) (u : SlotUnit) (x : Choice) : Type 0 where
    pub counts : Counts c cpu o i u x.member x.image
    pub best : IsTrue (is_updated o i x.member) ⊎ IsBest c cpu o i u x.member x.image
    pub other : x.other ≡ member_window (other_of x.member) u
    pub updated : x.updated ≡ is_updated o i x.member

  start-at : (o : Order) (x : Choice) (s : IsStart c cpu o x) → StartAt o s.place s.unit x
  start-at o x s = record { counts = s.counts; best = s.best; other = s.other; updated = s.updated }

  -- at most one member is the updated one
  one-updated : (o : Order) (i : ℕ) (m n : Member) → n ≡ other_of m → is_updated o i m ≡ true → is_updated o i n ≡ true
      → ⊥
  one-updated o i m n e h k = go i o.updated m h (subst (λ (l : Member). is_updated o i l ≡ true) e k)
    where
      go : (j : ℕ) (updated : Option Member) (l : Member) → is_updated (order o.units updated) j l ≡ true
          → is_updated (order o.units updated) j (other_of l) ≡ true → ⊥
      go zero None l p q = cc
      go zero (Some A) A p q = cc
      go zero (Some A) B p q = cc
      go zero (Some B) A p q = cc
      go zero (Some B) B p q = cc
      go (suc j) updated l p q = cc

  -- at most one member is better than the other
  one-better : (m n : Member) (s t : Started) → n ≡ other_of m → IsBetter m s.version t.version
      → IsBetter n t.version s.version → ⊥
  one-better m n s t e h k = go m h (subst (λ (l : Member). IsBetter l t.version s.version) e k)
    where
      go : (l : Member) → IsBetter l s.version t.version → IsBetter (other_of l) t.version s.version → ⊥
      go A p q = let both : A ≡ B = sym p ∙ q in cc
      go B p q = let both : B ≡ A = sym p ∙ q in cc

  same-choice : (i j : Started) (m n : Member) (w v : Option Window) (a b : Bool) → i ≡ j → m ≡ n → w ≡ v → a ≡ b
      → (let x : Choice = record { image = i; member = m; other = w; updated = a } in
      let y : Choice = record { image = j; member = n; other = v; updated = b } in x ≡ y)
  same-choice i j m n w v a b p q r s = cc

  one-at : (o : Order) (i : ℕ) (u : SlotUnit) (x y : Choice) → StartAt o i u x → StartAt o i u y → x ≡ y
  one-at o i u x y s t = by_members (members x.member y.member)
    where
      by_best : y.member ≡ other_of x.member → x.member ≡ other_of y.member
          → IsTrue (is_updated o i x.member) ⊎ IsBest c cpu o i u x.member x.image
          → IsTrue (is_updated o i y.member) ⊎ IsBest c cpu o i u y.member y.image → ⊥
      by_best e f (inl a) (inl b) = one-updated o i x.member y.member e a b
      by_best e f (inl a) (inr q) =
          q.no_update x.image (subst (λ (l : Member). is_updated o i l ≡ true) f a)
          (subst (λ (l : Member). Counts c cpu o i u l x.image) f s.counts)
      by_best e f (inr q) (inl b) =
          q.no_update y.image (subst (λ (l : Member). is_updated o i l ≡ true) e b)
          (subst (λ (l : Member). Counts c cpu o i u l y.image) e t.counts)
      by_best e f (inr q) (inr r) =
          one-better x.member y.member x.image y.image e
          (q.better y.image (subst (λ (l : Member). Counts c cpu o i u l y.image) e t.counts))
          (r.better x.image (subst (λ (l : Member). Counts c cpu o i u l x.image) f s.counts))

      by_members : Members x.member y.member → x ≡ y
      by_members (same e) =
          let k : Counts c cpu o i u x.member y.image =
          subst (λ (l : Member). Counts c cpu o i u l y.image) (sym e) t.counts in
          let image : x.image ≡ y.image =
          same-some x.image y.image (sym (counts-image o i u x.member x.image s.counts)
          ∙ counts-image o i u x.member y.image k) in
          same-choice _ _ _ _ _ _ _ _ image e
          (s.other ∙ (ap (λ (l : Member). member_window (other_of l) u) e ∙ sym t.other))
          (s.updated ∙ (ap (λ (l : Member). is_updated o i l) e ∙ sym t.updated))
      by_members (two e f) = absurd (by_best e f s.best t.best)

  -- the rules name one choice at most
  pub one-start : (o : Order) (x y : Choice) → IsStart c cpu o x → IsStart c cpu o y → x ≡ y
  one-start o x y s t = by_place (cases_order s.place t.place)
    where
      units : (e : s.place ≡ t.place) → s.unit ≡ t.unit
      units e = same-some s.unit t.unit (sym s.counts.tried ∙ (ap (slice_get o.units) e ∙ t.counts.tried))

      by_place : (s.place ≡ t.place) ⊎ ((s.place < t.place) ⊎ (t.place < s.place)) → x ≡ y
      by_place (inl e) =
          one-at o t.place t.unit x y
          (subst (λ (u : SlotUnit). StartAt o t.place u x) (units e)
          (subst (λ (i : ℕ). StartAt o i s.unit x) e (start-at o x s)))
          (start-at o y t)
      by_place (inr (inl lt)) = absurd (t.first s.place s.unit x.member x.image lt s.counts)
      by_place (inr (inr lt)) = absurd (s.first t.place t.unit y.member y.image lt t.counts)

  -- the choice that the rules name is the choice as a function of the images
  pub start-choice : (us : List SlotUnit) (updated : Option Member) (choice : Choice)
      → IsStart c cpu (order us updated) choice → ordered_choice images us updated ≡ Some choice
  start-choice us updated choice s = go (ordered_choice images us updated) refl
    where
      go : (o : Option Choice) → ordered_choice images us updated ≡ o → o ≡ Some choice
      go None is = absurd (nothing-counts us updated is s.place s.unit choice.member choice.image s.counts)
      go (Some other) is = ap Some (one-start (order us updated) other choice (choice-starts us updated other is) s)

  -- there is no choice where no image counts
  pub none-choice : (us : List SlotUnit) (updated : Option Member)
      → ((i : ℕ) (u : SlotUnit) (m : Member) (s : Started) → Counts c cpu (order us updated) i u m s → ⊥)
      → ordered_choice images us updated ≡ None
  none-choice us updated nothing = go (ordered_choice images us updated) refl
    where
      go : (o : Option Choice) → ordered_choice images us updated ≡ o → o ≡ None
      go None is = refl
      go (Some other) is =
          let s = choice-starts us updated other is in
          absurd (nothing s.place s.unit other.member other.image s.counts)
