-- Two windows that are right and share a sector are one window.
use Rattle.std.proofs.Common.{◌≡◌, ◌⊎◌, inl, inr, ℕ, ◌+◌, ◌-◌, ◌*◌, ◌/◌, ◌%◌, ◌<◌, ◌≤◌, Bool, true, false, length, Option, Some, None, refl, sym, ◌∙◌, ap, subst, arith}
use Rattle.std.proofs.lemmas.Bool.{cases_eq}
use Rattle.pico_board.specs.declared.window.Window.{Window}
use Rattle.part_table.specs.declared.table.Table.{Table}
use Rattle.part_table.specs.Partitions.{part_at}
use Rattle.part_table.specs.Windows.{IsPlacedWindow, part_window}
use Rattle.boot_rules.specs.Tables.{slot_window}
use Rattle.boot_map.specs.declared.places.MapPlace.{MapPlace}
use Rattle.boot_map.specs.declared.places.MapPlace.TheVariants.{Slot, Partition as Part, Whole, Free}
use Rattle.boot_map.specs.Windows.{has_slots, parts_of}
use Rattle.boot_map.specs.WindowRules.{WindowHasSector, IsFreeStretch, IsMappable, IsTakenSector, IsWindowOf}
use Rattle.boot_map.proofs.LaidLemmas.{AreLaid, laid, no-common, same-window, sectors-of, slot-start}

slot-placed : (x z s : ℕ) → (x ≡ 0) ⊎ (x ≡ z) → z % 4096 ≡ 0 → 4096 ≤ z → 2 * z ≤ 4096 * s
    → IsPlacedWindow (record { start = x; len = z }) s 0
slot-placed x z s (inl e) whole some fits = record {
  starts = subst (λ y. y % 4096 ≡ 0) (sym e) refl;
  whole = whole;
  some = some;
  inside = omega arith;
  free = omega arith;
}
slot-placed x z s (inr e) whole some fits = record {
  starts = subst (λ y. y % 4096 ≡ 0) (sym e) whole;
  whole = whole;
  some = some;
  inside = omega arith;
  free = omega arith;
}

free-placed : (f k s : ℕ) → 1 ≤ k → f + k ≤ s → IsPlacedWindow (record { start = 4096 * f; len = 4096 * k }) s 0
free-placed f k s some inside = record {
  starts = omega arith;
  whole = omega arith;
  some = omega arith;
  inside = omega arith;
  free = omega arith;
}

whole-placed : (n z : ℕ) → n % 4096 ≡ 0 → 4096 ≤ z → 2 * z ≤ n
    → IsPlacedWindow (record { start = 0; len = n }) (n / 4096) 0
whole-placed n z whole least fits =
    let long = sectors-of n whole in
    record {
      starts = refl;
      whole = whole;
      some = omega arith;
      inside = omega (arith, long);
      free = omega arith;
    }

-- the sectors of a free stretch
range : (f k s : ℕ) → 4096 * f ≤ 4096 * s → 4096 * s < 4096 * f + 4096 * k → (f ≤ s) × (s < f + k)
range f k s from to = (omega arith, omega arith)

no-slots : (t : Option Table) (z i : ℕ) → has_slots t z ≡ false → i < length (parts_of t) → ⊥
no-slots None z i e lt = omega arith
no-slots (Some t) z i e lt = cc

two-tests : (b : Bool) → b ≡ true → b ≡ false → ⊥
two-tests b one two = cc

either : (x z : ℕ) → ((x ≡ 0) ⊎ (x ≡ z)) → x ≤ z
either x z (inl e) = omega arith
either x z (inr e) = omega arith

module _ (t : Option Table) (n z : ℕ) (able : IsMappable t n z) where
  lay : AreLaid (parts_of t) z (n / 4096)
  lay = laid t n z able

  slot-x : (number : ℕ) → number < 2 → (number * z ≡ 0) ⊎ (number * z ≡ z)
  slot-x number lt = by (slot-start z number lt)
    where
      by : ((number ≡ 0) × (number * z ≡ 0)) ⊎ ((number ≡ 1) × (number * z ≡ z))
          → (number * z ≡ 0) ⊎ (number * z ≡ z)
      by (inl a) = inl a.1
      by (inr a) = inr a.1

  -- a right window is of whole sectors, at least one, inside the flash
  pub right-placed : (p : MapPlace) (w : Window) → IsWindowOf t n z p w → IsPlacedWindow w (n / 4096) 0
  right-placed (Slot number) w is =
      subst (λ (x : Window). IsPlacedWindow x (n / 4096) 0) (sym is.2)
      (slot-placed (number * z) z (n / 4096) (slot-x number is.1) lay.slots lay.least lay.fits)
  right-placed (Part i) w is =
      subst (λ (x : Window). IsPlacedWindow x (n / 4096) 0) (sym is.1) (lay.placed i is.0)
  right-placed Whole w is =
      subst (λ (x : Window). IsPlacedWindow x (n / 4096) 0) (sym is.1)
      (whole-placed n z able.whole able.least able.fits)
  right-placed Free w is =
      let f = is.1 in
      subst (λ (x : Window). IsPlacedWindow x (n / 4096) 0) (sym f.window)
      (free-placed f.first f.count (n / 4096) f.some f.inside)

  -- a slot's sectors are taken
  slot-taken : (number s : ℕ) → number < 2 → WindowHasSector (slot_window z number) s → IsTakenSector (parts_of t) z s
  slot-taken number s lt has = by (slot-start z number lt)
    where
      by : ((number ≡ 0) × (number * z ≡ 0)) ⊎ ((number ≡ 1) × (number * z ≡ z)) → IsTakenSector (parts_of t) z s
      by (inl a) = inl (subst (λ k. WindowHasSector (slot_window z k) s) a.0 has)
      by (inr a) = inr (inl (subst (λ k. WindowHasSector (slot_window z k) s) a.0 has))

  -- two slots share no sector
  slot-slot : (a b s : ℕ) → a < 2 → b < 2 → WindowHasSector (slot_window z a) s → WindowHasSector (slot_window z b) s
      → a ≡ b
  slot-slot a b s a_lt b_lt one two = by (slot-start z a a_lt) (slot-start z b b_lt)
    where
      apart : (x y : ℕ) → x ≡ 0 → y ≡ z → y ≤ 4096 * s → 4096 * s < x + z → ⊥
      apart x y e1 e2 le lt = omega arith

      by : ((a ≡ 0) × (a * z ≡ 0)) ⊎ ((a ≡ 1) × (a * z ≡ z)) → ((b ≡ 0) × (b * z ≡ 0)) ⊎ ((b ≡ 1) × (b * z ≡ z))
          → a ≡ b
      by (inl x) (inl y) = x.0 ∙ sym y.0
      by (inl x) (inr y) = absurd (apart (a * z) (b * z) x.1 y.1 two.0 one.1)
      by (inr x) (inl y) = absurd (apart (b * z) (a * z) y.1 x.1 one.0 two.1)
      by (inr x) (inr y) = x.0 ∙ sym y.0

  -- a slot and a partition share none
  slot-part : (a i s : ℕ) → a < 2 → i < length (parts_of t) → WindowHasSector (slot_window z a) s
      → WindowHasSector (part_window (part_at (parts_of t) i)) s → ⊥
  slot-part a i s a_lt lt one two =
      apart (a * z) (part_window (part_at (parts_of t) i)).start (either (a * z) z (slot-x a a_lt)) (lay.behind i lt)
      one.1 two.0
    where
      apart : (x y : ℕ) → x ≤ z → 2 * z ≤ y → 4096 * s < x + z → y ≤ 4096 * s → ⊥
      apart x y e1 e2 lt2 le = omega arith

  -- what is taken is not free
  pub taken-free : (w : Window) (s : ℕ) → IsTakenSector (parts_of t) z s → IsFreeStretch (parts_of t) z (n / 4096) w
      → WindowHasSector w s → ⊥
  taken-free w s taken f has =
      let at : WindowHasSector (record { start = 4096 * f.first; len = 4096 * f.count }) s =
      subst (λ (x : Window). WindowHasSector x s) f.window has in
      let in_range = range f.first f.count s at.0 at.1 in
      f.free s in_range.0 in_range.1 taken

  -- two free stretches that share a sector are one
  module _ (v w : Window) (f : IsFreeStretch (parts_of t) z (n / 4096) v)
      (g : IsFreeStretch (parts_of t) z (n / 4096) w) (s : ℕ) (one : (f.first ≤ s) × (s < f.first + f.count))
      (two : (g.first ≤ s) × (s < g.first + g.count)) where
    no-later : f.first < g.first → ⊥
    no-later lt = by g.before
      where
        by : (g.first ≡ 0) ⊎ IsTakenSector (parts_of t) z (g.first - 1) → ⊥
        by (inl e) = omega arith
        by (inr taken) =
            f.free (g.first - 1) (omega (arith, lt)) (below g.first (f.first + f.count) s lt two.0 one.1) taken
          where
            below : (a b c : ℕ) → f.first < a → a ≤ c → c < b → a - 1 < b
            below a b c x y e = omega arith

    no-longer : f.first + f.count < g.first + g.count → ⊥
    no-longer lt = by f.behind
      where
        by : (f.first + f.count ≡ n / 4096) ⊎ IsTakenSector (parts_of t) z (f.first + f.count) → ⊥
        by (inl e) = let inside = g.inside in past (f.first + f.count) (g.first + g.count) (n / 4096) e lt inside
          where
            past : (a b c : ℕ) → a ≡ c → a < b → b ≤ c → ⊥
            past a b c x y e2 = omega arith
        by (inr taken) =
            g.free (f.first + f.count) (from g.first (f.first + f.count) s two.0 one.1) lt taken
          where
            from : (a b c : ℕ) → a ≤ c → c < b → a ≤ b
            from a b c x y = omega arith

  not-less : (a b : ℕ) → (a < b → ⊥) → (b < a → ⊥) → a ≡ b
  not-less a b one two = omega (arith, one, two)

  same-count : (a b c d : ℕ) → a ≡ b → a + c ≡ b + d → c ≡ d
  same-count a b c d one two = omega arith

  free-free : (v w : Window) (s : ℕ) → IsFreeStretch (parts_of t) z (n / 4096) v
      → IsFreeStretch (parts_of t) z (n / 4096) w → WindowHasSector v s → WindowHasSector w s → v ≡ w
  free-free v w s f g one two =
      let at_f : WindowHasSector (record { start = 4096 * f.first; len = 4096 * f.count }) s =
      subst (λ (x : Window). WindowHasSector x s) f.window one in
      let at_g : WindowHasSector (record { start = 4096 * g.first; len = 4096 * g.count }) s =
      subst (λ (x : Window). WindowHasSector x s) g.window two in
      let in_f = range f.first f.count s at_f.0 at_f.1 in
      let in_g = range g.first g.count s at_g.0 at_g.1 in
      let first : f.first ≡ g.first =
      not-less f.first g.first (no-later v w f g s in_f in_g) (no-later w v g f s in_g in_f) in
      let end : f.first + f.count ≡ g.first + g.count =
      not-less (f.first + f.count) (g.first + g.count) (no-longer v w f g s in_f in_g)
      (no-longer w v g f s in_g in_f) in
      f.window
      ∙ (same-window (4096 * f.first) (4096 * f.count) (4096 * g.first) (4096 * g.count)
      (ap (λ x. 4096 * x) first)
      (ap (λ x. 4096 * x) (same-count f.first g.first f.count g.count first end)) ∙ sym g.window)

  -- a sector of a window that is another
  moved : (v w : Window) (s : ℕ) → v ≡ w → WindowHasSector v s → WindowHasSector w s
  moved v w s e has = subst (λ (x : Window). WindowHasSector x s) e has

  part-taken : (i s : ℕ) → i < length (parts_of t) → WindowHasSector (part_window (part_at (parts_of t) i)) s
      → IsTakenSector (parts_of t) z s
  part-taken i s lt has = inr (inr (i, lt, has))

  part-part : (i j s : ℕ) → i < length (parts_of t) → j < length (parts_of t)
      → WindowHasSector (part_window (part_at (parts_of t) i)) s
      → WindowHasSector (part_window (part_at (parts_of t) j)) s → i ≡ j
  part-part i j s i_lt j_lt one two = by (cases_eq i j)
    where
      by : (i ≡ j) ⊎ (i ≡ j → ⊥) → i ≡ j
      by (inl e) = e
      by (inr differ) =
          absurd (no-common (part_window (part_at (parts_of t) i)) (part_window (part_at (parts_of t) j)) s
          (lay.apart i j i_lt j_lt differ) one two)

  pub shared : (p q : MapPlace) (v w : Window) (s : ℕ) → IsWindowOf t n z p v → IsWindowOf t n z q w
      → WindowHasSector v s
      → WindowHasSector w s → (p ≡ q) × (v ≡ w)
  shared (Slot a) (Slot b) v w s one two has also =
      let same : a ≡ b = slot-slot a b s one.1 two.1 (moved v (slot_window z a) s one.2 has)
      (moved w (slot_window z b) s two.2 also) in
      (ap Slot same, one.2 ∙ (ap (slot_window z) same ∙ sym two.2))
  shared (Slot a) (Part i) v w s one two has also =
      absurd (slot-part a i s one.1 two.0 (moved v (slot_window z a) s one.2 has)
      (moved w (part_window (part_at (parts_of t) i)) s two.1 also))
  shared (Slot a) Whole v w s one two has also = absurd (two-tests (has_slots t z) one.0 two.0)
  shared (Slot a) Free v w s one two has also =
      absurd (taken-free w s (slot-taken a s one.1 (moved v (slot_window z a) s one.2 has)) two.1 also)
  shared (Part i) (Slot a) v w s one two has also =
      absurd (slot-part a i s two.1 one.0 (moved w (slot_window z a) s two.2 also)
      (moved v (part_window (part_at (parts_of t) i)) s one.1 has))
  shared (Part i) (Part j) v w s one two has also =
      let same : i ≡ j = part-part i j s one.0 two.0 (moved v (part_window (part_at (parts_of t) i)) s one.1 has)
      (moved w (part_window (part_at (parts_of t) j)) s two.1 also) in
      (ap Part same, one.1 ∙ (ap (λ k. part_window (part_at (parts_of t) k)) same ∙ sym two.1))
  shared (Part i) Whole v w s one two has also = absurd (no-slots t z i two.0 one.0)
  shared (Part i) Free v w s one two has also =
      absurd (taken-free w s
      (part-taken i s one.0 (moved v (part_window (part_at (parts_of t) i)) s one.1 has)) two.1 also)
  shared Whole (Slot a) v w s one two has also = absurd (two-tests (has_slots t z) two.0 one.0)
  shared Whole (Part i) v w s one two has also = absurd (no-slots t z i one.0 two.0)
  shared Whole Whole v w s one two has also = (refl, one.1 ∙ sym two.1)
  shared Whole Free v w s one two has also = absurd (two-tests (has_slots t z) two.0 one.0)
  shared Free (Slot a) v w s one two has also =
      absurd (taken-free v s (slot-taken a s two.1 (moved w (slot_window z a) s two.2 also)) one.1 has)
  shared Free (Part i) v w s one two has also =
      absurd (taken-free v s
      (part-taken i s two.0 (moved w (part_window (part_at (parts_of t) i)) s two.1 also)) one.1 has)
  shared Free Whole v w s one two has also = absurd (two-tests (has_slots t z) one.0 two.0)
  shared Free Free v w s one two has also = (refl, free-free v w s one.1 two.1 has also)
