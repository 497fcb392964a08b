-- The windows of the function are right by the rules.
use Rattle.std.proofs.Common.{◌≡◌, ◌≢◌, ◌⊎◌, inl, inr, ℕ, zero, suc, ◌+◌, ◌-◌, ◌*◌, ◌/◌, ◌%◌, ◌<◌, ◌≤◌, Bool, true, false, List, [], ◌∷◌, ◌++◌, length, map, Option, Some, None, refl, sym, ◌∙◌, ap, subst, arith}
use Rattle.std.specs.Prelude.{nat_lt, if◌then◌else◌}
use Rattle.std.specs.List.{AllByRecursion}
use Rattle.std.specs.Option.{option_map_or}
use Rattle.std.proofs.lemmas.Bool.{cases_eq, ltb-true, ltb-false}
use Rattle.pico_board.specs.Content.{AreApart}
use Rattle.part_table.specs.declared.partition.Partition.{Partition}
use Rattle.part_table.specs.declared.table.Table.{Table}
use Rattle.part_table.specs.Partitions.{part_at}
use Rattle.part_table.specs.Windows.{IsPlacedWindow, part_window}
use Rattle.boot_map.specs.declared.places.MapWindow.{MapWindow}
use Rattle.boot_map.specs.Windows.{free_between, free_place, has_slots, map_windows, next_part, next_start, part_place, part_windows, parts_of, slot_place, whole_place, window_end}
use Rattle.boot_map.specs.WindowRules.{AreMapWindows, AreSideBySide, WindowHasSector, IsMappable, IsTakenSector, IsWindowOf}
use Rattle.boot_map.proofs.NextLemmas.{ahead, ahead-most, ahead-none, ahead-passed, next-from, next-least, next-most, next-source, none-found, part-found, start_of}
use Rattle.boot_map.proofs.LaidLemmas.{AreLaid, end-whole, first-in, laid, last-in, same-window, sectors-of}

module _ (t : Option Table) (n z : ℕ) (able : IsMappable t n z) (slots : has_slots t z ≡ true) where
  parts : List Partition
  parts = parts_of t

  lay : AreLaid (parts_of t) z (n / 4096)
  lay = laid t n z able

  long : 4096 * (n / 4096) ≡ n
  long = sectors-of n able.whole

  abbrev IsRight : MapWindow → Type 0
  IsRight m = IsWindowOf t n z m.place m.window

  -- windows from an offset to the flash's end, each of them right
  abbrev AreFrom : ℕ → List MapWindow → Type 0
  AreFrom at ms = AreSideBySide at n (map (λ m. m.window) ms) × AllByRecursion IsRight ms

  -- an offset behind the slots at which a sector begins and no partition goes on, behind a sector that is taken, with
  -- at most so many partitions ahead
  record Stands (at count : ℕ) : Type 0 where
    pub whole : at % 4096 ≡ 0
    pub low : 2 * z ≤ at
    pub high : at ≤ n
    pub split : (j : ℕ) → j < length (parts_of t)
        → (window_end (part_window (part_at (parts_of t) j)) ≤ at) ⊎ (at ≤ start_of (parts_of t) j)
    pub taken : IsTakenSector (parts_of t) z (at / 4096 - 1)
    pub left : ahead at (parts_of t) ≤ count

  -- the next offset at which a partition starts, or the flash's end
  record IsNext (at next : ℕ) : Type 0 where
    pub from : at ≤ next
    pub most : next ≤ n
    pub source : (next ≡ n) ⊎ ((i : ℕ) × (i < length (parts_of t)) × (start_of (parts_of t) i ≡ next))
    pub least : (j : ℕ) → j < length (parts_of t) → at ≤ start_of (parts_of t) j → next ≤ start_of (parts_of t) j

  source-whole : (at next : ℕ) → IsNext at next → next % 4096 ≡ 0
  source-whole at next is = by is.source
    where
      by : (next ≡ n) ⊎ ((i : ℕ) × (i < length (parts_of t)) × (start_of (parts_of t) i ≡ next)) → next % 4096 ≡ 0
      by (inl same) = subst (λ x. x % 4096 ≡ 0) (sym same) able.whole
      by (inr found) = subst (λ x. x % 4096 ≡ 0) found.2 (lay.placed found.0 found.1).starts

  -- sectors from an offset to the next one
  low-free : (at s x y : ℕ) → at % 4096 ≡ 0 → at / 4096 ≤ s → x + y ≤ at → 4096 * s < x + y → ⊥
  low-free at s x y whole from most lt = omega arith

  high-free : (at next s x : ℕ) → at % 4096 ≡ 0 → next % 4096 ≡ 0 → at ≤ next
      → s < at / 4096 + (next / 4096 - at / 4096) → next ≤ x → x ≤ 4096 * s → ⊥
  high-free at next s x whole also le lt most from = omega arith

  behind-next : (at next : ℕ) → at % 4096 ≡ 0 → next % 4096 ≡ 0 → at ≤ next
      → at / 4096 + (next / 4096 - at / 4096) ≡ next / 4096
  behind-next at next whole also le = omega arith

  free-right : (at count next : ℕ) → Stands at count → IsNext at next → at < next → IsRight (free_place at next)
  free-right at count next stands is lt = (
    slots,
    record {
      first = at / 4096;
      count = next / 4096 - at / 4096;
      window = same-window at (next - at) (4096 * (at / 4096)) (4096 * (next / 4096 - at / 4096))
          (sym (sectors-of at stands.whole)) (len at next stands.whole whole);
      some = some at next stands.whole whole lt;
      inside = subst (λ x. x ≤ n / 4096) (sym (behind-next at next stands.whole whole is.from))
          (inside next n is.most);
      free = free;
      before = inr stands.taken;
      behind = behind is.source;
    },
  )
    where
      whole : next % 4096 ≡ 0
      whole = source-whole at next is

      len : (a b : ℕ) → a % 4096 ≡ 0 → b % 4096 ≡ 0 → b - a ≡ 4096 * (b / 4096 - a / 4096)
      len a b one two = omega arith

      some : (a b : ℕ) → a % 4096 ≡ 0 → b % 4096 ≡ 0 → a < b → 1 ≤ b / 4096 - a / 4096
      some a b one two less = omega arith

      inside : (a b : ℕ) → a ≤ b → a / 4096 ≤ b / 4096
      inside a b le = omega arith

      low-slot : (x : ℕ) → x + z ≤ 2 * z → x + z ≤ at
      low-slot x le = let low = stands.low in omega arith

      free : (s : ℕ) → at / 4096 ≤ s → s < at / 4096 + (next / 4096 - at / 4096) → IsTakenSector (parts_of t) z s → ⊥
      free s from to (inl has) =
          low-free at s (0 * z) z stands.whole from (low-slot (0 * z) (omega arith)) has.1
      free s from to (inr (inl has)) =
          low-free at s (1 * z) z stands.whole from (low-slot (1 * z) (omega arith)) has.1
      free s from to (inr (inr has)) = by (stands.split has.0 has.1)
        where
          by : (window_end (part_window (part_at (parts_of t) has.0)) ≤ at) ⊎ (at ≤ start_of (parts_of t) has.0) → ⊥
          by (inl ends) =
              low-free at s (start_of (parts_of t) has.0) (part_window (part_at (parts_of t) has.0)).len stands.whole
              from ends has.2.1
          by (inr starts) =
              high-free at next s (start_of (parts_of t) has.0) stands.whole whole is.from to
              (is.least has.0 has.1 starts) has.2.0

      behind : (next ≡ n) ⊎ ((i : ℕ) × (i < length (parts_of t)) × (start_of (parts_of t) i ≡ next))
          → (at / 4096 + (next / 4096 - at / 4096) ≡ n / 4096)
          ⊎ IsTakenSector (parts_of t) z (at / 4096 + (next / 4096 - at / 4096))
      behind (inl same) = inl (behind-next at next stands.whole whole is.from ∙ ap (λ x. x / 4096) same)
      behind (inr found) =
          let placed = lay.placed found.0 found.1 in
          inr (subst (IsTakenSector (parts_of t) z) (sym (behind-next at next stands.whole whole is.from))
          (inr (inr (
            found.0,
            found.1,
            subst (λ x. WindowHasSector (part_window (part_at (parts_of t) found.0)) (x / 4096)) found.2
                (first-in (start_of (parts_of t) found.0) (part_window (part_at (parts_of t) found.0)).len placed.starts
                placed.some),
          ))))

  -- what is free before windows that stand from the next offset on
  gap-side : (at next : ℕ) → at ≤ next → at + (next - at) ≡ next
  gap-side at next le = omega arith

  free-then : (at next : ℕ) (rest : List MapWindow) → at ≤ next → (at < next → IsRight (free_place at next))
      → AreFrom next rest → AreFrom at (free_between at next ++ rest)
  free-then at next rest le right from = go (nat_lt at next) refl
    where
      go : (yes : Bool) → nat_lt at next ≡ yes
          → AreFrom at ((if yes then free_place at next ∷ [] else []) ++ rest)
      go true e = (
        (refl, subst (λ x. AreSideBySide x n (map (λ m. m.window) rest)) (sym (gap-side at next le)) from.0),
        (right (ltb-true at next e), from.1),
      )
      go false e =
          let past : next ≤ at = ltb-false at next e in
          let same : next ≡ at = omega arith in
          subst (λ x. AreFrom x rest) same from

  -- what is free from an offset up to the flash's end
  free-last : (at : ℕ) → at ≤ n → (at < n → IsRight (free_place at n)) → AreFrom at (free_between at n)
  free-last at le right = go (nat_lt at n) refl
    where
      go : (yes : Bool) → nat_lt at n ≡ yes → AreFrom at (if yes then free_place at n ∷ [] else [])
      go true e = ((refl, gap-side at n le), (right (ltb-true at n e), tt))
      go false e =
          let past : n ≤ at = ltb-false at n e in
          let same : at ≡ n = omega arith in
          (same, tt)

  -- behind a partition that starts at the next offset
  part-stands : (at count i : ℕ) → Stands at (suc count) → i < length (parts_of t) → at ≤ start_of (parts_of t) i
      → Stands (window_end (part_window (part_at (parts_of t) i))) count
  part-stands at count i stands lt from = record {
    whole = end-whole start (part_window (part_at (parts_of t) i)).len placed.starts placed.whole;
    low = low start (part_window (part_at (parts_of t) i)).len (lay.behind i lt);
    high = subst (λ x. window_end (part_window (part_at (parts_of t) i)) ≤ x) long placed.inside;
    split = split;
    taken = inr (inr (
      i,
      lt,
      last-in start (part_window (part_at (parts_of t) i)).len placed.starts placed.whole placed.some,
    ));
    left = less _ _ count
        (ahead-passed at (window_end (part_window (part_at (parts_of t) i)))
        (later start (part_window (part_at (parts_of t) i)).len from) (parts_of t) i lt from
        (past start (part_window (part_at (parts_of t) i)).len placed.some))
        stands.left;
  }
    where
      placed : IsPlacedWindow (part_window (part_at (parts_of t) i)) (n / 4096) 0
      placed = lay.placed i lt

      start : ℕ
      start = start_of (parts_of t) i

      low : (x y : ℕ) → 2 * z ≤ x → 2 * z ≤ x + y
      low x y le = omega arith

      later : (x y : ℕ) → at ≤ x → at ≤ x + y
      later x y le = omega arith

      past : (x y : ℕ) → 4096 ≤ y → x < x + y
      past x y le = omega arith

      less : (a b k : ℕ) → a < b → b ≤ suc k → a ≤ k
      less a b k one two = omega arith

      ends : (a b x y : ℕ) → a + b ≤ x → a + b ≤ x + y
      ends a b x y le = omega arith

      same : (a : ℕ) → a ≤ a
      same a = omega arith

      split : (j : ℕ) → j < length (parts_of t)
          → (window_end (part_window (part_at (parts_of t) j)) ≤ window_end (part_window (part_at (parts_of t) i)))
          ⊎ (window_end (part_window (part_at (parts_of t) i)) ≤ start_of (parts_of t) j)
      split j j_lt = by (cases_eq i j)
        where
          apart : AreApart (part_window (part_at (parts_of t) i)) (part_window (part_at (parts_of t) j))
              → (window_end (part_window (part_at (parts_of t) j)) ≤ window_end (part_window (part_at (parts_of t) i)))
              ⊎ (window_end (part_window (part_at (parts_of t) i)) ≤ start_of (parts_of t) j)
          apart (inl before) = inr before
          apart (inr behind) =
              inl (ends (start_of (parts_of t) j) (part_window (part_at (parts_of t) j)).len
              (start_of (parts_of t) i) (part_window (part_at (parts_of t) i)).len behind)

          by : (i ≡ j) ⊎ (i ≢ j)
              → (window_end (part_window (part_at (parts_of t) j)) ≤ window_end (part_window (part_at (parts_of t) i)))
              ⊎ (window_end (part_window (part_at (parts_of t) i)) ≤ start_of (parts_of t) j)
          by (inl e) =
              inl (subst (λ k. window_end (part_window (part_at (parts_of t) k))
              ≤ window_end (part_window (part_at (parts_of t) i))) e
              (same (window_end (part_window (part_at (parts_of t) i)))))
          by (inr differ) = apart (lay.apart i j lt j_lt differ)

  next-is : (at count : ℕ) → Stands at count → IsNext at (next_start at (parts_of t) n)
  next-is at count stands = record {
    from = next-from at (parts_of t) n stands.high;
    most = next-most at (parts_of t) n;
    source = next-source at (parts_of t) n;
    least = next-least at (parts_of t) n;
  }

  -- where no partition is ahead, the next offset is the flash's end
  end-is : (at : ℕ) → Stands at 0 → IsNext at n
  end-is at stands = record {
    from = stands.high;
    most = same n;
    source = inl refl;
    least = λ j lt le. let before = ahead-none at (parts_of t) stands.left j lt in absurd (omega (arith, before, le));
  }
    where
      same : (a : ℕ) → a ≤ a
      same a = omega arith

  -- the windows from an offset on
  parts-from : (count at : ℕ) → Stands at count → AreFrom at (part_windows (parts_of t) n count at)
  parts-from zero at stands = free-last at stands.high (free-right at 0 n stands (end-is at stands))
  parts-from (suc count) at stands = go (parts-from count) (next_part at (parts_of t) n) refl
    where
      is : IsNext at (next_start at (parts_of t) n)
      is = next-is at (suc count) stands

      go : ((past : ℕ) → Stands past count → AreFrom past (part_windows (parts_of t) n count past))
          → (o : Option ℕ) → next_part at (parts_of t) n ≡ o
          → AreFrom at (free_between at (next_start at (parts_of t) n)
          ++ option_map_or
          (λ i. part_place (parts_of t) i
          ∷ part_windows (parts_of t) n count (window_end (part_window (part_at (parts_of t) i)))) o [])
      go further None e =
          free-then at (next_start at (parts_of t) n) [] is.from
          (free-right at (suc count) (next_start at (parts_of t) n) stands is) (end is.source, tt)
        where
          end : (next_start at (parts_of t) n ≡ n)
              ⊎ ((i : ℕ) × (i < length (parts_of t)) × (start_of (parts_of t) i ≡ next_start at (parts_of t) n))
              → next_start at (parts_of t) n ≡ n
          end (inl same) = same
          end (inr found) = absurd (none-found (parts_of t) at n e found.0 found.1 found.2)
      go further (Some i) e =
          let found = part-found (parts_of t) at n i e in
          free-then at (next_start at (parts_of t) n) _ is.from
          (free-right at (suc count) (next_start at (parts_of t) n) stands is)
          (let rest = further (window_end (part_window (part_at (parts_of t) i)))
          (part-stands at count i stands found.0 (subst (λ x. at ≤ x) (sym found.1) is.from)) in (
            (found.1, rest.0),
            ((found.0, refl), rest.1),
          ))

  -- behind both slots
  slots-stand : Stands (2 * z) (length (parts_of t))
  slots-stand = record {
    whole = whole z able.slots;
    low = same (2 * z);
    high = able.fits;
    split = λ j lt. inr (lay.behind j lt);
    taken = inr (inl (last z able.slots able.least));
    left = ahead-most (2 * z) (parts_of t);
  }
    where
      whole : (x : ℕ) → x % 4096 ≡ 0 → 2 * x % 4096 ≡ 0
      whole x e = omega arith

      same : (a : ℕ) → a ≤ a
      same a = omega arith

      last : (x : ℕ) → x % 4096 ≡ 0 → 4096 ≤ x
          → (1 * x ≤ 4096 * (2 * x / 4096 - 1)) × (4096 * (2 * x / 4096 - 1) < 1 * x + x)
      last x e some = (omega arith, omega arith)

  pub slots-right : AreMapWindows t n z
      (slot_place z 0 ∷ slot_place z 1 ∷ part_windows (parts_of t) n (length (parts_of t)) (2 * z))
  slots-right =
      let rest = parts-from (length (parts_of t)) (2 * z) slots-stand in
      record {
        side_by_side = (
          omega arith,
          (
            omega arith,
            subst (λ x. AreSideBySide x n
                (map (λ m. m.window) (part_windows (parts_of t) n (length (parts_of t)) (2 * z))))
                (both z) rest.0,
          ),
        );
        right = ((slots, omega arith, refl), ((slots, omega arith, refl), rest.1));
      }
    where
      both : (x : ℕ) → 2 * x ≡ 1 * x + x
      both x = omega arith

-- all windows are right
pub windows-right : (t : Option Table) (n z : ℕ) → IsMappable t n z → AreMapWindows t n z (map_windows t n z)
windows-right t n z able = go (has_slots t z) refl
  where
    go : (yes : Bool) → has_slots t z ≡ yes
        → AreMapWindows t n z
        (if yes
        then
        slot_place z 0
        ∷ slot_place z 1
        ∷ part_windows (parts_of t) n (length (parts_of t)) (2 * z)
        else (whole_place n ∷ []))
    go true e = slots-right t n z able e
    go false e = record { side_by_side = (refl, omega arith); right = ((e, refl), tt) }
