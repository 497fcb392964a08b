-- The window that a normal boot starts, and the rows of slots and partitions.
use Rattle.std.proofs.Common.{◌≡◌, ◌⊎◌, inl, inr, ℕ, zero, suc, ◌+◌, ◌*◌, ◌/◌, ◌<◌, ◌≤◌, Bool, true, false, List, [], ◌∷◌, length, slice_get, Option, Some, None, refl, sym, ◌∙◌, ap, subst, arith}
use Rattle.std.specs.Prelude.{nat_lt, if◌then◌else◌}
use Rattle.std.specs.List.{AllByRecursion}
use Rattle.std.proofs.lemmas.Option.{same_Some}
use Rattle.pico_board.specs.declared.boot.Cpu.{Cpu}
use Rattle.pico_board.specs.declared.boot.BootKind.TheVariants.{Normal}
use Rattle.pico_board.specs.declared.window.Window.{Window}
use Rattle.pico_board.specs.Content.{Content, IsContent}
use Rattle.otp_roll.specs.Flags.{slot_size}
use Rattle.part_table.specs.declared.table.Table.{Table}
use Rattle.part_table.specs.Windows.{IsPlacedWindow}
use Rattle.slot_choice.specs.declared.choice.Choice.{Choice}
use Rattle.slot_choice.specs.declared.unit.Member.{Member}
use Rattle.slot_choice.specs.declared.unit.Member.TheVariants.{A, B}
use Rattle.slot_choice.specs.declared.unit.SlotUnit.{SlotUnit}
use Rattle.slot_choice.specs.Units.{IsMember, member_window, slot_pair, tableless_unit, units, whole_flash}
use Rattle.slot_choice.proofs.PlaceLemmas.{IsBootUnit, boot_unit}
use Rattle.slot_choice.proofs.UnitLemmas.{belongs_within, member_part}
use Rattle.boot_rules.specs.declared.decision.Decision.{Decision}
use Rattle.boot_rules.specs.declared.decision.Decision.TheVariants.{Start, Bootsel}
use Rattle.boot_rules.specs.declared.decision.Fall.{Fall}
use Rattle.boot_rules.specs.Chosen.{Chosen}
use Rattle.boot_rules.specs.Tables.{table_of_content}
use Rattle.boot_rules.specs.Tables.{slot_window}
use Rattle.boot_rules.proofs.StartLemmas.{is-member, of-unit, start}
use Rattle.boot_map.specs.declared.maps.FlashMap.{FlashMap}
use Rattle.boot_map.specs.declared.maps.MapRow.{MapRow}
use Rattle.boot_map.specs.declared.places.MapPlace.{MapPlace}
use Rattle.boot_map.specs.declared.places.MapPlace.TheVariants.{Slot, Partition as Part, Whole, Free}
use Rattle.boot_map.specs.Windows.{parts_of, window_end}
use Rattle.boot_map.specs.WindowRules.{WindowHasSector, IsFreeStretch, IsTakenSector, IsWindowOf}
use Rattle.boot_map.specs.Maps.{paired}
use Rattle.boot_map.specs.MapRules.{DoesStart, IsMap, IsMemberWith, IsNumbered, IsRow}
use Rattle.boot_map.proofs.LaidLemmas.{first-in}
use Rattle.boot_map.proofs.MapLemmas.{linked, mappable}
use Rattle.boot_map.proofs.PairLemmas.{pairing-once}
use Rattle.boot_map.proofs.SharedLemmas.{right-placed, shared, taken-free}
use Rattle.boot_map.proofs.SideLemmas.{Holds, find-sector, next-begins, one-place}

-- a window of the map is this one
pub record IsOneOf (t : Option Table) (n z : ℕ) (w : Window) : Type 0 where
  pub place : MapPlace
  pub right : IsWindowOf t n z place w

slot-record : (z x : ℕ) → x ≡ 0 * z → (let w : Window = record { start = x; len = z } in w ≡ slot_window z 0)
slot-record z x e = ap (λ s. let w : Window = record { start = s; len = z } in w) e

slot-record-1 : (z x : ℕ) → x ≡ 1 * z → (let w : Window = record { start = x; len = z } in w ≡ slot_window z 1)
slot-record-1 z x e = ap (λ s. let w : Window = record { start = s; len = z } in w) e

only : (v : SlotUnit) (k : ℕ) (u : SlotUnit) → slice_get (v ∷ []) k ≡ Some u → v ≡ u
only v zero u e = same_Some v u e
only v (suc k) u e = cc

tableless : (n z : ℕ) (large : Bool) → nat_lt 4096 z ≡ large → (m : Member) (w : Window)
    → member_window m (if large then slot_pair z else whole_flash n) ≡ Some w → IsOneOf None n z w
tableless n z true e A w at = record {
  place = Slot 0;
  right = (e, omega arith, sym (same_Some _ w at) ∙ slot-record z 0 (omega arith));
}
tableless n z true e B w at = record {
  place = Slot 1;
  right = (e, omega arith, sym (same_Some _ w at) ∙ slot-record-1 z z (omega arith));
}
tableless n z false e A w at = record { place = Whole; right = (e, sym (same_Some _ w at)) }
tableless n z false e B w at = cc

-- each member of a boot unit is a window of the map
member-right : (t : Option Table) (n z : ℕ) (cpu : Cpu) (k : ℕ) (u : SlotUnit) → slice_get (units t n z cpu) k ≡ Some u
    → (m : Member) (w : Window) → member_window m u ≡ Some w → IsOneOf t n z w
member-right None n z cpu k u at m w stands =
    tableless n z (nat_lt 4096 z) refl m w
    (subst (λ v. member_window m v ≡ Some w) (sym (only (tableless_unit n z) k u at)) stands)
member-right (Some t) n z cpu k u at m w stands =
    let unit : (i : ℕ) × IsBootUnit t.parts.items cpu k u i = boot_unit t n z cpu k u at in
    let part = member_part t.parts.items unit.0 w
    (subst (λ v. IsMember v w) unit.1.unit (is-member m u w stands)) in
    record {
      place = Part part.0;
      right = (belongs_within t.parts.items unit.0 part.0 unit.1.within part.1, part.2);
    }

-- the window that is started is one of the map
pub started : (c : Content) (cpu : Cpu) (choice : Choice) → Chosen c cpu Normal (Start choice)
    → IsOneOf (table_of_content c) (length c.flash) (slot_size c.otp (length c.flash)) choice.image.window
started c cpu choice h =
    let unit = of-unit c cpu Normal choice h in
    member-right (table_of_content c) (length c.flash) (slot_size c.otp (length c.flash)) cpu unit.place
    (start c cpu Normal choice h).unit unit.tried choice.member choice.image.window unit.stands

all-row : (P : MapRow → Type 0) (rs : List MapRow) (k : ℕ) (r : MapRow) → AllByRecursion P rs
    → slice_get rs k ≡ Some r → P r
all-row P [] k r all e = cc
all-row P (x ∷ rs) zero r all e = subst P (same_Some x r e) all.0
all-row P (x ∷ rs) (suc k) r all e = all-row P rs k r all.1 e

-- the row of a window
pub record HasRow (m : FlashMap) (p : MapPlace) (w : Window) : Type 0 where
  pub at : ℕ
  pub row : MapRow
  pub listed : slice_get m.rows.items at ≡ Some row
  pub place : row.place ≡ p
  pub window : row.window ≡ w

module _ (c : Content) (cpu : Cpu) (m : FlashMap) (right : IsContent c) (is : IsMap c cpu m) where
  abbrev IsRight : MapPlace → Window → Type 0
  IsRight p w = IsWindowOf (table_of_content c) (length c.flash) (slot_size c.otp (length c.flash)) p w

  pub row-at : (k : ℕ) (r : MapRow) → slice_get m.rows.items k ≡ Some r
      → IsRow c cpu (table_of_content c) m.decision r
  row-at k r e = all-row (IsRow c cpu (table_of_content c) m.decision) m.rows.items k r is.rows e

  pub placed : (p : MapPlace) (w : Window) → IsRight p w → IsPlacedWindow w (length c.flash / 4096) 0
  placed p w one =
      right-placed (table_of_content c) (length c.flash) (slot_size c.otp (length c.flash)) (mappable c right) p w one

  -- the first sector of a right window
  has-first : (p : MapPlace) (w : Window) → IsRight p w → WindowHasSector w (w.start / 4096)
  has-first p w one =
      let at = placed p w one in
      first-in w.start w.len at.starts at.some

  -- each sector lies in one row
  pub sector-row : (s : ℕ) → s < length c.flash / 4096 → Holds (λ (r : MapRow). r.window) m.rows.items s
  sector-row s lt =
      find-sector (λ (r : MapRow). r.window) (length c.flash) m.rows.items 0 s is.side_by_side (omega arith)
      (below (length c.flash) s lt)
    where
      below : (n k : ℕ) → k < n / 4096 → 4096 * k < n
      below n k less = omega arith

  pub sector-once : (j k s : ℕ) (x y : MapRow) → slice_get m.rows.items j ≡ Some x → slice_get m.rows.items k ≡ Some y
      → WindowHasSector x.window s → WindowHasSector y.window s → j ≡ k
  sector-once j k s x y one two has also =
      one-place (λ (r : MapRow). r.window) (length c.flash) m.rows.items 0 j k x y s is.side_by_side one two has also

  -- each right window has its row, and one only
  pub window-row : (p : MapPlace) (w : Window) → IsRight p w → HasRow m p w
  window-row p w one =
      let s = w.start / 4096 in
      let at = placed p w one in
      let found = sector-row s (inside w.start w.len (length c.flash / 4096) at.some at.inside) in
      let same = shared (table_of_content c) (length c.flash) (slot_size c.otp (length c.flash)) (mappable c right)
      found.item.place p found.item.window w s (row-at found.place found.item found.at).window one found.has
      (has-first p w one) in
      record { at = found.place; row = found.item; listed = found.at; place = same.0; window = same.1 }
    where
      inside : (a b k : ℕ) → 4096 ≤ b → a + b ≤ 4096 * k → a / 4096 < k
      inside a b k some le = omega arith

  pub window-once : (j k : ℕ) (x y : MapRow) → slice_get m.rows.items j ≡ Some x → slice_get m.rows.items k ≡ Some y
      → x.window ≡ y.window → j ≡ k
  window-once j k x y one two same =
      let has = has-first x.place x.window (row-at j x one).window in
      sector-once j k (x.window.start / 4096) x y one two has
      (subst (λ (w : Window). WindowHasSector w (x.window.start / 4096)) same has)

  -- two rows that start are one
  pub start-once : (j k : ℕ) (x y : MapRow) → slice_get m.rows.items j ≡ Some x → slice_get m.rows.items k ≡ Some y
      → x.starts ≡ true → y.starts ≡ true → j ≡ k
  start-once j k x y one two x_starts y_starts =
      window-once j k x y one two
      (by m.decision ((row-at j x one).starts.0 x_starts) ((row-at k y two).starts.0 y_starts))
    where
      by : (d : Decision) → DoesStart d x.window → DoesStart d y.window → x.window ≡ y.window
      by (Start choice) a b = sym a ∙ b
      by (Bootsel fall) a b = absurd a

  -- where an image starts, its row does
  pub start-row : (choice : Choice) → m.decision ≡ Start choice
      → (k : ℕ) × (r : MapRow) × (slice_get m.rows.items k ≡ Some r) × (r.starts ≡ true)
      × (r.window ≡ choice.image.window)
  start-row choice e =
      let window = started c cpu choice (subst (λ (d : Decision). Chosen c cpu Normal d) e is.decision) in
      let row = window-row window.place choice.image.window window.right in (
        row.at,
        row.row,
        row.listed,
        (row-at row.at row.row row.listed).starts.1
            (subst (λ (d : Decision). DoesStart d row.row.window) (sym e) (sym row.window)),
        row.window,
      )

  -- where no image starts, no row of the map does
  pub no-start : (fall : Fall) → m.decision ≡ Bootsel fall → (k : ℕ) (r : MapRow)
      → slice_get m.rows.items k ≡ Some r → r.starts ≡ false
  no-start fall e k r at = by r.starts refl
    where
      by : (b : Bool) → r.starts ≡ b → b ≡ false
      by false s = refl
      by true s =
          absurd (subst (λ (d : Decision). DoesStart d r.window) e ((row-at k r at).starts.0 s))

  pub sector-in : (s : ℕ) → s < length c.flash / 4096
      → (k : ℕ) × (r : MapRow) × (slice_get m.rows.items k ≡ Some r) × WindowHasSector r.window s
  sector-in s lt = let found = sector-row s lt in (found.place, found.item, found.at, found.has)

  pub place-row : (p : MapPlace) (w : Window) → IsRight p w
      → (k : ℕ) × (r : MapRow) × (slice_get m.rows.items k ≡ Some r) × (r.place ≡ p)
  place-row p w one = let row = window-row p w one in (row.at, row.row, row.listed, row.place)

  -- what is no free stretch has one window
  one-window : (p : MapPlace) (v w : Window) → IsRight p v → IsRight p w → (p ≡ Free → ⊥) → v ≡ w
  one-window (Slot number) v w one two other = one.2 ∙ sym two.2
  one-window (Part i) v w one two other = one.1 ∙ sym two.1
  one-window Whole v w one two other = one.1 ∙ sym two.1
  one-window Free v w one two other = absurd (other refl)

  pub place-once : (j k : ℕ) (x y : MapRow) → slice_get m.rows.items j ≡ Some x → slice_get m.rows.items k ≡ Some y
      → x.place ≡ y.place → (x.place ≡ Free → ⊥) → j ≡ k
  place-once j k x y one two same other =
      window-once j k x y one two
      (one-window x.place x.window y.window (row-at j x one).window
      (subst (λ p. IsRight p y.window) (sym same) (row-at k y two).window) other)

  -- behind a free stretch no other one begins
  free-apart : (v w : Window) → IsRight Free v → IsRight Free w → w.start ≡ window_end v → ⊥
  free-apart v w one two next = by one.1.behind
    where
      f : IsFreeStretch (parts_of (table_of_content c)) (slot_size c.otp (length c.flash)) (length c.flash / 4096) v
      f = one.1

      begins : w.start ≡ 4096 * (f.first + f.count)
      begins = next ∙ (ap (λ (x : Window). window_end x) f.window ∙ joined f.first f.count)
        where
          joined : (a b : ℕ) → 4096 * a + 4096 * b ≡ 4096 * (a + b)
          joined a b = omega arith

      by : (f.first + f.count ≡ length c.flash / 4096)
          ⊎ IsTakenSector (parts_of (table_of_content c)) (slot_size c.otp (length c.flash)) (f.first + f.count) → ⊥
      by (inl end) =
          let at = placed Free w two in
          past w.start w.len (f.first + f.count) (length c.flash / 4096) begins end at.some at.inside
        where
          past : (a b k s : ℕ) → a ≡ 4096 * k → k ≡ s → 4096 ≤ b → a + b ≤ 4096 * s → ⊥
          past a b k s e1 e2 some inside = omega arith
      by (inr taken) =
          let at = placed Free w two in
          taken-free (table_of_content c) (length c.flash) (slot_size c.otp (length c.flash)) (mappable c right) w
          (f.first + f.count) taken two.1
          (first w.start w.len (f.first + f.count) begins at.some)
        where
          first : (a b k : ℕ) → a ≡ 4096 * k → 4096 ≤ b → (a ≤ 4096 * k) × (4096 * k < a + b)
          first a b k e some = (omega arith, omega arith)

  pub no-neighbours : (k : ℕ) (x y : MapRow) → slice_get m.rows.items k ≡ Some x
      → slice_get m.rows.items (suc k) ≡ Some y → x.place ≡ Free → y.place ≡ Free → ⊥
  no-neighbours k x y one two x_free y_free =
      free-apart x.window y.window (subst (λ p. IsRight p x.window) x_free (row-at k x one).window)
      (subst (λ p. IsRight p y.window) y_free (row-at (suc k) y two).window)
      (next-begins (λ (r : MapRow). r.window) (length c.flash) m.rows.items 0 k x y is.side_by_side one two)

  -- the rows of both members of a pair
  pub member-row : (o : Member) (k i j : ℕ) (r : MapRow) → slice_get m.rows.items k ≡ Some r
      → IsMemberWith (table_of_content c) o i j → IsNumbered (table_of_content c) r.place i
      → r.pair ≡ Some (paired o j)
  member-row o k i j r at with_j numbered =
      pairing-once (table_of_content c) r.place (linked c) r.pair (Some (paired o j)) (row-at k r at).pair
      (i, numbered, with_j)
