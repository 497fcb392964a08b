-- The units of a flash, by their places in the list, and the unit of a download.
use Rattle.std.proofs.Common.{◌/◌, ◌≡◌, ◌≢◌, ℕ, ◌*◌, ◌%◌, ◌<◌, ◌≤◌, ◌⊎◌, inl, inr, Bool, true, false, ◌==◌, nat_lt, if◌then◌else◌, List, length, refl, sym, ◌∙◌, ap, subst, arith, Option, None, Some, slice_get, find, not, ◌&&◌, option_map, zero, suc, [], ◌∷◌}
use borrow.Author.Tests.{ltb-true}
use Rattle.std.proofs.lemmas.Option.{slice_get-map, same_Some}
use Rattle.pico_board.specs.declared.boot.Cpu.{Cpu}
use Rattle.pico_board.specs.declared.window.Window.{Window}
use Rattle.pico_board.specs.Content.{AreApart}
use Rattle.part_table.specs.declared.partition.Partition.{Partition}
use Rattle.part_table.specs.declared.table.Table.{Table}
use Rattle.part_table.specs.Faults.{table_fault}
use Rattle.part_table.specs.Families.{absolute_family, accepts, accepts_absolute}
use Rattle.part_table.specs.Fields.{is_ignored}
use Rattle.part_table.specs.Links.{is_second, is_owned}
use Rattle.part_table.specs.Partitions.{part_at}
use Rattle.part_table.specs.Sound.{IsSoundTable}
use Rattle.part_table.specs.Windows.{IsPlacedWindow}
use Rattle.part_table.proofs.TableLemmas.{partition_placed, sound_placed}
use Rattle.part_table.proofs.TestLemmas.{mapped_some, all_of_three, not_true, found_place}
use Rattle.slot_choice.specs.declared.unit.SlotUnit.{SlotUnit}
use Rattle.slot_choice.specs.Units.{parts_where, begins_boot_unit, unit_of, whole_flash, slot_pair, tableless_unit, units, IsMember, IsSoundFor}
use Rattle.slot_choice.specs.LoadUnits.{begins_load_unit, accepting_unit, absolute_unit, load_unit}
use Rattle.slot_choice.proofs.PartListLemmas.{passing, different, listed, rising}
use Rattle.slot_choice.proofs.UnitLemmas.{units_apart, pair_apart, member_placed}

-- the unit at a place of the boot units of a table is that of a partition, by its number
pub record IsBootUnit (parts : List Partition) (cpu : Cpu) (k : ℕ) (u : SlotUnit) (i : ℕ) : Type 0 where
  pub listed : slice_get (parts_where (begins_boot_unit cpu) parts) k ≡ Some i
  pub within : i < length parts
  pub first : is_second (part_at parts i) ≡ false
  pub free : is_owned (part_at parts i) ≡ false
  pub kept : is_ignored cpu (part_at parts i) ≡ false
  pub unit : u ≡ unit_of parts i

pub boot_unit : (t : Table) (n z : ℕ) (cpu : Cpu) (k : ℕ) (u : SlotUnit) → slice_get (units (Some t) n z cpu) k ≡ Some u
    → (i : ℕ) × IsBootUnit t.parts.items cpu k u i
boot_unit t n z cpu k u at =
    let parts : List Partition = t.parts.items in
    let found : (i : ℕ) × (slice_get (parts_where (begins_boot_unit cpu) parts) k ≡ Some i) × (u ≡ unit_of parts i) =
    mapped_some (unit_of parts) (slice_get (parts_where (begins_boot_unit cpu) parts) k) u
    (sym (slice_get-map (unit_of parts) (parts_where (begins_boot_unit cpu) parts) k) ∙ at) in
    let passes : _ = passing (λ i. begins_boot_unit cpu (part_at parts i)) 0 (length parts) k found.0 found.1 in
    let tests : _ = all_of_three _ _ _ passes.2 in (
      found.0,
      record {
        listed = found.1;
        within = omega (arith, passes.1);
        first = not_true _ tests.0;
        free = not_true _ tests.1;
        kept = not_true _ tests.2;
        unit = found.2;
      },
    )

all_not : (a b c : Bool) → a ≡ false → b ≡ false → c ≡ false → (not a && not b && not c) ≡ true
all_not false false false one two three = refl
all_not true b c one two three = cc
all_not false true c one two three = cc
all_not false false true one two three = cc

-- each partition that begins a boot unit has its unit
pub unit_at : (t : Table) (n z : ℕ) (cpu : Cpu) (i : ℕ) → i < length t.parts.items
    → is_second (part_at t.parts.items i) ≡ false → is_owned (part_at t.parts.items i) ≡ false
    → is_ignored cpu (part_at t.parts.items i) ≡ false
    → (k : ℕ) × (slice_get (units (Some t) n z cpu) k ≡ Some (unit_of t.parts.items i))
unit_at t n z cpu i lt first free kept =
    let parts : List Partition = t.parts.items in
    let at : (k : ℕ) × (slice_get (parts_where (begins_boot_unit cpu) parts) k ≡ Some i) =
    listed (λ l. begins_boot_unit cpu (part_at parts l)) 0 (length parts) i (omega arith) (omega arith)
    (all_not _ _ _ first free kept) in (
      at.0,
      slice_get-map (unit_of parts) (parts_where (begins_boot_unit cpu) parts) at.0
          ∙ ap (option_map (unit_of parts)) at.1,
    )

-- the partition of a boot unit, and what it is
pub unit_listed : (t : Table) (n z : ℕ) (cpu : Cpu) (k : ℕ) (u : SlotUnit)
    → slice_get (units (Some t) n z cpu) k ≡ Some u
    → (i : ℕ) × (i < length t.parts.items) × (is_second (part_at t.parts.items i) ≡ false)
    × (is_owned (part_at t.parts.items i) ≡ false)
    × (is_ignored cpu (part_at t.parts.items i) ≡ false)
    × (u ≡ unit_of t.parts.items i)
unit_listed t n z cpu k u at =
    let a : (i : ℕ) × IsBootUnit t.parts.items cpu k u i = boot_unit t n z cpu k u at in
    (a.0, a.1.within, a.1.first, a.1.free, a.1.kept, a.1.unit)

-- boot units stand in table order
pub units_ordered : (t : Table) (n z : ℕ) (cpu : Cpu) (j k : ℕ) (u v : SlotUnit) (a b : ℕ) → j < k
    → slice_get (units (Some t) n z cpu) j ≡ Some u → slice_get (units (Some t) n z cpu) k ≡ Some v
    → u.a_part ≡ Some a → v.a_part ≡ Some b → a < b
units_ordered t n z cpu j k u v a b lt one two is_a is_b =
    let p : (i : ℕ) × IsBootUnit t.parts.items cpu j u i = boot_unit t n z cpu j u one in
    let q : (i : ℕ) × IsBootUnit t.parts.items cpu k v i = boot_unit t n z cpu k v two in
    let up : p.0 < q.0 =
    rising (λ l. begins_boot_unit cpu (part_at t.parts.items l)) 0
    (length t.parts.items) j k p.0 q.0 lt p.1.listed q.1.listed in
    let of_a : p.0 ≡ a = same_Some p.0 a (ap (λ (w : SlotUnit). w.a_part) (sym p.1.unit) ∙ is_a) in
    let of_b : q.0 ≡ b = same_Some q.0 b (ap (λ (w : SlotUnit). w.a_part) (sym q.1.unit) ∙ is_b) in
    omega (arith, up, of_a, of_b)

-- the members of two boot units of a table stand apart
pub boot_units_apart : (t : Table) (s n z : ℕ) (cpu : Cpu) → IsSoundTable t s → (j k : ℕ) (u v : SlotUnit) → j ≢ k
    → slice_get (units (Some t) n z cpu) j ≡ Some u → slice_get (units (Some t) n z cpu) k ≡ Some v
    → (w x : Window) → IsMember u w → IsMember v x → AreApart w x
boot_units_apart t s n z cpu sound j k u v differ one two w x in_u in_v =
    let a : (i : ℕ) × IsBootUnit t.parts.items cpu j u i = boot_unit t n z cpu j u one in
    let b : (i : ℕ) × IsBootUnit t.parts.items cpu k v i = boot_unit t n z cpu k v two in
    units_apart t s sound a.0 b.0 a.1.within b.1.within a.1.first b.1.first
    (different (λ i. begins_boot_unit cpu (part_at t.parts.items i)) 0
    (length t.parts.items) j k a.0 b.0 differ a.1.listed b.1.listed)
    w x (subst (λ y. IsMember y w) a.1.unit in_u) (subst (λ y. IsMember y x) b.1.unit in_v)

-- the two members of a boot unit of a table stand apart
pub boot_pair_apart : (t : Table) (s n z : ℕ) (cpu : Cpu) → IsSoundTable t s → (k : ℕ) (u : SlotUnit)
    → slice_get (units (Some t) n z cpu) k ≡ Some u → (w : Window) → u.b ≡ Some w → AreApart u.a w
boot_pair_apart t s n z cpu sound k u at w pair =
    let a : (i : ℕ) × IsBootUnit t.parts.items cpu k u i = boot_unit t n z cpu k u at in
    subst (λ y. AreApart y.a w) (sym a.1.unit)
    (pair_apart t s sound a.0 a.1.within w (subst (λ y. y.b ≡ Some w) a.1.unit pair))

-- the members of the boot units of a table stand where its partitions stand
pub boot_members_placed : (t : Table) (s m n z : ℕ) (cpu : Cpu) → table_fault t s m ≡ None → (k : ℕ) (u : SlotUnit)
    → slice_get (units (Some t) n z cpu) k ≡ Some u → (w : Window) → IsMember u w → IsPlacedWindow w s m
boot_members_placed t s m n z cpu none k u at w member =
    let a : (i : ℕ) × IsBootUnit t.parts.items cpu k u i = boot_unit t n z cpu k u at in
    member_placed t s m (partition_placed t s m none) a.0 a.1.within w (subst (λ y. IsMember y w) a.1.unit member)

pub sound_members_placed : (t : Table) (s n z : ℕ) (cpu : Cpu) → IsSoundTable t s → (k : ℕ) (u : SlotUnit)
    → slice_get (units (Some t) n z cpu) k ≡ Some u → (w : Window) → IsMember u w → IsPlacedWindow w s 0
sound_members_placed t s n z cpu sound k u at w member =
    let a : (i : ℕ) × IsBootUnit t.parts.items cpu k u i = boot_unit t n z cpu k u at in
    member_placed t s 0 (sound_placed t s sound) a.0 a.1.within w (subst (λ y. IsMember y w) a.1.unit member)

-- the unit of a download for a table, of a family that is not the absolute one, is that of a partition, by its number
pub record IsLoadUnit (parts : List Partition) (family : ℕ) (u : SlotUnit) (i : ℕ) : Type 0 where
  pub within : i < length parts
  pub first : is_second (part_at parts i) ≡ false
  pub accepting : accepts (part_at parts i) family ≡ true
  pub unit : u ≡ unit_of parts i

-- the unit that accepts a family is that of a partition
pub accepting : (parts : List Partition) (family : ℕ) (u : SlotUnit) → accepting_unit parts family ≡ Some u
    → (i : ℕ) × IsLoadUnit parts family u i
accepting parts family u at =
    let found : (i : ℕ) × (find (λ i. accepts (part_at parts i) family) (parts_where begins_load_unit parts) ≡ Some i)
    × (u ≡ unit_of parts i) =
    mapped_some (unit_of parts) (find (λ i. accepts (part_at parts i) family) (parts_where begins_load_unit parts)) u
    at in
    let there : (k : ℕ) × (slice_get (parts_where begins_load_unit parts) k ≡ Some found.0)
    × (accepts (part_at parts found.0) family ≡ true) =
    found_place (λ i. accepts (part_at parts i) family) (parts_where begins_load_unit parts) found.0 found.1 in
    let passes : _ = passing (λ i. begins_load_unit (part_at parts i)) 0 (length parts) there.0 found.0 there.1 in (
      found.0,
      record {
        within = omega (arith, passes.1);
        first = not_true _ passes.2;
        accepting = there.2;
        unit = found.2;
      },
    )

either : (yes : Bool) (one two : Option SlotUnit) (u : SlotUnit) → (if yes then one else two) ≡ Some u
    → (one ≡ Some u) ⊎ (two ≡ Some u)
either true one two u e = inl e
either false one two u e = inr e

-- a unit of a download that names a partition is that partition's unit
pub load_unit_part : (t : Table) (n z family : ℕ) (u : SlotUnit) (i : ℕ) → load_unit (Some t) n z family ≡ Some u
    → u.a_part ≡ Some i
    → IsLoadUnit t.parts.items family u i
load_unit_part t n z family u i at part =
    elim (either (family == absolute_family) (absolute_unit (Some t) n) (accepting_unit t.parts.items family) u at) [
      | inl whole ↦ absurd (no_part (accepts_absolute t) u i whole part)
      | inr accepted ↦
          let found : (k : ℕ) × IsLoadUnit t.parts.items family u k = accepting t.parts.items family u accepted in
          subst (λ k. IsLoadUnit t.parts.items family u k)
          (same_part t.parts.items found.0 u i found.1.unit part) found.1
    ]
  where
    no_part : (yes : Bool) (v : SlotUnit) (k : ℕ) → (if yes then Some (whole_flash n) else None) ≡ Some v
        → v.a_part ≡ Some k → ⊥
    no_part true v k e part_is = let same : whole_flash n ≡ v = cc in
        let none : None ≡ Some k = ap (λ (y : SlotUnit). y.a_part) same ∙ part_is in cc
    no_part false v k e part_is = cc

    same_part : (parts : List Partition) (k : ℕ) (v : SlotUnit) (l : ℕ) → v ≡ unit_of parts k → v.a_part ≡ Some l
        → k ≡ l
    same_part parts k v l is part_is = let numbers : Some k ≡ Some l = ap (λ (y : SlotUnit). y.a_part) (sym is)
        ∙ part_is in cc

-- the members of an owned load unit stand apart from those of every boot unit
pub owned_unit_apart : (t : Table) (s n z family : ℕ) (cpu : Cpu) → IsSoundTable t s → (k : ℕ) (u v : SlotUnit) (i : ℕ)
    → load_unit (Some t) n z family ≡ Some u → u.a_part ≡ Some i → is_owned (part_at t.parts.items i) ≡ true
    → slice_get (units (Some t) n z cpu) k ≡ Some v → (w x : Window) → IsMember u w → IsMember v x → AreApart w x
owned_unit_apart t s n z family cpu sound k u v i loaded part owned at w x in_u in_v =
    let a : IsLoadUnit t.parts.items family u i = load_unit_part t n z family u i loaded part in
    let b : (j : ℕ) × IsBootUnit t.parts.items cpu k v j = boot_unit t n z cpu k v at in
    units_apart t s sound i b.0 a.within b.1.within a.first b.1.first
    (λ same. let free : is_owned (part_at t.parts.items i) ≡ false =
    subst (λ l. is_owned (part_at t.parts.items l) ≡ false) (sym same) b.1.free in cc)
    w x (subst (λ y. IsMember y w) a.unit in_u) (subst (λ y. IsMember y x) b.1.unit in_v)

-- the members of a load unit that names a partition stand where partitions stand
pub load_members_placed : (t : Table) (s n z family : ℕ) → IsSoundTable t s → (u : SlotUnit) (i : ℕ)
    → load_unit (Some t) n z family ≡ Some u → u.a_part ≡ Some i → (w : Window) → IsMember u w → IsPlacedWindow w s 0
load_members_placed t s n z family sound u i loaded part w member =
    let a : IsLoadUnit t.parts.items family u i = load_unit_part t n z family u i loaded part in
    member_placed t s 0 (sound_placed t s sound) i a.within w (subst (λ y. IsMember y w) a.unit member)

-- the windows of a flash without a table
whole_placed : (s : ℕ) → 1 ≤ s → (w : Window) → IsMember (whole_flash (4096 * s)) w → IsPlacedWindow w s 0
whole_placed s some w (inl a) = subst (λ x. IsPlacedWindow x s 0) (sym a)
    (record { starts = refl; whole = omega arith; some = omega arith; inside = omega arith; free = omega arith })
whole_placed s some w (inr b) = cc

slots_placed : (s z : ℕ) → z % 4096 ≡ 0 → 4096 ≤ z → 2 * z ≤ 4096 * s → (w : Window) → IsMember (slot_pair z) w
    → IsPlacedWindow w s 0
slots_placed s z whole some fits w (inl a) = subst (λ x. IsPlacedWindow x s 0) (sym a)
    (record { starts = refl; whole = whole; some = some; inside = omega arith; free = omega arith })
slots_placed s z whole some fits w (inr b) =
    let same : record { start = z; len = z } ≡ w = cc in
    subst (λ x. IsPlacedWindow x s 0) same
    (record { starts = whole; whole = whole; some = some; inside = omega arith; free = omega arith })

tableless_by : (large : Bool) (s z : ℕ) → nat_lt 4096 z ≡ large → 1 ≤ s → z % 4096 ≡ 0 → (4096 < z → 2 * z ≤ 4096 * s)
    → (w : Window) → IsMember (if large then slot_pair z else whole_flash (4096 * s)) w → IsPlacedWindow w s 0
tableless_by true s z is some whole fits w member =
    let large : 4096 < z = ltb-true 4096 z is in
    slots_placed s z whole (omega arith) (fits large) w member
tableless_by false s z is some whole fits w member = whole_placed s some w member

pub tableless_placed : (s z : ℕ) → 1 ≤ s → z % 4096 ≡ 0 → (4096 < z → 2 * z ≤ 4096 * s)
    → (w : Window) → IsMember (tableless_unit (4096 * s) z) w → IsPlacedWindow w s 0
tableless_placed s z some whole fits w member = tableless_by (nat_lt 4096 z) s z refl some whole fits w member

tableless_apart_by : (large : Bool) (n z : ℕ) (w : Window) → (if large then slot_pair z else whole_flash n).b ≡ Some w
    → AreApart (if large then slot_pair z else whole_flash n).a w
tableless_apart_by true n z w at = let same : record { start = z; len = z } ≡ w = cc in
    subst (λ x. AreApart (slot_pair z).a x) same (inl (omega arith))
tableless_apart_by false n z w at = cc

pub tableless_apart : (n z : ℕ) (w : Window) → (tableless_unit n z).b ≡ Some w → AreApart (tableless_unit n z).a w
tableless_apart n z w at = tableless_apart_by (nat_lt 4096 z) n z w at

-- a window behind both table slots stands apart from each
pub apart_from_slots : (z m s : ℕ) (w : Window) → 4096 * m ≡ 2 * z → IsPlacedWindow w s m
    → AreApart (record { start = 0; len = z }) w × AreApart (record { start = z; len = z }) w
apart_from_slots z m s w both placed =
    let free : 4096 * m ≤ w.start = placed.free in
    (inl (omega arith), inl (omega arith))

first-place : (v : SlotUnit) (k : ℕ) (u : SlotUnit) → slice_get (v ∷ []) k ≡ Some u → k ≡ 0
first-place v zero u e = refl
first-place v (suc k) u e = cc

-- the members of two boot units lie apart, with a table or without one
pub units-apart : (t : Option Table) (n y : ℕ) (cpu : Cpu) → IsSoundFor t n → (j k : ℕ) (u v : SlotUnit) → j ≢ k
    → slice_get (units t n y cpu) j ≡ Some u → slice_get (units t n y cpu) k ≡ Some v → (w x : Window) → IsMember u w
    → IsMember v x → AreApart w x
units-apart None n y cpu sound j k u v differ one two w x in_u in_v =
    absurd (differ (first-place (tableless_unit n y) j u one ∙ sym (first-place (tableless_unit n y) k v two)))
units-apart (Some t) n y cpu sound j k u v differ one two w x in_u in_v =
    boot_units_apart t (n / 4096) n y cpu sound j k u v differ one two w x in_u in_v
