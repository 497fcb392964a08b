-- The data of a started image, and what a session on the target of an owned pair leaves.
use Rattle.std.proofs.Common.{◌≡◌, inl, inr, ℕ, ◌*◌, ◌/◌, ◌<◌, ◌≤◌, Bool, true, false, ◌&&◌, List, length, map, slice_get, position, Option, Some, None, refl, sym, ap, ◌∙◌, subst, arith}
use Rattle.std.specs.Prelude.{if◌then◌else◌, option_and_then, option_map}
use Rattle.std.specs.Option.{option_map_or}
use Rattle.std.proofs.lemmas.Bool.{cases_eq, eq-eqb, eqb-true, ne_eqb}
use Rattle.std.specs.Result.{result_ok}
use Rattle.std.proofs.lemmas.Option.{slice_get-map}
use Rattle.pico_board.specs.declared.Step.{Step}
use Rattle.pico_board.specs.declared.boot.Cpu.{Cpu}
use Rattle.pico_board.specs.declared.boot.BootKind.{BootKind}
use Rattle.pico_board.specs.declared.boot.BootKind.TheVariants.{Normal}
use Rattle.pico_board.specs.declared.window.Window.{Window}
use Rattle.pico_board.specs.Content.{AreApart, Content, IsContent, window_bytes}
use Rattle.pico_board.specs.Sessions.{Confined, SameButWindow}
use Rattle.pico_board.specs.Steps.{MayLeave}
use Rattle.pico_board.proofs.ConfinementLemmas.{confined-MayLeave, window_bytes-apart}
use Rattle.image_check.proofs.LawLemmas.{image-local}
use Rattle.otp_roll.specs.Flags.{flash_off, slot_size}
use Rattle.part_table.specs.declared.partition.Partition.{Partition}
use Rattle.part_table.specs.declared.table.Table.{Table}
use Rattle.part_table.specs.declared.target.Target.{Target}
use Rattle.part_table.specs.Fields.{link_type, link_value}
use Rattle.part_table.specs.Links.{is_owned, is_second, owner_of, pair_of}
use Rattle.part_table.specs.Partitions.{no_partition, part_at}
use Rattle.part_table.specs.Sound.{IsSoundTable}
use Rattle.part_table.specs.Windows.{IsPlacedWindow, part_window, partition_window}
use Rattle.part_table.proofs.TableLemmas.{apart_sym, partition_placed, partitions_apart, sound_placed}
use Rattle.part_table.proofs.TestLemmas.{first_position, mapped_some}
use Rattle.slot_choice.specs.declared.unit.Member.{Member}
use Rattle.slot_choice.specs.declared.unit.Member.TheVariants.{A, B}
use Rattle.slot_choice.specs.declared.unit.SlotUnit.{SlotUnit}
use Rattle.slot_choice.specs.declared.choice.Choice.{Choice}
use Rattle.slot_choice.specs.LoadUnits.{load_unit}
use Rattle.slot_choice.specs.Units.{IsMember, member_window, unit_of, units}
use Rattle.slot_choice.proofs.PlaceLemmas.{IsBootUnit, IsLoadUnit, apart_from_slots, boot_unit, load_unit_part, owned_unit_apart}
use Rattle.slot_choice.proofs.UnitLemmas.{member_placed, pair_apart, units_apart}
use Rattle.owner_data.specs.Owners.{IsDataOf, data_parts}
use Rattle.owner_data.proofs.DataLemmas.{data_listed}
use Rattle.boot_rules.specs.declared.decision.Decision.{Decision}
use Rattle.boot_rules.specs.declared.decision.Decision.TheVariants.{Bootsel, Start}
use Rattle.boot_rules.specs.declared.decision.Fall.TheVariants.{FlashOff}
use Rattle.boot_rules.specs.declared.tables.Found.{Found}
use Rattle.boot_rules.specs.Choosing.{boot_units_in, choose, decision_in, decision_of, images_in, order_of, other_of}
use Rattle.boot_rules.specs.Chosen.{Chosen}
use Rattle.boot_rules.specs.Data.{data_of, first_window, has_window, is_second_member, owner_windows, started_part}
use Rattle.boot_rules.specs.Starts.{IsOfUnit, IsOwnedPair, load_unit_in}
use Rattle.boot_rules.specs.Changes.{HaveSameImages}
use Rattle.boot_rules.specs.Picking.{taken}
use Rattle.boot_rules.specs.Tables.{found_of, slot_window, table_in, table_of_content}
use Rattle.boot_rules.specs.Targets.{deciding_in, deciding_unit, member_for, pair_target, target_of, unit_target}
use Rattle.boot_rules.proofs.ChangeLemmas.{choose-same}
use Rattle.boot_rules.proofs.DecisionLemmas.{chosen-exactly}
use Rattle.boot_rules.proofs.TargetLemmas.{decided-window, normal-taken, pair-member, taken-stands, target-window}
use Rattle.boot_rules.proofs.UnitLemmas.{unit-some}
use Rattle.boot_rules.proofs.PlaceLemmas.{slot-size}
use Rattle.boot_rules.proofs.StartLemmas.{is-member, of-unit, start}
use Rattle.boot_rules.proofs.TableLemmas.{found-in, found-sound, slot_table}

-- a window is that of one partition alone
and-false : (a b : Bool) → a ≡ false → (a && b) ≡ false
and-false false b e = refl
and-false true b e = cc

and-true : (a b : Bool) → a ≡ true → b ≡ true → (a && b) ≡ true
and-true true true e f = refl
and-true true false e f = cc
and-true false b e f = cc

starts-differ : (v w : Window) → AreApart v w → 4096 ≤ v.len → 4096 ≤ w.len → (v.start ≡ w.start) → ⊥
starts-differ v w (inl before) some also e = omega arith
starts-differ v w (inr behind) some also e = omega arith

module _ (t : Table) (n : ℕ) (sound : IsSoundTable t n) where
  abbrev parts : List Partition
  parts = t.parts.items

  pub own-window : (j : ℕ) → j < length parts → position (has_window (part_window (part_at parts j))) parts ≡ Some j
  own-window j lt =
      (first_position (has_window (part_window (part_at parts j))) parts j no_partition lt
      (and-true _ _ (eq-eqb (part_window (part_at parts j)).start (part_window (part_at parts j)).start refl)
      (eq-eqb (part_window (part_at parts j)).len (part_window (part_at parts j)).len refl))
      (λ i before.
      let i_lt : i < length parts = omega arith in
      and-false _ _ (ne_eqb _ _ (starts-differ (part_window (part_at parts i)) (part_window (part_at parts j))
      (partitions_apart t n sound i j i_lt lt (λ e. absurd (omega arith)))
      (sound_placed t n sound i i_lt).some (sound_placed t n sound j lt).some)))).1

  module _ (c : Content) (cpu : Cpu) (choice : Choice) (z : ℕ) (k : ℕ) (v : SlotUnit) (j : ℕ)
      (boot : IsBootUnit parts cpu k v j)
      (stands : member_window choice.member v ≡ Some choice.image.window)
      (other : choice.other ≡ member_window (other_of choice.member) v) where
    -- the window of the started unit's A
    first-is : (m : Member) → member_window m v ≡ Some choice.image.window → choice.other ≡ member_window (other_of m) v
        → first_window choice m ≡ Some (part_window (part_at parts j))
    first-is A at o = sym at ∙ ap (λ (x : SlotUnit). Some x.a) boot.unit
    first-is B at o = o ∙ ap (λ (x : SlotUnit). Some x.a) boot.unit

    part-is : started_part t choice ≡ Some j
    part-is =
        ap (λ o. option_and_then (λ w. position (has_window w) parts) o) (first-is choice.member stands other)
        ∙ own-window j boot.within

    pub data-is : data_of (Some t) choice
        ≡ map (partition_window t) (data_parts parts j (is_second_member choice.member))
    data-is = ap (owner_windows t (is_second_member choice.member)) part-is

-- the data of a start
pub data-of-start : (c : Content) (cpu : Cpu) (kind : BootKind) (choice : Choice) (found : Found) → IsContent c
    → table_in c ≡ Some found
    → Chosen c cpu kind (Start choice)
    → (i : ℕ) × IsOfUnit c cpu choice (unit_of found.table.parts.items i)
    × (data_of (Some found.table) choice
    ≡ map (partition_window found.table) (data_parts found.table.parts.items i (is_second_member choice.member)))
data-of-start c cpu kind choice found right is h =
    let n = length c.flash in
    let z = slot_size c.otp n in
    let of = of-unit c cpu kind choice h in
    let v = (start c cpu kind choice h).unit in
    let at = sym (ap (λ o. slice_get (units (option_map (λ (f : Found). f.table) o) n z cpu) of.place) is) ∙ of.tried in
    let boot = boot_unit found.table n z cpu of.place v at in (
      boot.0,
      subst (λ x. IsOfUnit c cpu choice x) boot.1.unit of,
      data-is found.table (n / 4096)
          (found-sound c found is) c cpu choice z of.place v boot.0 boot.1 of.stands of.other,
    )

-- a partition with an owner is no B
owned-kind : (p : Partition) (o : Option ℕ) (x : ℕ) → owner_of p ≡ o → o ≡ Some x → is_owned p ≡ true
owned-kind p o x is some = go (is_owned p) (is ∙ some)
  where
    go : (yes : Bool) → (if yes then Some (link_value p) else None) ≡ Some x → yes ≡ true
    go true e = refl
    go false e = cc

pub owned-first : (p : Partition) → is_owned p ≡ true → is_second p ≡ false
owned-first p is = let two = eqb-true (link_type p) 2 is in ne_eqb (link_type p) 1 (λ e. absurd (omega (arith, two, e)))

-- a partition of an owner's data stands in the unit of the partition that has the owner
data-member : (parts : List Partition) (owner : ℕ) (second : Bool) (i x : ℕ) → IsDataOf parts owner second i x
    → IsMember (unit_of parts i) (part_window (part_at parts x))
data-member parts owner false i x is = inl (ap (λ l. part_window (part_at parts l)) (is.first refl))
data-member parts owner true i x is = go (pair_of parts i) refl
  where
    go : (o : Option ℕ) → pair_of parts i ≡ o → IsMember (unit_of parts i) (part_window (part_at parts x))
    go None e = inl (ap (λ l. part_window (part_at parts l)) (is.alone e))
    go (Some b) e =
        inr (ap (λ o. option_map (λ l. part_window (part_at parts l)) o) e
        ∙ ap (λ l. Some (part_window (part_at parts l))) (sym (is.other b refl e)))

-- the data that the started member leaves of a pair is the other one's target
module _ (t : Table) (family : ℕ) (parts : List Partition) (i : ℕ) (u : SlotUnit) (is : u ≡ unit_of parts i)
    (second : Window) (b : u.b ≡ Some second)
    (apart : AreApart u.a second) where
  left-over : (m : Member) (owner x : ℕ) → IsDataOf parts owner (is_second_member m) i x
      → AreApart (pair_target (Some t) family u second (member_for (Some m))).window (part_window (part_at parts x))
  left-over A owner x kept =
      let there : u.a ≡ part_window (part_at parts x) = ap (λ (v : SlotUnit). v.a) is
      ∙ ap (λ l. part_window (part_at parts l)) (sym (kept.first refl)) in
      subst (λ w. AreApart second w) there (apart_sym u.a second apart)
  left-over B owner x kept =
      let found : (e : ℕ) × (pair_of parts i ≡ Some e) × (second ≡ part_window (part_at parts e)) =
      mapped_some (λ l. part_window (part_at parts l)) (pair_of parts i) second
      (sym (ap (λ (v : SlotUnit). v.b) is) ∙ b) in
      let there : second ≡ part_window (part_at parts x) = found.2
      ∙ ap (λ l. part_window (part_at parts l)) (sym (kept.other found.0 refl found.1)) in
      subst (λ w. AreApart u.a w) there apart

-- the table of a content by what it reads
table_by : List ℕ → ℕ → List ℕ → List ℕ → Option Found
table_by otp n one two =
    found_of (slot_table (n / 4096) (2 * slot_size otp n / 4096) one)
    (slot_table (n / 4096) (2 * slot_size otp n / 4096) two)

table-by : (c : Content) → table_in c
    ≡ table_by c.otp (length c.flash) (window_bytes c (slot_window (slot_size c.otp (length c.flash)) 0))
    (window_bytes c (slot_window (slot_size c.otp (length c.flash)) 1))
unfolding table_in table_by
table-by c = refl

-- a window behind the table slots of a content stands apart from both
pub slots-apart : (c : Content) (w : Window) → IsContent c
    → IsPlacedWindow w (length c.flash / 4096) (2 * slot_size c.otp (length c.flash) / 4096)
    → AreApart (slot_window (slot_size c.otp (length c.flash)) 0) w
    × AreApart (slot_window (slot_size c.otp (length c.flash)) 1) w
slots-apart c w right behind =
    let n : ℕ = length c.flash in
    let z : ℕ = slot_size c.otp n in
    let size = slot-size c.otp n right.flash_length.least in
    let whole = size.whole in
    let both : 4096 * (2 * z / 4096) ≡ 2 * z = omega (arith, whole) in
    let apart = apart_from_slots z (2 * z / 4096) (n / 4096) w both behind in
    let never : 0 ≡ 0 * z = omega arith in
    let once : z ≡ 1 * z = omega arith in (
      subst (λ k. AreApart (record { start = k; len = z }) w) never apart.0,
      subst (λ k. AreApart (record { start = k; len = z }) w) once apart.1,
    )

module _ (c d : Content) (w : Window) (same : SameButWindow w c d) where
  pub same-length : length d.flash ≡ length c.flash
  same-length = same.outside.long

  pub same-slot : slot_size d.otp (length d.flash) ≡ slot_size c.otp (length c.flash)
  same-slot = ap (λ o. slot_size o (length d.flash)) same.rows ∙ ap (slot_size c.otp) same-length

  pub same-bytes : (v : Window) → AreApart w v → window_bytes d v ≡ window_bytes c v
  same-bytes v apart = window_bytes-apart c d w v same.outside apart

  -- the table of a content that changes apart from its slots
  pub same-table : AreApart (slot_window (slot_size c.otp (length c.flash)) 0) w
      → AreApart (slot_window (slot_size c.otp (length c.flash)) 1) w
      → table_in d ≡ table_in c
  same-table one two =
      table-by d
      ∙ ap (λ o. table_by o (length d.flash) (window_bytes d (slot_window (slot_size d.otp (length d.flash)) 0))
      (window_bytes d (slot_window (slot_size d.otp (length d.flash)) 1))) same.rows
      ∙ ap (λ k. table_by c.otp k (window_bytes d (slot_window (slot_size d.otp (length d.flash)) 0))
      (window_bytes d (slot_window (slot_size d.otp (length d.flash)) 1))) same-length
      ∙ ap (λ z. table_by c.otp (length c.flash) (window_bytes d (slot_window z 0)) (window_bytes d (slot_window z 1)))
      same-slot
      ∙ ap (λ xs. table_by c.otp (length c.flash) xs
      (window_bytes d (slot_window (slot_size c.otp (length c.flash)) 1)))
      (same-bytes (slot_window (slot_size c.otp (length c.flash)) 0)
      (apart_sym (slot_window (slot_size c.otp (length c.flash)) 0) w one))
      ∙ ap (λ xs. table_by c.otp (length c.flash)
      (window_bytes c (slot_window (slot_size c.otp (length c.flash)) 0)) xs)
      (same-bytes (slot_window (slot_size c.otp (length c.flash)) 1)
      (apart_sym (slot_window (slot_size c.otp (length c.flash)) 1) w two))
      ∙ sym (table-by c)

  -- the decision of a content that changes apart from its slots and from its units
  module _ (table : table_in d ≡ table_in c) (cpu : Cpu) where
    same-units : boot_units_in d cpu ≡ boot_units_in c cpu
    same-units =
        ap (λ o. units (option_map (λ (f : Found). f.table) o) (length d.flash) (slot_size d.otp (length d.flash)) cpu)
        table
        ∙ ap (λ z. units (table_of_content c) (length d.flash) z cpu) same-slot
        ∙ ap (λ k. units (table_of_content c) k (slot_size c.otp (length c.flash)) cpu) same-length

    same-images : ((k : ℕ) (v : SlotUnit) → slice_get (boot_units_in c cpu) k ≡ Some v → (x : Window) → IsMember v x
        → AreApart w x)
        → HaveSameImages (images_in d cpu) (images_in c cpu) (boot_units_in c cpu)
    same-images apart = record {
      same = λ k v m x trial tried stands.
          ap result_ok (image-local d c x cpu trial
          (same-bytes x (apart k v tried x (is-member m v x stands))) same.rows);
    }

    pub same-decision : ((k : ℕ) (v : SlotUnit) → slice_get (boot_units_in c cpu) k ≡ Some v → (x : Window)
        → IsMember v x → AreApart w x)
        → decision_in d cpu Normal ≡ decision_in c cpu Normal
    unfolding decision_in
    same-decision apart =
        ap (λ o. if flash_off o then Bootsel FlashOff else decision_of
        (choose (images_in d cpu) (order_of Normal (boot_units_in d cpu)))) same.rows
        ∙ ap (λ us. if flash_off c.otp then Bootsel FlashOff else decision_of
        (choose (images_in d cpu) (order_of Normal us))) same-units
        ∙ ap (λ o. if flash_off c.otp then Bootsel FlashOff else decision_of o)
        (choose-same (images_in d cpu) (images_in c cpu) (order_of Normal (boot_units_in c cpu)) (same-images apart))

-- a session on the target of an owned pair
module _ (c : Content) (cpu : Cpu) (family : ℕ) (found : Found) (u : SlotUnit) (second : Window) (target : Target)
    (right : IsContent c)
    (is : table_in c ≡ Some found) (loaded : load_unit_in c family ≡ Some u) (owned : IsOwnedPair found.table u second)
    (targeted : target_of c (Some found.table) cpu family ≡ Some target) where
  abbrev n : ℕ
  n = length c.flash

  abbrev z : ℕ
  z = slot_size c.otp n

  abbrev listed : List Partition
  listed = found.table.parts.items

  table-is : table_of_content c ≡ Some found.table
  table-is = ap (option_map (λ (f : Found). f.table)) is

  unit-is : load_unit (Some found.table) n z family ≡ Some u
  unit-is = sym (ap (λ t. load_unit t n z family) table-is) ∙ loaded

  load : IsLoadUnit listed family u owned.part
  load = load_unit_part found.table n z family u owned.part unit-is owned.first

  sound : IsSoundTable found.table (n / 4096)
  sound = found-sound c found is

  window-is : (unit_target c (Some found.table) cpu family u u.b).window ≡ target.window
  window-is = target-window c (Some found.table) cpu family u target unit-is targeted

  in-unit : IsMember u target.window
  in-unit = subst (IsMember u) window-is (pair-member c cpu family (Some found.table) u second owned.pair)

  behind-slots : IsPlacedWindow target.window (n / 4096) (2 * z / 4096)
  behind-slots =
      member_placed found.table (n / 4096) (2 * z / 4096)
      (partition_placed found.table (n / 4096) (2 * z / 4096) (found-in c found is).1) owned.part load.within
      target.window (subst (λ v. IsMember v target.window) load.unit in-unit)

  slots : AreApart (slot_window z 0) target.window × AreApart (slot_window z 1) target.window
  slots = slots-apart c target.window right behind-slots

  units-apart : (k : ℕ) (v : SlotUnit) → slice_get (boot_units_in c cpu) k ≡ Some v → (x : Window) → IsMember v x
      → AreApart target.window x
  units-apart k v at x member =
      owned_unit_apart found.table (n / 4096) n z family cpu sound k u v owned.part unit-is owned.first owned.owned
      (sym (ap (λ t. slice_get (units t n z cpu) k) table-is) ∙ at) target.window x in-unit member

  module _ (steps : List Step) (d : Content) (confined : Confined steps target.window) (left : MayLeave c steps d) where
    same : SameButWindow target.window c d
    same = confined-MayLeave c target.window steps d confined left

    pub table-stays : table_in d ≡ Some found
    table-stays = same-table c d target.window same slots.0 slots.1 ∙ is

    pub decision-stays : (e : Decision) → Chosen c cpu Normal e → Chosen d cpu Normal e
    decision-stays e h =
        (chosen-exactly d cpu Normal e).1
        ((chosen-exactly c cpu Normal e).0 h
        ∙ sym (same-decision c d target.window same (table-stays ∙ sym is) cpu units-apart))

    pub data-stays : (x : Window) → AreApart target.window x → window_bytes d x ≡ window_bytes c x
    data-stays x apart = same-bytes c d target.window same x apart

  -- the data of the started image
  module _ (choice : Choice) (h : Chosen c cpu Normal (Start choice)) where
    taken-in : (k : ℕ) × (v : SlotUnit) × (slice_get (boot_units_in c cpu) k ≡ Some v) × (taken c cpu v ≡ Some choice)
    taken-in = normal-taken c cpu choice h

    boot : (j : ℕ) × IsBootUnit listed cpu taken-in.0 taken-in.1 j
    boot = boot_unit found.table n z cpu taken-in.0 taken-in.1
        (sym (ap (λ t. slice_get (units t n z cpu) taken-in.0) table-is) ∙ taken-in.2)

    data-are : data_of (Some found.table) choice
        ≡ map (partition_window found.table) (data_parts listed boot.0 (is_second_member choice.member))
    data-are =
        data-is found.table (n / 4096) sound c cpu choice z taken-in.0 taken-in.1 boot.0 boot.1
        (taken-stands c cpu taken-in.1 choice taken-in.3)
        (unit-some (images_in c cpu) taken-in.1 None choice taken-in.3).other

    -- the target stands apart from the data of each partition with the owner, be that partition another one or the
    -- target's own
    one-apart : (i x : ℕ) → i < length listed → IsDataOf listed boot.0 (is_second_member choice.member) i x
        → AreApart target.window (part_window (part_at listed x))
    one-apart i x lt kept = elim (cases_eq owned.part i) [
      | inl e ↦
          let here : IsDataOf listed boot.0 (is_second_member choice.member) owned.part x =
          subst (λ l. IsDataOf listed boot.0 (is_second_member choice.member) l x) (sym e) kept in
          let decides : taken c cpu (deciding_unit (Some found.table) u) ≡ Some choice =
          ap (taken c cpu) (ap (deciding_in listed u) owned.first
          ∙ ap (λ o. option_map_or (unit_of listed) o u) here.owned ∙ sym boot.1.unit) ∙ taken-in.3 in
          let apart : AreApart u.a second =
          subst (λ (v : SlotUnit). AreApart v.a second) (sym load.unit)
          (pair_apart found.table (n / 4096) sound owned.part load.within second
          (sym (ap (λ (v : SlotUnit). v.b) load.unit) ∙ owned.pair)) in
          subst (λ y. AreApart y (part_window (part_at listed x)))
          (sym (decided-window c cpu family (Some found.table) u second owned.pair choice decides) ∙ window-is)
          (left-over found.table family listed owned.part u load.unit second owned.pair apart choice.member boot.0 x
          here)
      | inr differ ↦
          units_apart found.table (n / 4096) sound owned.part i load.within lt load.first
          (owned-first (part_at listed i)
          (owned-kind (part_at listed i) (owner_of (part_at listed i)) boot.0 refl kept.owned)) differ
          target.window (part_window (part_at listed x)) (subst (λ v. IsMember v target.window) load.unit in-unit)
          (data-member listed boot.0 (is_second_member choice.member) i x kept)
    ]

    pub data-apart : (k : ℕ) (x : Window) → slice_get (data_of (Some found.table) choice) k ≡ Some x
        → AreApart target.window x
    data-apart k x at =
        let numbers = data_parts listed boot.0 (is_second_member choice.member) in
        let number : (l : ℕ) × (slice_get numbers k ≡ Some l) × (x ≡ partition_window found.table l) =
        mapped_some (partition_window found.table) (slice_get numbers k) x
        (sym (slice_get-map (partition_window found.table) numbers k) ∙ sym (ap (λ xs. slice_get xs k) data-are) ∙ at)
        in
        let of : (number.0 < length listed)
        × ((i : ℕ) × (i < length listed) × IsDataOf listed boot.0 (is_second_member choice.member) i number.0) =
        data_listed listed boot.0 (is_second_member choice.member) k number.0 number.1 in
        subst (AreApart target.window) (sym number.2) (one-apart of.1.0 number.0 of.1.1 of.1.2)
