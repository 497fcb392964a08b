-- The target of a download into a pair stands apart from what a normal boot starts.
use Rattle.std.proofs.Common.{◌≡◌, ◌≢◌, inl, inr, ℕ, zero, suc, ◌/◌, false, List, [], ◌∷◌, length, slice_get, Option, Some, None, refl, sym, ap, ◌∙◌, subst}
use Rattle.std.specs.Prelude.{if◌then◌else◌, option_map}
use Rattle.std.specs.Option.{option_map_or, option_or}
use Rattle.std.proofs.lemmas.Bool.{cases_eq}
use Rattle.std.proofs.lemmas.Option.{same_Some}
use Rattle.pico_board.specs.declared.boot.Cpu.{Cpu}
use Rattle.pico_board.specs.declared.boot.BootKind.TheVariants.{Normal}
use Rattle.pico_board.specs.declared.window.Window.{Window}
use Rattle.pico_board.specs.Content.{AreApart, Content, IsContent}
use Rattle.otp_roll.specs.Flags.{slot_size}
use Rattle.part_table.specs.declared.partition.Partition.{Partition}
use Rattle.part_table.specs.Fields.{link_value}
use Rattle.part_table.specs.declared.table.Table.{Table}
use Rattle.part_table.specs.declared.target.Target.{Target}
use Rattle.part_table.specs.Links.{is_owned, owner_of}
use Rattle.part_table.specs.Partitions.{part_at}
use Rattle.part_table.specs.Sound.{IsSoundTable}
use Rattle.part_table.proofs.TableLemmas.{apart_sym}
use Rattle.slot_choice.specs.declared.unit.Member.{Member}
use Rattle.slot_choice.specs.declared.unit.Member.TheVariants.{A, B}
use Rattle.slot_choice.specs.declared.unit.SlotUnit.{SlotUnit}
use Rattle.slot_choice.specs.declared.choice.Choice.{Choice}
use Rattle.slot_choice.specs.Units.{IsMember, IsSoundFor, member_window, tableless_unit, unit_of, units, whole_flash}
use Rattle.slot_choice.specs.LoadUnits.{load_unit}
use Rattle.slot_choice.proofs.PlaceLemmas.{IsBootUnit, IsLoadUnit, boot_unit, tableless_apart}
use Rattle.slot_choice.proofs.UnitLemmas.{pair_apart, units_apart}
use Rattle.boot_rules.specs.declared.decision.Decision.TheVariants.{Start}
use Rattle.boot_rules.specs.Choosing.{boot_units_in, images_in, ordered_choice}
use Rattle.boot_rules.specs.Chosen.{Chosen}
use Rattle.boot_rules.specs.Picking.{taken, taken_member}
use Rattle.boot_rules.specs.Starts.{load_unit_in}
use Rattle.boot_rules.specs.Tables.{table_in, table_of_content}
use Rattle.boot_rules.specs.Targets.{deciding_in, deciding_unit, member_for, pair_target, target_of, unit_target}
use Rattle.boot_rules.proofs.ChangeLemmas.{images-placed}
use Rattle.boot_rules.proofs.ChoiceLemmas.{start-choice}
use Rattle.boot_rules.proofs.DecisionLemmas.{found-valid, valid-found}
use Rattle.boot_rules.proofs.PlaceLemmas.{IsLoad, all_flash, load-is, no_table, of_part, table-sound}
use Rattle.boot_rules.proofs.StartLemmas.{chosen-start, is-member}
use Rattle.boot_rules.proofs.UnitLemmas.{image-window, unit-some}

-- the choice of a normal boot is what is taken in one of the units
first-taken : (c : Content) (cpu : Cpu) (us : List SlotUnit) (choice : Choice)
    → ordered_choice (images_in c cpu) us None ≡ Some choice
    → (k : ℕ) × (v : SlotUnit) × (slice_get us k ≡ Some v) × (taken c cpu v ≡ Some choice)
first-taken c cpu [] choice e = cc
first-taken c cpu (u ∷ us) choice e = go (first-taken c cpu us choice) (taken c cpu u) refl e
  where
    go : (ordered_choice (images_in c cpu) us None ≡ Some choice
        → (k : ℕ) × (v : SlotUnit) × (slice_get us k ≡ Some v) × (taken c cpu v ≡ Some choice))
        → (o : Option Choice) → taken c cpu u ≡ o → option_or o (ordered_choice (images_in c cpu) us None) ≡ Some choice
        → (k : ℕ) × (v : SlotUnit) × (slice_get (u ∷ us) k ≡ Some v) × (taken c cpu v ≡ Some choice)
    go rest None is h = let later = rest h in (suc later.0, later.1, later.2, later.3)
    go rest (Some x) is h = (zero, u, refl, is ∙ h)

pub normal-taken : (c : Content) (cpu : Cpu) (choice : Choice) → Chosen c cpu Normal (Start choice)
    → (k : ℕ) × (v : SlotUnit) × (slice_get (boot_units_in c cpu) k ≡ Some v) × (taken c cpu v ≡ Some choice)
normal-taken c cpu choice h =
    first-taken c cpu (boot_units_in c cpu) choice
    (start-choice c cpu (images_in c cpu) (found-valid c cpu) (valid-found c cpu) (boot_units_in c cpu) None choice
    (chosen-start c cpu Normal choice h))

-- what is taken of a unit stands in its member
pub taken-stands : (c : Content) (cpu : Cpu) (v : SlotUnit) (choice : Choice) → taken c cpu v ≡ Some choice
    → member_window choice.member v ≡ Some choice.image.window
taken-stands c cpu v choice e =
    let is = (unit-some (images_in c cpu) v None choice e).image_is in
    let found = image-window (images_in c cpu) v choice.member false choice.image is in
    found.1 ∙ ap Some (sym (images-placed c cpu found.0 false choice.image found.2))

-- the target's window is the one of the member that is not taken
target-other : (t : Option Table) (family : ℕ) (u : SlotUnit) (second : Window) → u.b ≡ Some second → (m : Member)
    → AreApart u.a second → (w : Window) → member_window m u ≡ Some w
    → AreApart (pair_target t family u second (member_for (Some m))).window w
target-other t family u second b A apart w at =
    subst (λ x. AreApart second x) (same_Some u.a w at) (apart_sym u.a second apart)
target-other t family u second b B apart w at = subst (λ x. AreApart u.a x) (same_Some second w (sym b ∙ at)) apart

module _ (c : Content) (cpu : Cpu) (family : ℕ) (t : Option Table) (u : SlotUnit) (second : Window)
    (b : u.b ≡ Some second) where
  -- the target in the pair
  pub pair-window : (o : Option Window) → u.b ≡ o
      → (unit_target c t cpu family u o).window
      ≡ (pair_target t family u second (member_for (taken_member c cpu (deciding_unit t u)))).window
  pair-window None e = absurd (never (sym b ∙ e))
    where
      never : Some second ≡ None → ⊥
      never h = cc
  pair-window (Some w) e = ap (λ x.
      (pair_target t family u x (member_for (taken_member c cpu (deciding_unit t u)))).window)
      (same_Some w second (sym e ∙ b))

  -- where the deciding unit takes an image
  pub decided-window : (choice : Choice) → taken c cpu (deciding_unit t u) ≡ Some choice
      → (unit_target c t cpu family u u.b).window
      ≡ (pair_target t family u second (member_for (Some choice.member))).window
  decided-window choice e =
      pair-window u.b refl
      ∙ ap (λ o. (pair_target t family u second (member_for (option_map (λ (x : Choice). x.member) o))).window) e

  -- the target is a member of the pair
  pub pair-member : IsMember u (unit_target c t cpu family u u.b).window
  pair-member = subst (IsMember u) (sym (pair-window u.b refl))
      (go (member_for (taken_member c cpu (deciding_unit t u))))
    where
      go : (m : Member) → IsMember u (pair_target t family u second m).window
      go A = inl refl
      go B = inr b

no-owner : (parts : List Partition) (i : ℕ) → is_owned (part_at parts i) ≡ false → owner_of (part_at parts i) ≡ None
no-owner parts i e = ap (λ yes. if yes then Some (link_value (part_at parts i)) else None) e

-- with a table: the target in the pair of partition i, and what is taken in the boot unit of partition j
module _ (c : Content) (cpu : Cpu) (family : ℕ) (p : Table) (n : ℕ) (sound : IsSoundTable p n) (u : SlotUnit)
    (second : Window) (b : u.b ≡ Some second)
    (i : ℕ) (load : IsLoadUnit p.parts.items family u i) (j : ℕ) (v : SlotUnit) (k : ℕ)
    (boot : IsBootUnit p.parts.items cpu k v j)
    (choice : Choice) (is : taken c cpu v ≡ Some choice) where
  abbrev parts : List Partition
  parts = p.parts.items

  abbrev pub window-of : Window
  window-of = (unit_target c (Some p) cpu family u u.b).window

  in-u : IsMember (unit_of parts i) window-of
  in-u = subst (λ x. IsMember x window-of) load.unit (pair-member c cpu family (Some p) u second b)

  in-v : IsMember (unit_of parts j) choice.image.window
  in-v = subst (λ x. IsMember x choice.image.window) boot.unit
      (is-member choice.member v choice.image.window (taken-stands c cpu v choice is))

  other-part : i ≢ j → AreApart window-of choice.image.window
  other-part differ = units_apart p n sound i j load.within boot.within load.first boot.first differ window-of
      choice.image.window in-u in-v

  -- a pair without an owner decides on its own member
  self-deciding : is_owned (part_at parts i) ≡ false → deciding_unit (Some p) u ≡ u
  self-deciding free =
      let number : u.a_part ≡ Some i = ap (λ (x : SlotUnit). x.a_part) load.unit in
      ap (deciding_in parts u) number ∙ ap (λ o. option_map_or (unit_of parts) o u) (no-owner parts i free)

  same-part : i ≡ j → AreApart window-of choice.image.window
  same-part e =
      let same : v ≡ u = boot.unit ∙ sym (ap (unit_of parts) e) ∙ sym load.unit in
      let free = subst (λ l. is_owned (part_at parts l) ≡ false) (sym e) boot.free in
      let decides : taken c cpu (deciding_unit (Some p) u) ≡ Some choice =
      ap (taken c cpu) (self-deciding free ∙ sym same) ∙ is in
      let apart : AreApart u.a second =
      subst (λ (x : SlotUnit). AreApart x.a second) (sym load.unit)
      (pair_apart p n sound i load.within second (sym (ap (λ (x : SlotUnit). x.b) load.unit) ∙ b)) in
      subst (λ w. AreApart w choice.image.window) (sym (decided-window c cpu family (Some p) u second b choice decides))
      (target-other (Some p) family u second b choice.member apart choice.image.window
      (subst (λ x. member_window choice.member x ≡ Some choice.image.window) same (taken-stands c cpu v choice is)))

  pub partitions-target : AreApart window-of choice.image.window
  partitions-target = elim (cases_eq i j) [
    | inl e ↦ same-part e
    | inr differ ↦ other-part differ
  ]

same-target : (c : Content) (t : Option Table) (cpu : Cpu) (family n z : ℕ) (u : SlotUnit) (target : Target)
    → load_unit t n z family ≡ Some u
    → option_map (λ (x : SlotUnit). unit_target c t cpu family x x.b) (load_unit t n z family) ≡ Some target
    → (unit_target c t cpu family u u.b).window ≡ target.window
same-target c t cpu family n z u target e is =
    ap (λ (x : Target). x.window)
    (same_Some _ target (sym (ap (option_map (λ (x : SlotUnit). unit_target c t cpu family x x.b)) e) ∙ is))

-- the window of a target in the unit of its family
pub target-window : (c : Content) (t : Option Table) (cpu : Cpu) (family : ℕ) (u : SlotUnit) (target : Target)
    → load_unit t (length c.flash) (slot_size c.otp (length c.flash)) family ≡ Some u
    → target_of c t cpu family ≡ Some target
    → (unit_target c t cpu family u u.b).window ≡ target.window
target-window c t cpu family u target e is =
    same-target c t cpu family (length c.flash) (slot_size c.otp (length c.flash)) u target e is

only : (v : SlotUnit) (k : ℕ) (u : SlotUnit) → slice_get (v ∷ []) k ≡ Some u → v ≡ u
only v zero u e = same_Some v u e
only v (suc k) u e = cc

-- without a table the one unit decides on its own member
tableless-target : (c : Content) (cpu : Cpu) (family n z : ℕ) (u : SlotUnit) (second : Window) → u.b ≡ Some second
    → u ≡ tableless_unit n z
    → (choice : Choice) → taken c cpu u ≡ Some choice
    → AreApart (unit_target c None cpu family u u.b).window choice.image.window
tableless-target c cpu family n z u second b is choice e =
    let apart : AreApart u.a second =
    subst (λ (x : SlotUnit). AreApart x.a second) (sym is)
    (tableless_apart n z second (sym (ap (λ (x : SlotUnit). x.b) is) ∙ b)) in
    subst (λ w. AreApart w choice.image.window) (sym (decided-window c cpu family None u second b choice e))
    (target-other None family u second b choice.member apart choice.image.window (taken-stands c cpu u choice e))

pair-of-whole : {P : Type 0} (n : ℕ) (u : SlotUnit) (second : Window) → u ≡ whole_flash n → u.b ≡ Some second → P
pair-of-whole n u second is b = let none : None ≡ Some second = sym (ap (λ (x : SlotUnit). x.b) is) ∙ b in cc

module _ (c : Content) (cpu : Cpu) (family : ℕ) (u : SlotUnit) (second : Window) (b : u.b ≡ Some second)
    (choice : Choice) (k : ℕ) (v : SlotUnit) (is : taken c cpu v ≡ Some choice) where
  abbrev z : ℕ
  z = slot_size c.otp (length c.flash)

  apart-by : (t : Option Table) → IsSoundFor t (length c.flash) → slice_get (units t (length c.flash) z cpu) k ≡ Some v
      → IsLoad t (length c.flash) z family u → AreApart (unit_target c t cpu family u u.b).window choice.image.window
  apart-by t sound at (all_flash same) = pair-of-whole (length c.flash) u second same b
  apart-by t sound at (no_table none same) =
      subst (λ o. AreApart (unit_target c o cpu family u u.b).window choice.image.window) (sym none)
      (tableless-target c cpu family (length c.flash) z u second b same choice
      (ap (taken c cpu) (same ∙ only (tableless_unit (length c.flash) z) k v
      (sym (ap (λ o. slice_get (units o (length c.flash) z cpu) k) none) ∙ at)) ∙ is))
  apart-by t sound at (of_part p i some load) =
      let boot = boot_unit p (length c.flash) z cpu k v
      (sym (ap (λ o. slice_get (units o (length c.flash) z cpu) k) some) ∙ at) in
      subst (λ o. AreApart (unit_target c o cpu family u u.b).window choice.image.window) (sym some)
      (partitions-target c cpu family p (length c.flash / 4096)
      (subst (λ o. IsSoundFor o (length c.flash)) some sound) u second b i load boot.0 v k boot.1 choice is)

pub target-apart : (c : Content) (cpu : Cpu) (family : ℕ) (u : SlotUnit) (second : Window) (target : Target)
    (choice : Choice)
    → IsContent c → load_unit_in c family ≡ Some u → u.b ≡ Some second
    → target_of c (table_of_content c) cpu family ≡ Some target
    → Chosen c cpu Normal (Start choice) → AreApart target.window choice.image.window
target-apart c cpu family u second target choice right e b is h =
    let found = normal-taken c cpu choice h in
    subst (λ w. AreApart w choice.image.window) (target-window c (table_of_content c) cpu family u target e is)
    (apart-by c cpu family u second b choice found.0 found.1 found.3 (table_of_content c)
    (table-sound c (table_in c) refl) found.2
    (load-is (table_of_content c) (length c.flash) (slot_size c.otp (length c.flash)) family u e))
