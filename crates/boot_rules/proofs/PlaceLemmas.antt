-- Where the members of units stand, in a flash of whole sectors.
use Rattle.std.proofs.Common.{◌≡◌, ◌⊎◌, inl, inr, ℕ, zero, suc, ◌*◌, ◌/◌, ◌%◌, ◌^◌, ◌<◌, ◌≤◌, Bool, true, false, ◌&&◌, ◌==◌, List, [], ◌∷◌, length, slice_get, slice_index, Option, Some, None, refl, sym, ap, ◌∙◌, subst, arith, option_map}
use Rattle.std.specs.Prelude.{All, IfSome, get_or, nat_le, nat_lt, if◌then◌else◌}
use Rattle.std.specs.Option.{option_map_or}
use Rattle.std.proofs.lemmas.Bool.{leb-true}
use Rattle.std.proofs.lemmas.List.Sorted.{All-permutation}
use Rattle.std.proofs.lemmas.Option.{same_Some, slice_get-get_or}
use Rattle.pico_board.specs.declared.boot.Cpu.{Cpu}
use Rattle.pico_board.specs.declared.boot.BootKind.{BootKind}
use Rattle.pico_board.specs.declared.boot.BootKind.TheVariants.{Normal, Update, Bootsel as AskBootsel}
use Rattle.pico_board.specs.declared.window.Window.{Window}
use Rattle.pico_board.specs.Content.{Content, IsContent, IsFlashLength}
use Rattle.otp_roll.specs.Flags.{slot_size, slot_size_of}
use Rattle.otp_roll.specs.declared.flags.TheConstants.{SLOT_SIZE_ROW}
use Rattle.part_table.specs.declared.table.Table.{Table}
use Rattle.part_table.specs.Families.{absolute_family, accepts_absolute}
use Rattle.part_table.specs.Links.{owner_of}
use Rattle.part_table.specs.Partitions.{part_at}
use Rattle.part_table.specs.Sound.{IsSoundTable}
use Rattle.part_table.specs.Windows.{IsPlacedWindow}
use Rattle.part_table.proofs.LinkLemmas.{right_owner_of}
use Rattle.part_table.proofs.TableLemmas.{sound_placed}
use Rattle.slot_choice.specs.declared.unit.Member.{Member}
use Rattle.slot_choice.specs.declared.unit.Member.TheVariants.{A, B}
use Rattle.slot_choice.specs.declared.unit.SlotUnit.{SlotUnit}
use Rattle.slot_choice.specs.LoadUnits.{absolute_unit, family_unit, load_unit}
use Rattle.slot_choice.specs.Units.{IsMember, IsSoundFor, slot_pair, tableless_unit, unit_of, units, whole_flash}
use Rattle.slot_choice.proofs.PlaceLemmas.{IsLoadUnit, accepting, sound_members_placed, tableless_placed}
use Rattle.slot_choice.proofs.UnitLemmas.{member_placed}
use Rattle.slot_choice.proofs.UpdateLemmas.{order_permutes}
use Rattle.boot_rules.specs.declared.tables.Found.{Found}
use Rattle.boot_rules.specs.Choosing.{boot_units_in, order_of}
use Rattle.boot_rules.specs.Picking.{AreInside, IsInside, taken_member}
use Rattle.boot_rules.specs.Tables.{table_in}
use Rattle.boot_rules.specs.Targets.{AreLoadsOf, deciding_in, deciding_unit, member_for, pair_target, unit_target}
use Rattle.boot_rules.proofs.TableLemmas.{found-sound}

-- the size of a slot
pub record IsSlotSize (n z : ℕ) : Type 0 where
  pub whole : z % 4096 ≡ 0
  pub least : 4096 ≤ z
  pub fits : 2 * z ≤ n

power-some : (n : ℕ) → 1 ≤ 2 ^ n
power-some zero = omega arith
power-some (suc n) = let more = power-some n in omega arith

slot-by : (yes also : Bool) (n x : ℕ) → 8192 ≤ n → 1 ≤ x → (also ≡ true → 2 * (4096 * x) ≤ n)
    → IsSlotSize n (if yes && also then 4096 * x else 4096)
slot-by true true n x least some fits = record { whole = omega arith; least = omega arith; fits = fits refl }
slot-by true false n x least some fits = record { whole = refl; least = omega arith; fits = omega arith }
slot-by false also n x least some fits = record { whole = refl; least = omega arith; fits = omega arith }

slot-size-of : (k n : ℕ) → 8192 ≤ n → IsSlotSize n (slot_size_of k n)
slot-size-of k n least = slot-by (nat_le k 11) (nat_le (2 * (4096 * 2 ^ k)) n) n (2 ^ k) least (power-some k)
    (λ h. leb-true (2 * (4096 * 2 ^ k)) n h)

pub slot-size : (otp : List ℕ) (n : ℕ) → 8192 ≤ n → IsSlotSize n (slot_size otp n)
slot-size otp n least = slot-size-of (slice_index otp SLOT_SIZE_ROW % 16) n least

-- a flash has whole sectors
pub whole-sectors : (n : ℕ) → n % 4096 ≡ 0 → 4096 * (n / 4096) ≡ n
whole-sectors n whole = omega arith

-- a placed window stands inside
pub placed-inside : (n : ℕ) (w : Window) → n % 4096 ≡ 0 → IsPlacedWindow w (n / 4096) 0 → IsInside n w
placed-inside n w whole placed = let long = whole-sectors n whole in let in_sectors = placed.inside in
    omega (arith, long, in_sectors)

-- the second member of a unit whose members are placed stands inside the flash, where there is one; and so does such a
-- unit
second-inside : (n : ℕ) (o : Option Window) → ((w : Window) → o ≡ Some w → IsInside n w) → IfSome o (IsInside n)
second-inside n None inside = tt
second-inside n (Some w) inside = inside w refl

pub members-inside : (n : ℕ) (u : SlotUnit) → n % 4096 ≡ 0
    → ((w : Window) → IsMember u w → IsPlacedWindow w (n / 4096) 0)
    → AreInside n u
members-inside n u whole placed = record {
  first = placed-inside n u.a whole (placed u.a (inl refl));
  second = second-inside n u.b (λ w at. placed-inside n w whole (placed w (inr at)));
}

-- the one unit of a flash without a table
pub tableless-members : (n z : ℕ) → IsFlashLength n → IsSlotSize n z → (w : Window) → IsMember (tableless_unit n z) w
    → IsPlacedWindow w (n / 4096) 0
tableless-members n z right slot w member =
    let long = whole-sectors n right.whole in
    let some : 1 ≤ n / 4096 = (let least = right.least in omega arith) in
    tableless_placed (n / 4096) z some slot.whole (λ large. let fits = slot.fits in omega (arith, long, fits)) w
    (subst (λ k. IsMember (tableless_unit k z) w) (sym long) member)

only : (v : SlotUnit) (k : ℕ) (u : SlotUnit) → slice_get (v ∷ []) k ≡ Some u → v ≡ u
only v zero u e = same_Some v u e
only v (suc k) u e = cc

-- the members of the boot units for a sound table, or none
pub unit-members : (t : Option Table) (n z : ℕ) (cpu : Cpu) → IsSoundFor t n → IsFlashLength n → IsSlotSize n z
    → (k : ℕ) (u : SlotUnit) → slice_get (units t n z cpu) k ≡ Some u → (w : Window) → IsMember u w
    → IsPlacedWindow w (n / 4096) 0
unit-members None n z cpu sound right slot k u at w member =
    tableless-members n z right slot w (subst (λ v. IsMember v w) (sym (only (tableless_unit n z) k u at)) member)
unit-members (Some t) n z cpu sound right slot k u at w member =
    sound_members_placed t (n / 4096) n z cpu sound k u at w member

pub table-sound : (c : Content) (o : Option Found) → table_in c ≡ o
    → IsSoundFor (option_map (λ (found : Found). found.table) o) (length c.flash)
table-sound c None e = tt
table-sound c (Some found) e = found-sound c found e

pub boot-unit-members : (c : Content) (cpu : Cpu) → IsContent c → (k : ℕ) (u : SlotUnit)
    → slice_get (boot_units_in c cpu) k ≡ Some u
    → (w : Window) → IsMember u w → IsPlacedWindow w (length c.flash / 4096) 0
boot-unit-members c cpu right k u at w member =
    unit-members (option_map (λ found. found.table) (table_in c)) (length c.flash)
    (slot_size c.otp (length c.flash)) cpu
    (table-sound c (table_in c) refl) right.flash_length
    (slot-size c.otp (length c.flash) right.flash_length.least) k u at w member

-- all boot units stand inside
pub boot-units-inside : (c : Content) (cpu : Cpu) → IsContent c → All (AreInside (length c.flash)) (boot_units_in c cpu)
boot-units-inside c cpu right = λ k d lt.
    members-inside (length c.flash) (get_or (boot_units_in c cpu) k d) right.flash_length.whole
    (boot-unit-members c cpu right k (get_or (boot_units_in c cpu) k d) (slice_get-get_or (boot_units_in c cpu) k d lt))

-- in each order in which they are tried
pub order-all : (P : SlotUnit → Type 0) (kind : BootKind) (us : List SlotUnit) → All P us
    → All P (order_of kind us).units
order-all P Normal us all = all
order-all P AskBootsel us all = all
order-all P (Update base) us all = All-permutation P us _ (order_permutes us base) all

-- the members of a load unit, and of the unit that decides on its member
whole-members : (n : ℕ) → IsFlashLength n → (w : Window) → IsMember (whole_flash n) w → IsPlacedWindow w (n / 4096) 0
whole-members n right w (inl a) =
    let long = whole-sectors n right.whole in
    let least = right.least in
    let whole = right.whole in
    subst (λ x. IsPlacedWindow x (n / 4096) 0) (sym a)
    (record { starts = refl; whole = whole; some = omega arith; inside = omega (arith, long); free = omega arith })
whole-members n right w (inr b) = cc

either : (yes : Bool) (one two : Option SlotUnit) (u : SlotUnit) → (if yes then one else two) ≡ Some u
    → (one ≡ Some u) ⊎ (two ≡ Some u)
either true one two u e = inl e
either false one two u e = inr e

some-unit : (yes : Bool) (v u : SlotUnit) → (if yes then Some v else None) ≡ Some u → v ≡ u
some-unit true v u e = same_Some v u e
some-unit false v u e = cc

-- the unit that is taken for a family is the whole flash, the one unit of a flash without a table, or that of a
-- partition
pub data IsLoad (t : Option Table) (n z family : ℕ) (u : SlotUnit) : Type 0 where
  all_flash : u ≡ whole_flash n → IsLoad t n z family u
  no_table : t ≡ None → u ≡ tableless_unit n z → IsLoad t n z family u
  of_part : (p : Table) (i : ℕ) → t ≡ Some p → IsLoadUnit p.parts.items family u i → IsLoad t n z family u

pub load-is : (t : Option Table) (n z family : ℕ) (u : SlotUnit) → load_unit t n z family ≡ Some u
    → IsLoad t n z family u
load-is t n z family u e = go t (either (family == absolute_family) (absolute_unit t n) (family_unit t n z family) u e)
  where
    go : (t : Option Table) → (absolute_unit t n ≡ Some u) ⊎ (family_unit t n z family ≡ Some u) → IsLoad t n z family u
    go t (inl absolute) = all_flash (sym (some-unit (option_map_or accepts_absolute t true) (whole_flash n) u absolute))
    go None (inr other) = no_table refl (sym (some-unit _ (tableless_unit n z) u other))
    go (Some p) (inr other) = let found = accepting p.parts.items family u other in of_part p found.0 refl found.1

pub load-members : (t : Option Table) (n z family : ℕ) → IsSoundFor t n → IsFlashLength n → IsSlotSize n z
    → (u : SlotUnit)
    → IsLoad t n z family u → (w : Window) → IsMember u w → IsPlacedWindow w (n / 4096) 0
load-members t n z family sound right slot u (all_flash is) w member =
    whole-members n right w (subst (λ v. IsMember v w) is member)
load-members t n z family sound right slot u (no_table none is) w member =
    tableless-members n z right slot w (subst (λ v. IsMember v w) is member)
load-members t n z family sound right slot u (of_part p i some is) w member =
    member_placed p (n / 4096) 0 (sound_placed p (n / 4096) (subst (λ o. IsSoundFor o n) some sound)) i is.within w
    (subst (λ v. IsMember v w) is.unit member)

-- the owner's unit
owner-inside : (p : Table) (n : ℕ) → IsSoundTable p (n / 4096) → n % 4096 ≡ 0 → (u : SlotUnit) → AreInside n u
    → (i : ℕ) → i < length p.parts.items
    → (o : Option ℕ) → owner_of (part_at p.parts.items i) ≡ o → AreInside n (option_map_or (unit_of p.parts.items) o u)
owner-inside p n sound whole u inside i lt None e = inside
owner-inside p n sound whole u inside i lt (Some v) e =
    members-inside n (unit_of p.parts.items v) whole
    (member_placed p (n / 4096) 0 (sound_placed p (n / 4096) sound) v
    (right_owner_of p.parts.items sound.links i v lt e).0)

pub loads-of : (t : Option Table) (n z family : ℕ) → IsSoundFor t n → IsFlashLength n → IsSlotSize n z → (u : SlotUnit)
    → load_unit t n z family ≡ Some u → AreLoadsOf n t u
loads-of t n z family sound right slot u e = go (load-is t n z family u e)
  where
    inside : AreInside n u
    inside = members-inside n u right.whole (load-members t n z family sound right slot u (load-is t n z family u e))

    no-part : (t : Option Table) → u.a_part ≡ None → AreInside n (deciding_unit t u)
    no-part None none = inside
    no-part (Some p) none = subst (λ o. AreInside n (deciding_in p.parts.items u o)) (sym none) inside

    none-part : (t : Option Table) → u.a_part ≡ None → IfSome t (λ p. IfSome u.a_part (λ i. i < length p.parts.items))
    none-part None none = tt
    none-part (Some p) none = subst (λ o. IfSome o (λ i. i < length p.parts.items)) (sym none) tt

    without : u.a_part ≡ None → AreLoadsOf n t u
    without none = record { inside = inside; decides = no-part t none; part = none-part t none }

    slots-part : (large : Bool) → (if large then slot_pair z else whole_flash n).a_part ≡ None
    slots-part true = refl
    slots-part false = refl

    go : IsLoad t n z family u → AreLoadsOf n t u
    go (all_flash is) = without (ap (λ (v : SlotUnit). v.a_part) is)
    go (no_table none is) = without (ap (λ (v : SlotUnit). v.a_part) is ∙ slots-part (nat_lt 4096 z))
    go (of_part p i some is) =
        let number : u.a_part ≡ Some i = ap (λ (v : SlotUnit). v.a_part) is.unit in
        let table_sound = subst (λ o. IsSoundFor o n) some sound in
        record {
          inside = inside;
          decides = subst (λ o. AreInside n (deciding_unit o u)) (sym some)
              (subst (λ o. AreInside n (deciding_in p.parts.items u o)) (sym number)
              (owner-inside p n table_sound right.whole u inside i is.within
              (owner_of (part_at p.parts.items i)) refl));
          part = subst (λ o. IfSome o (λ q. IfSome u.a_part (λ k. k < length q.parts.items))) (sym some)
              (subst (λ o. IfSome o (λ k. k < length p.parts.items)) (sym number) is.within);
        }

-- the target's window is a member's
pub target-member : (c : Content) (t : Option Table) (cpu : Cpu) (family : ℕ) (u : SlotUnit) (o : Option Window)
    → u.b ≡ o
    → IsMember u (unit_target c t cpu family u o).window
target-member c t cpu family u None e = inl refl
target-member c t cpu family u (Some second) e = go (member_for (taken_member c cpu (deciding_unit t u)))
  where
    go : (m : Member) → IsMember u (pair_target t family u second m).window
    go A = inl refl
    go B = inr e

pub target-placed : (c : Content) (t : Option Table) (cpu : Cpu) (family : ℕ) → IsContent c
    → IsSoundFor t (length c.flash) → (u : SlotUnit)
    → load_unit t (length c.flash) (slot_size c.otp (length c.flash)) family ≡ Some u
    → IsPlacedWindow (unit_target c t cpu family u u.b).window (length c.flash / 4096) 0
target-placed c t cpu family right sound u e =
    let slot = slot-size c.otp (length c.flash) right.flash_length.least in
    load-members t (length c.flash) (slot_size c.otp (length c.flash)) family sound right.flash_length slot u
    (load-is t (length c.flash) (slot_size c.otp (length c.flash)) family u e) (unit_target c t cpu family u u.b).window
    (target-member c t cpu family u u.b refl)

-- the unit of a download by the length and the slot size that were read
pub load-read : (t : Option Table) (n z k y family : ℕ) (u : SlotUnit) → k ≡ n → y ≡ z
    → Some u ≡ load_unit t k y family → load_unit t n z family ≡ Some u
load-read t n z k y family u long size e =
    sym (e ∙ ap (λ m. load_unit t m y family) long ∙ ap (λ s. load_unit t n s family) size)
