-- The updated member and the order of an update boot.
use Rattle.std.proofs.Common.{◌≡◌, ◌≢◌, ℕ, suc, ◌+◌, add-one, ◌-◌, ◌<◌, ◌≤◌, ◌⊎◌, inl, inr, Bool, true, false, ◌==◌, nat_le, if◌then◌else◌, List, [], ◌∷◌, ◌++◌, take, drop, remove, get_or, length, refl, sym, ◌∙◌, ap, subst, arith, Option, None, Some, option_and_then, is_some, slice_get, find, position}
use Rattle.std.specs.Option.{option_map_or}
use Rattle.std.specs.List.Sorted.{IsPermutation}
use Rattle.std.proofs.lemmas.Bool.{eqb-true, eq-eqb}
use Rattle.std.proofs.lemmas.Bool.Decides.{leb_tells}
use Rattle.std.proofs.lemmas.Option.{slice_get_within, slice_get-get_or, get_or_from_slice_get, none-some, same_Some}
use Rattle.std.proofs.lemmas.List.{drop_more, get_or_default, get_or-take, length-take-le, take-append-drop}
use Rattle.std.proofs.lemmas.List.Sorted.{IsPermutation-remove, IsPermutation-refl}
use Rattle.pico_board.specs.declared.window.Window.{Window}
use Rattle.part_table.proofs.TestLemmas.{Found, Absent, search_of, passes_at_position, fails_before_position}
use Rattle.slot_choice.specs.declared.unit.SlotUnit.{SlotUnit}
use Rattle.slot_choice.specs.declared.unit.Member.{Member}
use Rattle.slot_choice.specs.declared.unit.Member.TheVariants.{A, B}
use Rattle.slot_choice.specs.Units.{IsMember, member_window}
use Rattle.pico_board.specs.Content.{flash_base}
use Rattle.slot_choice.specs.Updates.{member_at, has_member_at, updated_member, moved_to_front, update_order, IsUpdateless, IsUpdateOf}

-- moving an element to the front changes the order alone
pub front_permutes : {X : Type 0} (xs : List X) (k : ℕ) (x : X) → slice_get xs k ≡ Some x
    → moved_to_front xs k ≡ x ∷ remove xs k
front_permutes xs k x at =
    let lt : k < length xs = slice_get_within xs k x at in
    let is : get_or xs k x ≡ x = get_or_from_slice_get xs k x x at in
    let cut : take 1 (drop k xs) ≡ take 1 (get_or xs k x ∷ drop (k + 1) xs) =
    ap (λ ys. take 1 ys) (drop_more xs k x lt) in
    ap (λ ys. ys ++ remove xs k) (cut ∙ ap (λ y. y ∷ []) is)

-- a unit that stands for one past the end of a list
nowhere : SlotUnit
nowhere = record { a = record { start = 0; len = 0 }; b = None; a_part = None; b_part = None }

permutes_by : (us : List SlotUnit) (o : Option ℕ) → ((k : ℕ) → o ≡ Some k → k < length us)
    → IsPermutation us (option_map_or (moved_to_front us) o us)
permutes_by us None within = IsPermutation-refl us
permutes_by us (Some k) within =
    let lt : k < length us = within k refl in
    let x : SlotUnit = get_or us k nowhere in
    let at : slice_get us k ≡ Some x = slice_get-get_or us k nowhere lt in
    subst (λ ys. IsPermutation us ys) (sym (front_permutes us k x at))
    (IsPermutation-remove us k x lt (get_or_default us k nowhere x lt))

if_permutes : (yes : Bool) (us vs : List SlotUnit) → IsPermutation us vs → IsPermutation us (if yes then vs else us)
if_permutes true us vs p = p
if_permutes false us vs p = IsPermutation-refl us

-- the order of an update boot has the same units
pub order_permutes : (us : List SlotUnit) (base : ℕ) → IsPermutation us (update_order us base)
order_permutes us base =
    if_permutes (nat_le flash_base base) us _
    (permutes_by us (position (has_member_at (base - flash_base)) us)
    (λ k at. (passes_at_position (has_member_at (base - flash_base)) us k nowhere at).0))

second_starts : (start : ℕ) (w : Window) (m : Member) (yes : Bool) → (w.start == start) ≡ yes
    → (if yes then Some B else None) ≡ Some m
    → (m ≡ B) × (w.start ≡ start)
second_starts start w m true is e = (cc, eqb-true _ _ is)
second_starts start w m false is e = cc

starts_by : (start : ℕ) (a : Window) (b : Option Window) (m : Member) (yes : Bool) → (a.start == start) ≡ yes
    → (if yes then Some A else (if option_map_or (λ w. w.start == start) b false then Some B else None)) ≡ Some m
    → ((m ≡ A) × (a.start ≡ start)) ⊎ ((m ≡ B) × (w : Window) × (b ≡ Some w) × (w.start ≡ start))
starts_by start a b m true is e = inl (cc, eqb-true _ _ is)
starts_by start a None m false is e = cc
starts_by start a (Some w) m false is e =
    let second : (m ≡ B) × (w.start ≡ start) = second_starts start w m (w.start == start) refl e in
    inr (second.0, w, refl, second.1)

-- the member that starts at an offset has a window that does
pub member_starts : (start : ℕ) (u : SlotUnit) (m : Member) → member_at start u ≡ Some m
    → (w : Window) × (member_window m u ≡ Some w) × (w.start ≡ start)
member_starts start u m at =
    elim (starts_by start u.a u.b m (u.a.start == start) refl at) [
      | inl a ↦ (u.a, subst (λ l. member_window l u ≡ Some u.a) (sym a.0) refl, a.1)
      | inr b ↦ (b.1, subst (λ l. member_window l u ≡ Some b.1) (sym b.0) b.2, b.3)
    ]

none_by : (start : ℕ) (a : Window) (b : Option Window) (yes : Bool) → (a.start == start) ≡ yes
    → is_some (if yes then Some A else (if option_map_or (λ w. w.start == start) b false then Some B else None)) ≡ false
    → (w : Window) → (w ≡ a) ⊎ (b ≡ Some w) → w.start ≢ start
none_by start a b true is e w member = λ same. cc
none_by start a b false is e w (inl one) = λ same.
    let yes : (a.start == start) ≡ true = eq-eqb _ _ (ap (λ (y : Window). y.start) (sym one) ∙ same) in cc
none_by start a None false is e w (inr two) = λ same. cc
none_by start a (Some v) false is e w (inr two) = λ same.
    let one : v ≡ w = cc in
    let yes : (v.start == start) ≡ true = eq-eqb _ _ (ap (λ (y : Window). y.start) one ∙ same) in
    let some : is_some (if v.start == start then Some B else None) ≡ true =
    ap (λ b. is_some (if b then Some B else None)) yes in
    cc

-- where no member starts at an offset, no window of the unit does
pub none_starts : (start : ℕ) (u : SlotUnit) → has_member_at start u ≡ false → (w : Window) → IsMember u w
    → w.start ≢ start
none_starts start u no_member w member = none_by start u.a u.b (u.a.start == start) refl no_member w member

-- a member that is searched for in the units from an address on
sought_from : (us : List SlotUnit) (base : ℕ) (yes : Bool) (k : ℕ) (u : SlotUnit) (m : Option Member) → yes ≡ true
    → Found (has_member_at (base - flash_base)) us k u
    → (if yes then option_and_then (member_at (base - flash_base))
    (find (has_member_at (base - flash_base)) us) else None) ≡ m
    → member_at (base - flash_base) u ≡ m
sought_from us base false k u m is found e = cc
sought_from us base true k u m is found e =
    ap (λ o. option_and_then (member_at (base - flash_base)) o) (sym found.sought) ∙ e

-- the order that a place gives, from an address on
ordered_by : (us : List SlotUnit) (base : ℕ) (yes : Bool) (o : Option ℕ) → yes ≡ true
    → position (has_member_at (base - flash_base)) us ≡ o
    → (if yes then option_map_or (moved_to_front us) (position (has_member_at (base - flash_base)) us) us else us)
    ≡ option_map_or (moved_to_front us) o us
ordered_by us base false o is e = cc
ordered_by us base true o is e = ap (λ p. option_map_or (moved_to_front us) p us) e

-- below the flash nothing is sought
below_order : (us : List SlotUnit) (base : ℕ) (yes : Bool) → yes ≡ false
    → (if yes then option_map_or (moved_to_front us) (position (has_member_at (base - flash_base)) us) us else us) ≡ us
below_order us base true is = cc
below_order us base false is = refl

below_member : (us : List SlotUnit) (base : ℕ) (yes : Bool) (m : Member) → yes ≡ false
    → (if yes then option_and_then (member_at (base - flash_base))
    (find (has_member_at (base - flash_base)) us) else None) ≡ Some m → ⊥
below_member us base true m is e = cc
below_member us base false m is e = cc

absent_member : (us : List SlotUnit) (base : ℕ) (yes : Bool) (m : Member)
    → Absent (has_member_at (base - flash_base)) us
    → (if yes then option_and_then (member_at (base - flash_base))
    (find (has_member_at (base - flash_base)) us) else None) ≡ Some m → ⊥
absent_member us base true m absent e =
    let none : None ≡ Some m = ap (λ o. option_and_then (member_at (base - flash_base)) o) (sym absent.unfound) ∙ e in
    cc
absent_member us base false m absent e = cc

some_is_some : (o : Option Member) → is_some o ≡ true → o ≡ None → ⊥
some_is_some None e none = cc
some_is_some (Some m) e none = cc

-- without an updated member the order stays, and no member starts where the address points
pub not_updated : (us : List SlotUnit) (base : ℕ) → updated_member us base ≡ None → IsUpdateless us base
not_updated us base none =
    elim (leb_tells flash_base base) [
      | inl above ↦ elim (search_of (has_member_at (base - flash_base)) us) [
        | inl absent ↦ (record {
          order = ordered_by us base (nat_le flash_base base) None above.0 absent.placeless;
          elsewhere = λ k u w at member same.
              none_starts (base - flash_base) u (absent.fails k u at) w member (omega arith);
        })
        | inr found ↦ absurd (some_is_some (member_at (base - flash_base) found.1) found.2.passes
            (sought_from us base (nat_le flash_base base) found.0 found.1 None above.0 found.2 none))
      ]
      | inr below ↦ (record {
        order = below_order us base (nat_le flash_base base) below.0;
        elsewhere = λ k u w at member same. absurd (omega arith);
      })
    ]

-- a list is what stands before a place, at it and behind it
in_three : {X : Type 0} (xs : List X) (k : ℕ) (x : X) → slice_get xs k ≡ Some x → xs ≡ take k xs ++ x ∷ drop (suc k) xs
in_three xs k x at =
    let lt : k < length xs = slice_get_within xs k x at in
    let is : get_or xs k x ≡ x = get_or_from_slice_get xs k x x at in
    sym (take-append-drop k xs)
    ∙ ap (λ ys. take k xs ++ ys)
    (drop_more xs k x lt ∙ ap (λ y. y ∷ drop (k + 1) xs) is ∙ ap (λ n. x ∷ drop n xs) (add-one k))

-- no unit before the first that has a member at an offset has one
fails_before : (us : List SlotUnit) (start k : ℕ) → position (has_member_at start) us ≡ Some k
    → (j : ℕ) (v : SlotUnit) → slice_get (take k us) j ≡ Some v → has_member_at start v ≡ false
fails_before us start k place j v at =
    let within : k < length us = (passes_at_position (has_member_at start) us k v place).0 in
    let inside : j < length (take k us) = slice_get_within (take k us) j v at in
    let long : length (take k us) ≡ k = length-take-le k us (omega (arith, within)) in
    let lt : j < k = omega (arith, inside, long) in
    let is : get_or us j v ≡ v = sym (get_or-take k us j v lt) ∙ get_or_from_slice_get (take k us) j v v at in
    subst (λ y. has_member_at start y ≡ false) is (fails_before_position (has_member_at start) us k v place j lt)

-- the updated member is one of the unit that comes first, and starts where the address points
pub updated : (us : List SlotUnit) (base : ℕ) (m : Member) → updated_member us base ≡ Some m
    → (u : SlotUnit) × (w : Window) × IsUpdateOf us base m u w
updated us base m some =
    elim (leb_tells flash_base base) [
      | inl above ↦ elim (search_of (has_member_at (base - flash_base)) us) [
        | inl absent ↦ absurd (absent_member us base (nat_le flash_base base) m absent some)
        | inr found ↦
            let start : (w : Window) × (member_window m found.1 ≡ Some w) × (w.start ≡ base - flash_base) =
            member_starts (base - flash_base) found.1 m
            (sought_from us base (nat_le flash_base base) found.0 found.1 (Some m) above.0 found.2 some) in (
              found.1,
              start.0,
              record {
                before = take found.0 us;
                after = drop (suc found.0) us;
                stood = in_three us found.0 found.1 found.2.at;
                order = ordered_by us base (nat_le flash_base base) (Some found.0) above.0 found.2.place
                    ∙ front_permutes us found.0 found.1 found.2.at;
                window = start.1;
                pointed = omega (arith, above.1, start.2);
                first = λ j v x at member same.
                    none_starts (base - flash_base) v
                    (fails_before us (base - flash_base) found.0 found.2.place j v at) x member
                    (omega arith);
              },
            )
      ]
      | inr below ↦ absurd (below_member us base (nat_le flash_base base) m below.0 some)
    ]

sought_by : (us : List SlotUnit) (base start : ℕ) (yes : Bool) → yes ≡ true → start ≡ base - flash_base
    → (if yes then option_and_then (member_at (base - flash_base))
    (find (has_member_at (base - flash_base)) us) else None)
    ≡ option_and_then (member_at start) (find (has_member_at start) us)
sought_by us base start false is e = cc
sought_by us base start true is e = ap (λ s. option_and_then (member_at s) (find (has_member_at s) us)) (sym e)

module _ (us : List SlotUnit) (base start : ℕ) (above : flash_base ≤ base) (offset : start ≡ base - flash_base) where
  -- the updated member of an address inside the flash is sought by its offset
  sought_at : updated_member us base ≡ option_and_then (member_at start) (find (has_member_at start) us)
  sought_at =
      elim (leb_tells flash_base base) [
        | inl is ↦ sought_by us base start (nat_le flash_base base) is.0 offset
        | inr below ↦ absurd (omega (arith, below.1))
      ]

  -- without a place there is none
  pub unplaced : position (has_member_at start) us ≡ None → None ≡ updated_member us base
  unplaced none =
      elim (search_of (has_member_at start) us) [
        | inl absent ↦ sym (sought_at ∙ ap (option_and_then (member_at start)) absent.unfound)
        | inr found ↦ absurd (none-some found.0 (sym none ∙ found.2.place))
      ]

  -- the updated member is that of the unit at the place
  pub placed : (k : ℕ) (u : SlotUnit) → position (has_member_at start) us ≡ Some k → slice_get us k ≡ Some u
      → member_at start u ≡ updated_member us base
  placed k u place at =
      elim (search_of (has_member_at start) us) [
        | inl absent ↦ absurd (none-some k (sym absent.placeless ∙ place))
        | inr found ↦
            let here : found.0 ≡ k = same_Some found.0 k (sym found.2.place ∙ place) in
            let same : found.1 ≡ u = same_Some found.1 u (sym found.2.at ∙ ap (slice_get us) here ∙ at) in
            sym (sought_at ∙ ap (option_and_then (member_at start)) (found.2.sought ∙ ap Some same))
      ]
