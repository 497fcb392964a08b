-- The order of the boot units in a flash-update boot.
use Rattle.std.specs.Prelude.{◌≡◌, ◌≢◌, ℕ, ◌+◌, slice_get, Bool, false, ◌-◌, ◌==◌, List, ◌∷◌, ◌++◌, take, drop, remove, position, find, is_some, nat_le, if◌then◌else◌}
use Rattle.std.specs.Prelude.{Option, None, Some, option_and_then}
use Rattle.std.specs.Option.{option_map_or}
use Rattle.pico_board.specs.declared.window.Window.{Window}
use Rattle.slot_choice.specs.Units.{IsMember, member_window}
use Rattle.pico_board.specs.Content.{flash_base}
use Rattle.slot_choice.specs.declared.unit.SlotUnit.{SlotUnit}
use Rattle.slot_choice.specs.declared.unit.Member.{Member}
use Rattle.slot_choice.specs.declared.unit.Member.TheVariants.{A, B}

-- the member of a unit at an offset of the flash: its window starts there, and A comes before B
abbrev pub member_at : ℕ → SlotUnit → Option Member
member_at start u =
    if u.a.start == start then Some A
    else (if option_map_or (λ w. w.start == start) u.b false then Some B else None)

-- a unit has a member at an offset where one of its windows starts there
abbrev pub has_member_at : ℕ → SlotUnit → Bool
has_member_at start u = is_some (member_at start u)

-- the updated member: its window starts where the address of the update points, and its unit is
-- the first that has such a member; below the flash no member starts
abbrev pub updated_member : List SlotUnit → ℕ → Option Member
updated_member us base =
    if nat_le flash_base base
    then
    option_and_then (member_at (base - flash_base))
    (find (has_member_at (base - flash_base)) us)
    else None

-- the element at a place is moved to the front, and the others keep their order
abbrev pub moved_to_front : {X : Type 0} → List X → ℕ → List X
moved_to_front xs k = take 1 (drop k xs) ++ remove xs k

-- the updated member's unit is moved to the front, and without an updated member the order stays
abbrev pub update_order : List SlotUnit → ℕ → List SlotUnit
update_order us base =
    if nat_le flash_base base
    then option_map_or (moved_to_front us) (position (has_member_at (base - flash_base)) us) us
    else us

-- an address updates nothing where no member starts at it, and the order stays
pub record IsUpdateless (us : List SlotUnit) (base : ℕ) : Type 0 where
  pub order : update_order us base ≡ us
  pub elsewhere : (k : ℕ) (u : SlotUnit) (w : Window) → slice_get us k ≡ Some u → IsMember u w
      → flash_base + w.start ≢ base

-- an address updates the member m, of window w, of the unit u: that window starts at the address,
-- and no member of a unit before u does; then u comes first, and after it the others in their
-- order
pub record IsUpdateOf (us : List SlotUnit) (base : ℕ) (m : Member) (u : SlotUnit)
    (w : Window) : Type 0 where
  pub before : List SlotUnit
  pub after : List SlotUnit
  pub stood : us ≡ before ++ u ∷ after
  pub order : update_order us base ≡ u ∷ before ++ after
  pub window : member_window m u ≡ Some w
  pub pointed : flash_base + w.start ≡ base
  pub first : (k : ℕ) (v : SlotUnit) (x : Window) → slice_get before k ≡ Some v → IsMember v x
      → flash_base + x.start ≢ base
