-- The windows of a flash by what they are, as rules.
use Rattle.std.specs.Prelude.{◌≡◌, ◌⊎◌, ℕ, ◌+◌, ◌-◌, ◌*◌, ◌/◌, ◌%◌, ◌<◌, ◌≤◌, true, false, All, List, [], ◌∷◌, length, map, Option}
use Rattle.std.specs.List.{AllByRecursion}
use Rattle.pico_board.specs.declared.window.Window.{Window}
use Rattle.part_table.specs.declared.partition.Partition.{Partition}
use Rattle.part_table.specs.declared.table.Table.{Table}
use Rattle.part_table.specs.Fields.{first_sector}
use Rattle.part_table.specs.Partitions.{part_at}
use Rattle.part_table.specs.Sound.{IsSoundFor}
use Rattle.part_table.specs.Windows.{part_window}
use Rattle.boot_rules.specs.Tables.{slot_window}
use Rattle.boot_map.specs.declared.places.MapWindow.{MapWindow}
use Rattle.boot_map.specs.declared.places.MapPlace.{MapPlace}
use Rattle.boot_map.specs.declared.places.MapPlace.TheVariants.{Slot, Partition as Part, Whole, Free}
use Rattle.boot_map.specs.Windows.{has_slots, parts_of, window_end}

-- a sector lies in a window
abbrev pub WindowHasSector : Window → ℕ → Type 0
WindowHasSector w s = (w.start ≤ 4096 * s) × (4096 * s < window_end w)

-- a sector lies in slot 0, in slot 1 or in a partition
abbrev pub IsTakenSector : List Partition → ℕ → ℕ → Type 0
IsTakenSector parts z s =
    WindowHasSector (slot_window z 0) s
    ⊎ WindowHasSector (slot_window z 1) s
    ⊎ ((i : ℕ) × (i < length parts) × WindowHasSector (part_window (part_at parts i)) s)

-- a window is a free stretch of a flash of so many sectors: as many sectors, one after the other,
-- as lie in no slot and no partition. So it has at least one sector. On each side it ends at the
-- flash's end or at a sector that is taken.
pub record IsFreeStretch (parts : List Partition) (z sectors : ℕ) (w : Window) : Type 0 where
  pub first : ℕ
  pub count : ℕ
  pub window : w ≡ record { start = 4096 * first; len = 4096 * count }
  pub some : 1 ≤ count
  pub inside : first + count ≤ sectors
  pub free : (s : ℕ) → first ≤ s → s < first + count → IsTakenSector parts z s → ⊥
  pub before : (first ≡ 0) ⊎ IsTakenSector parts z (first - 1)
  pub behind : (first + count ≡ sectors) ⊎ IsTakenSector parts z (first + count)

-- the window is right for what it is said to be, in a flash of n bytes with slots of z bytes, with
-- or without a table: slot 0 or 1, or a free stretch, where there is a table or the slot size is
-- above 4096; a partition of the table; otherwise the whole flash
abbrev pub IsWindowOf : Option Table → ℕ → ℕ → MapPlace → Window → Type 0
IsWindowOf t n z (Slot number) w =
    (has_slots t z ≡ true) × (number < 2) × (w ≡ slot_window z number)
IsWindowOf t n z (Part i) w =
    (i < length (parts_of t)) × (w ≡ part_window (part_at (parts_of t) i))
IsWindowOf t n z Whole w = (has_slots t z ≡ false) × (w ≡ record { start = 0; len = n })
IsWindowOf t n z Free w =
    (has_slots t z ≡ true) × IsFreeStretch (parts_of t) z (n / 4096) w

-- windows lie side by side from one offset to another
abbrev pub AreSideBySide : ℕ → ℕ → List Window → Type 0
AreSideBySide at end [] = at ≡ end
AreSideBySide at end (w ∷ ws) = (w.start ≡ at) × AreSideBySide (window_end w) end ws

-- these are the windows of a flash: they lie side by side from its first byte to its last; each is
-- right for what it is said to be
pub record AreMapWindows (t : Option Table) (n z : ℕ) (windows : List MapWindow) : Type 0 where
  pub side_by_side : AreSideBySide 0 n (map (λ m. m.window) windows)
  pub right : AllByRecursion (λ m. IsWindowOf t n z m.place m.window) windows

-- a flash of n bytes has whole sectors and two slots of z bytes, of whole sectors too; a table is
-- sound for the flash, and its partitions begin after both slots
pub record IsMappable (t : Option Table) (n z : ℕ) : Type 0 where
  pub whole : n % 4096 ≡ 0
  pub slots : z % 4096 ≡ 0
  pub least : 4096 ≤ z
  pub fits : 2 * z ≤ n
  pub sound : IsSoundFor t n
  pub behind : All (λ p. 2 * z ≤ 4096 * first_sector p) (parts_of t)

-- a slot is 0 or 1, and a partition is one of the table
abbrev pub IsListed : Option Table → MapPlace → Type 0
IsListed t (Slot number) = number < 2
IsListed t (Part i) = i < length (parts_of t)
IsListed t Whole = Unit {0}
IsListed t Free = Unit {0}

-- a window stands inside a flash of n bytes, has at least one byte, and is listed
pub record IsRead (t : Option Table) (n : ℕ) (p : MapPlace) (w : Window) : Type 0 where
  pub some : 1 ≤ w.len
  pub inside : window_end w ≤ n
  pub listed : IsListed t p
