-- The map of a flash, as rules.
use Rattle.std.specs.Prelude.{◌≡◌, ◌↔◌, ℕ, ◌<◌, ◌≤◌, false, All, IsTrue, length, map, Option, Some, None, Result}
use Rattle.std.specs.List.{AllByRecursion}
use Rattle.pico_board.specs.declared.boot.Cpu.{Cpu}
use Rattle.pico_board.specs.declared.boot.BootKind.TheVariants.{Normal}
use Rattle.pico_board.specs.declared.window.Window.{Window}
use Rattle.pico_board.specs.Content.{Content}
use Rattle.image_def.specs.declared.started.Started.{Started}
use Rattle.image_check.specs.declared.why.Why.{Why}
use Rattle.otp_roll.specs.Flags.{slot_size}
use Rattle.part_table.specs.declared.table.Table.{Table}
use Rattle.part_table.specs.Fields.{link_type, link_value}
use Rattle.part_table.specs.Partitions.{part_at}
use Rattle.part_table.specs.Sound.{IsSoundFor}
use Rattle.slot_choice.specs.declared.unit.Member.{Member}
use Rattle.slot_choice.specs.declared.unit.Member.TheVariants.{A, B}
use Rattle.boot_rules.specs.declared.decision.Decision.{Decision}
use Rattle.boot_rules.specs.declared.decision.Decision.TheVariants.{Start, Bootsel}
use Rattle.boot_rules.specs.Chosen.{Chosen}
use Rattle.boot_rules.specs.Tables.{table_of_content}
use Rattle.boot_reasons.specs.LookRules.{IsImageReported}
use Rattle.boot_rules.specs.TableRules.{IsSlotAnswer}
use Rattle.boot_reasons.specs.SlotRules.{IsTableInForce}
use Rattle.boot_map.specs.declared.maps.FlashMap.{FlashMap}
use Rattle.boot_map.specs.declared.maps.MapRow.{MapRow}
use Rattle.boot_map.specs.declared.maps.Pairing.{Pairing}
use Rattle.boot_map.specs.declared.places.MapPlace.{MapPlace}
use Rattle.boot_map.specs.declared.places.MapPlace.TheVariants.{Slot, Partition as Part, Whole, Free}
use Rattle.boot_map.specs.Maps.{table_of_map}
use Rattle.boot_map.specs.WindowRules.{AreSideBySide, IsRead, IsWindowOf}

-- a row has no image for a slot where there is a table, and for a free stretch
abbrev pub IsBare : Option Table → MapPlace → Type 0
IsBare None (Slot number) = ⊥
IsBare (Some t) (Slot number) = Unit {0}
IsBare t (Part i) = ⊥
IsBare t Whole = ⊥
IsBare t Free = Unit {0}

-- for another window a row has its image, or the first rule that it fails, trial not allowed
abbrev pub IsRowImage : Content → Cpu → Option Table → MapPlace → Window
    → Option (Result Started Why) → Type 0
IsRowImage c cpu t place w None = IsBare t place
IsRowImage c cpu t place w (Some image) = (IsBare t place → ⊥) × IsImageReported c cpu w false image

-- a and b are a pair of A and B: partition b has the link "A is a", or without a table they are
-- slot 0 and slot 1
abbrev pub ArePair : Option Table → ℕ → ℕ → Type 0
ArePair None a b = (a ≡ 0) × (b ≡ 1)
ArePair (Some t) a b =
    (b < length t.parts.items) × (link_type (part_at t.parts.items b) ≡ 1)
    × (link_value (part_at t.parts.items b) ≡ a)

-- a window is what may be a member of a pair, by its number: a partition where there is a table, a
-- slot where there is none
abbrev pub IsNumbered : Option Table → MapPlace → ℕ → Type 0
IsNumbered None place k = place ≡ Slot k
IsNumbered (Some t) place k = place ≡ Part k

-- k is this member of a pair whose other member is j
abbrev pub IsMemberWith : Option Table → Member → ℕ → ℕ → Type 0
IsMemberWith t A k j = ArePair t k j
IsMemberWith t B k j = ArePair t j k

-- a window is a member of a pair, and the row names the other member; or the window is a member of
-- no pair
abbrev pub IsPairing : Option Table → MapPlace → Option Pairing → Type 0
IsPairing t place None =
    (m : Member) (k j : ℕ) → IsNumbered t place k → IsMemberWith t m k j → ⊥
IsPairing t place (Some pair) =
    (k : ℕ) × IsNumbered t place k × IsMemberWith t pair.member k pair.other

-- a decision starts the image of a window
abbrev pub DoesStart : Decision → Window → Type 0
DoesStart (Start choice) w = choice.image.window ≡ w
DoesStart (Bootsel fall) w = ⊥

-- a row has a window, its image, its pair, and whether the decision starts it
pub record IsRow (c : Content) (cpu : Cpu) (t : Option Table) (d : Decision)
    (row : MapRow) : Type 0 where
  pub window : IsWindowOf t (length c.flash) (slot_size c.otp (length c.flash)) row.place row.window
  pub image : IsRowImage c cpu t row.place row.window row.image
  pub pair : IsPairing t row.place row.pair
  pub starts : IsTrue row.starts ↔ DoesStart d row.window

-- a map has the decision of a normal boot; what each table slot has or lacks; whose table is that
-- of the flash and why; and windows that lie side by side from the flash's first byte to its last,
-- each with its row
pub record IsMap (c : Content) (cpu : Cpu) (m : FlashMap) : Type 0 where
  pub decision : Chosen c cpu Normal m.decision
  pub first : IsSlotAnswer c 0 m.first
  pub second : IsSlotAnswer c 1 m.second
  pub table : IsTableInForce c m.table
  pub side_by_side : AreSideBySide 0 (length c.flash) (map (λ r. r.window) m.rows.items)
  pub rows : AllByRecursion (IsRow c cpu (table_of_content c) m.decision) m.rows.items

-- what can be read of a map of a flash of n bytes: its table, if there is one, is sound for the
-- flash; each row's window is at least one byte of the flash; a slot is 0 or 1, and a partition is
-- one of the table
pub record IsReadableMap (m : FlashMap) (n : ℕ) : Type 0 where
  pub sound : IsSoundFor (table_of_map m) n
  pub rows : All (λ r. IsRead (table_of_map m) n r.place r.window) m.rows.items
  pub few : length m.rows.items ≤ 33
