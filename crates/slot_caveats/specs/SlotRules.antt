-- What stands in the table slots, which the model takes otherwise than the chip may, as rules.
use Rattle.std.specs.Prelude.{◌≡◌, ◌≢◌, ◌⊎◌, ℕ, ◌<◌, pos, Bool, true, false, List, length, Contains, slice_get, Some, Result, Err}
use Rattle.pico_board.specs.declared.window.Window.{Window}
use Rattle.pico_board.specs.declared.window.TheConstants.{MOST_FLASH_BYTES, SMALLEST_SLOT}
use Rattle.pico_board.specs.Content.{Content, window_bytes}
use Rattle.block_codec.specs.declared.items.Item.{Item}
use Rattle.block_codec.specs.declared.kinds.TheConstants.{PARTITION_TABLE}
use Rattle.block_codec.specs.Blocks.{BlockAt, BlockView}
use Rattle.block_codec.specs.Items.{items_of}
use Rattle.block_codec.specs.Kinds.{is_of_kind}
use Rattle.block_loop.specs.declared.fault.LoopFault.TheVariants.{Broken}
use Rattle.block_loop.specs.Loop.{IsLoop, IsLoopFault, target}
use Rattle.image_check.specs.Valid.{IsLastWith}
use Rattle.part_table.specs.declared.table.Table.{Table}
use Rattle.part_table.specs.declared.table.TableFault.TheVariants.{Range, Hash}
use Rattle.part_table.specs.TableOf.{has_table}
use Rattle.boot_rules.specs.declared.slots.SlotFault.{SlotFault}
use Rattle.boot_rules.specs.declared.slots.SlotFault.TheVariants.{Table as Faulty}
use Rattle.boot_rules.specs.declared.tables.Found.{Found}
use Rattle.boot_rules.specs.TableRules.{IsTableIn}
use Rattle.boot_rules.specs.Tables.{slot_window}
use Rattle.slot_caveats.specs.declared.caveat.Caveat.{Caveat}
use Rattle.slot_caveats.specs.declared.caveat.Caveat.TheVariants.{ImageInSlot, SlotEnd, FaultyTable, TableOrder}
use Rattle.slot_caveats.specs.Listing.{AreBoth, IsOfOne, IsWhere}
use Rattle.slot_caveats.specs.SlotCaveats.{flash_from, is_executable}

-- the content has a table
abbrev pub HasTable : Content → Type 0
HasTable c = (found : Found) × IsTableIn c found

-- b is the last block that passes a test of the loop of a window with these bytes
pub record IsLastWhere (passes : BlockView → Bool) (bytes : List ℕ) (b : BlockView) : Type 0 where
  pub loop : List BlockView
  pub closes : IsLoop bytes loop
  pub last : IsLastWith passes loop b

-- the loop of these bytes closes, and a block of it is executable
pub record HasExecutable (bytes : List ℕ) : Type 0 where
  pub loop : List BlockView
  pub block : BlockView
  pub closes : IsLoop bytes loop
  pub among : Contains loop block
  pub runs : is_executable block ≡ true

-- there is a table, and the loop of a slot's window, or that of the flash's bytes from the slot's
-- start on, closes and has an executable block
abbrev pub IsImageInSlot : Content → ℕ → Window → List Caveat → Type 0
IsImageInSlot c number w =
    IsWhere
    (HasTable c × (HasExecutable (window_bytes c w)
    ⊎ HasExecutable (window_bytes c (flash_from c w.start))))
    (ImageInSlot number)

-- the loop of a slot's bytes has the fault Broken(at), and where the link of the block at this
-- offset leads a whole block stands in the flash's bytes from the slot's start on
pub record GoesOnBehind (bytes more : List ℕ) (at : ℕ) : Type 0 where
  pub last : BlockView
  pub next : BlockView
  pub broken : IsLoopFault bytes (Broken at)
  pub here : BlockAt bytes at last
  pub leads : target last ≡ pos next.at
  pub stands : BlockAt more next.at next

-- there is no table, a slot is above the smallest size, and the flash goes on so behind it
abbrev pub IsSlotEnd : Content → Window → List Caveat → Type 0
IsSlotEnd c w =
    IsOfOne
    (λ at. (HasTable c → ⊥) × (SMALLEST_SLOT < w.len)
    × GoesOnBehind (window_bytes c w) (window_bytes c (flash_from c w.start)) at)
    (SlotEnd w)

-- the last block with a PARTITION_TABLE item of a slot's loop has this fault, which is not that of
-- its digest, and there is no caveat of a flash that is shorter than 16 MiB
abbrev pub IsTableFault : ℕ → ℕ → Result Table SlotFault → List Caveat → Type 0
IsTableFault n number answer =
    IsOfOne
    (λ fault. (answer ≡ Err (Faulty fault)) × (fault ≢ Hash)
    × ((i : ℕ) → fault ≡ Range i → n < MOST_FLASH_BYTES → ⊥))
    (FaultyTable number)

-- the last block with a PARTITION_TABLE item of the loop of these bytes begins with another item
pub record HasOtherOrder (bytes : List ℕ) : Type 0 where
  pub block : BlockView
  pub table : IsLastWhere has_table bytes block
  pub order : (item : Item) → slice_get (items_of block.items) 0 ≡ Some item
      → is_of_kind PARTITION_TABLE item ≡ false

abbrev pub IsTableOrder : Content → ℕ → Window → List Caveat → Type 0
IsTableOrder c number w = IsWhere (HasOtherOrder (window_bytes c w)) (TableOrder number)

-- slot 0, and then slot 1, of this size
abbrev pub AreOfSlots : ℕ → (ℕ → Window → List Caveat → Type 0) → List Caveat → Type 0
AreOfSlots size Is = AreBoth (Is 0 (slot_window size 0)) (Is 1 (slot_window size 1))

-- what stands in the slots
abbrev pub AreSlotCaveats : Content → ℕ → Result Table SlotFault → Result Table SlotFault
    → List Caveat → Type 0
AreSlotCaveats c size first second =
    AreBoth (AreOfSlots size (IsImageInSlot c))
    (AreBoth (AreOfSlots size (λ number. IsSlotEnd c))
    (AreBoth (IsTableFault (length c.flash) 0 first)
    (AreBoth (IsTableFault (length c.flash) 1 second) (AreOfSlots size (IsTableOrder c)))))
