-- Where a sealed image starts, and which bytes of its binary stay.
use Rattle.std.specs.Prelude.{◌≡◌, ◌⊎◌, ℕ, ◌+◌, ◌-◌, ◌<◌, ◌≤◌, List, find, reverse, None, Some}
use Rattle.pico_board.specs.declared.boot.Cpu.{Cpu}
use Rattle.pico_board.specs.Content.{flash_base}
use Rattle.block_codec.specs.declared.definition.Def.{Def}
use Rattle.block_codec.specs.declared.definition.EntryPoint.{EntryPoint}
use Rattle.image_check.specs.declared.entry.Source.{Source}
use Rattle.image_check.specs.Entering.{IsSource}
use Rattle.image_def.specs.declared.started.Started.{Started}
use Rattle.load_map.specs.declared.load.Load.{Load}
use Rattle.load_map.specs.Given.{load_has_address}

-- a definition keeps the start that another one says: its ENTRY_POINT, and where it has none its
-- VECTOR_TABLE
pub record KeepsStart (own def : Def) : Type 0 where
  pub entry : def.entry_point ≡ own.entry_point
  pub vector : own.entry_point ≡ None → def.vector ≡ own.vector

-- the start that a record says
abbrev pub start_of : Started → EntryPoint
start_of s = record { pc = s.pc; sp = s.sp; limit = s.limit }

-- an image starts as an entry point says
pub record StartsAs (e : EntryPoint) (s : Started) : Type 0 where
  pub pc : s.pc ≡ e.pc
  pub sp : s.sp ≡ e.sp
  pub limit : s.limit ≡ e.limit

-- an image starts as a definition says, with these loads in a window with these bytes: PC, SP and
-- limit are those of the ENTRY_POINT; without an ENTRY_POINT, for Arm PC and SP are the words of
-- the vector table that the VECTOR_TABLE names, or else of the one at the window's start; and for
-- RISC-V the image starts at the window's start
pub record StartsBy (cpu : Cpu) (def : Def) (bytes : List ℕ) (loads : List Load)
    (s : Started) : Type 0 where
  pub source : Source
  pub said : IsSource flash_base bytes cpu def loads def.entry_point source
  pub starts : StartsAs source.entry s

-- the byte at an address comes from this offset of the window: the last load whose runtime range
-- holds the address stores the byte there
pub record IsLoadedFrom (loads : List Load) (address offset : ℕ) : Type 0 where
  pub load : Load
  pub last : find (load_has_address address) (reverse loads) ≡ Some load
  pub start : ℕ
  pub storage : load.storage ≡ Some start
  pub place : offset ≡ start + (address - load.runtime)

-- two ranges of so many bytes share no byte
abbrev pub AreRangesApart : ℕ → ℕ → ℕ → ℕ → Type 0
AreRangesApart x size y other = (x + size ≤ y) ⊎ (y + other ≤ x)

-- sealing leaves the byte at this offset as it is: the byte is one of the first `size` bytes,
-- those of the binary, and none of the four of the link word at `link_at`
pub record Stays (size link_at offset : ℕ) : Type 0 where
  pub inside : offset < size
  pub apart : AreRangesApart offset 1 link_at 4

-- no byte of the vector table at this address is one of the four of the link word at this offset:
-- neither where the table lies in flash, nor where loads store the table
pub record LinkIsOutsideTable (loads : List Load) (table link_at : ℕ) : Type 0 where
  pub flash : AreRangesApart table 8 (flash_base + link_at) 4
  pub loaded : (i offset : ℕ) → i < 8 → IsLoadedFrom loads (table + i) offset
      → AreRangesApart offset 1 link_at 4

-- each byte of the vector table at this address that is loaded comes from the first `size` bytes
abbrev pub TableIsStoredIn : ℕ → List Load → ℕ → Type 0
TableIsStoredIn size loads table =
    (i offset : ℕ) → i < 8 → IsLoadedFrom loads (table + i) offset → offset < size
