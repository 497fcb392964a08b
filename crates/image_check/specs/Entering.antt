-- Where an image starts, in the words of the rules (RP2350 Datasheet, chapter 5, "Image entry"; the
-- checks on the entry are this project's own where the datasheet is open). Addresses are added
-- without wrapping.
use Rattle.std.specs.Prelude.{◌≡◌, ◌⊎◌, ℕ, ◌+◌, ◌-◌, ◌<◌, ◌≤◌, List, length, Option, Some, None, unwrap_or}
use Rattle.pico_board.specs.declared.boot.Cpu.{Cpu}
use Rattle.pico_board.specs.declared.boot.Cpu.TheVariants.{Arm, Riscv}
use Rattle.block_codec.specs.declared.definition.Def.{Def}
use Rattle.block_codec.specs.declared.definition.EntryPoint.{EntryPoint}
use Rattle.block_codec.specs.Blocks.{BlockView, block_size}
use Rattle.load_map.specs.declared.load.Load.{Load}
use Rattle.load_map.specs.declared.addresses.TheConstants.{SRAM_START, SRAM_END}
use Rattle.load_map.specs.Given.{byte_at, given_word}
use Rattle.image_check.specs.declared.why.EntryFault.{EntryFault}
use Rattle.image_check.specs.declared.why.EntryFault.TheVariants.{Table, InBlock, Pc}
use Rattle.image_check.specs.declared.entry.Source.{Source}
use Rattle.image_check.specs.Entry.{code_address}

-- an address in a range
abbrev pub IsAddressIn : ℕ → ℕ → ℕ → Type 0
IsAddressIn address at size = (at ≤ address) × (address < at + size)

-- SP and PC are the two words at the table's address, SP first, and the limit is 0
pub record IsTabled (base : ℕ) (bytes : List ℕ) (loads : List Load) (table : ℕ)
    (source : Source) : Type 0 where
  pub sp : given_word base bytes loads table ≡ Some source.entry.sp
  pub pc : given_word base bytes loads (table + 4) ≡ Some source.entry.pc
  pub limit : source.entry.limit ≡ 0
  pub from : source.table ≡ Some table

-- the address of an Arm image's vector table: that of its VECTOR_TABLE item, or the window's first
abbrev pub table_address : ℕ → Def → ℕ
table_address base def = unwrap_or def.vector base

-- where PC, SP and the limit come from. An ENTRY_POINT item gives them. Without one Arm takes PC
-- and SP from the vector table, and RISC-V starts at the window's first byte with SP at SRAM's end
abbrev pub IsSource : ℕ → List ℕ → Cpu → Def → List Load → Option EntryPoint → Source → Type 0
IsSource base bytes cpu def loads (Some entry) source =
    source ≡ record { entry = entry; table = None }
IsSource base bytes Arm def loads None source =
    IsTabled base bytes loads (table_address base def) source
IsSource base bytes Riscv def loads None source =
    source ≡ record { entry = record { pc = base; sp = SRAM_END; limit = 0 }; table = None }

-- PC and SP come from the vector table, and one of its eight bytes is not given
pub record LacksTable (base : ℕ) (bytes : List ℕ) (cpu : Cpu) (def : Def)
    (loads : List Load) : Type 0 where
  pub no_item : def.entry_point ≡ None
  pub processor : cpu ≡ Arm
  pub place : ℕ
  pub inside : place < 8
  pub not_given : byte_at base bytes loads (table_address base def + place) ≡ None

-- the vector table shares a byte with the definition's block, or the first code address lies in it
abbrev pub MeetsBlock : ℕ → BlockView → Source → Type 0
MeetsBlock base b source =
    ((table : ℕ) × (address : ℕ) × (source.table ≡ Some table) × IsAddressIn address table 8
    × IsAddressIn address (base + b.at) (block_size b))
    ⊎ IsAddressIn (code_address source.entry.pc) (base + b.at) (block_size b)

-- the first code address lies in the window or in SRAM
abbrev pub IsRunnable : ℕ → ℕ → Source → Type 0
IsRunnable base n source =
    IsAddressIn (code_address source.entry.pc) base n
    ⊎ IsAddressIn (code_address source.entry.pc) SRAM_START (SRAM_END - SRAM_START)

-- the entry is found and is right
pub record IsEntry (base : ℕ) (bytes : List ℕ) (cpu : Cpu) (b : BlockView) (def : Def)
    (loads : List Load) (entry : EntryPoint) : Type 0 where
  pub source : Source
  pub found : IsSource base bytes cpu def loads def.entry_point source
  pub apart : MeetsBlock base b source → ⊥
  pub runs : IsRunnable base (length bytes) source
  pub is : entry ≡ source.entry

-- the first fault of an entry
abbrev pub IsEntryFault : ℕ → List ℕ → Cpu → BlockView → Def → List Load → EntryFault → Type 0
IsEntryFault base bytes cpu b def loads Table = LacksTable base bytes cpu def loads
IsEntryFault base bytes cpu b def loads InBlock =
    (source : Source) × IsSource base bytes cpu def loads def.entry_point source
    × MeetsBlock base b source
IsEntryFault base bytes cpu b def loads Pc =
    (source : Source) × IsSource base bytes cpu def loads def.entry_point source
    × (MeetsBlock base b source → ⊥) × (IsRunnable base (length bytes) source → ⊥)
