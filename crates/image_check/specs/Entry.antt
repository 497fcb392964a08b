-- Where an image starts (RP2350 Datasheet, chapter 5, "Image entry"; the checks on the entry are
-- this project's own where the datasheet is open). Addresses are added without wrapping.
use Rattle.std.specs.Prelude.{ℕ, ◌+◌, ◌-◌, ◌*◌, ◌/◌, Bool, false, not, ◌&&◌, ◌||◌, if◌then◌else◌, nat_lt, nat_le, List, length, Option, Some, None, Result, Ok, Err, unwrap_or}
use Rattle.std.specs.Option.{option_map_or}
use Rattle.pico_board.specs.declared.boot.Cpu.{Cpu}
use Rattle.pico_board.specs.declared.boot.Cpu.TheVariants.{Arm, Riscv}
use Rattle.block_codec.specs.declared.definition.Def.{Def}
use Rattle.block_codec.specs.declared.definition.EntryPoint.{EntryPoint}
use Rattle.block_codec.specs.Blocks.{BlockView, block_size}
use Rattle.load_map.specs.declared.load.Load.{Load}
use Rattle.load_map.specs.declared.addresses.TheConstants.{SRAM_START, SRAM_END}
use Rattle.load_map.specs.Given.{given_word}
use Rattle.image_check.specs.declared.entry.Source.{Source}
use Rattle.image_check.specs.declared.why.EntryFault.{EntryFault}
use Rattle.image_check.specs.declared.why.EntryFault.TheVariants.{Table, InBlock, Pc}

-- PC and SP from the two words at this address, SP first; none where one of their bytes is not
-- given
abbrev pub from_words : ℕ → Option ℕ → Option ℕ → Result Source EntryFault
from_words table (Some sp) (Some pc) =
    Ok (record { entry = record { pc = pc; sp = sp; limit = 0 }; table = Some table })
from_words table (Some sp) None = Err Table
from_words table None pc = Err Table

-- the vector table of an image whose window begins at base
abbrev pub from_table : ℕ → List ℕ → List Load → ℕ → Result Source EntryFault
from_table base bytes loads table =
    from_words table (given_word base bytes loads table) (given_word base bytes loads (table + 4))

-- an ENTRY_POINT item; or else for Arm the vector table, and for RISC-V the window's start
abbrev pub source_of : ℕ → List ℕ → Cpu → Def → List Load → Option EntryPoint
    → Result Source EntryFault
source_of base bytes cpu def loads (Some entry) = Ok (record { entry = entry; table = None })
source_of base bytes Arm def loads None = from_table base bytes loads (unwrap_or def.vector base)
source_of base bytes Riscv def loads None =
    Ok (record { entry = record { pc = base; sp = SRAM_END; limit = 0 }; table = None })

-- two ranges of addresses share one
abbrev pub is_shared : ℕ → ℕ → ℕ → ℕ → Bool
is_shared at size other other_size = nat_lt at (other + other_size) && nat_lt other (at + size)

-- an address in a range
abbrev pub is_within : ℕ → ℕ → ℕ → Bool
is_within address at size = nat_le at address && nat_lt address (at + size)

-- the address that PC names, whose bit 0 only tells the instruction set
abbrev pub code_address : ℕ → ℕ
code_address pc = 2 * (pc / 2)

-- the first code address lies in the definition's block, or the vector table shares a byte with it
abbrev pub is_in_block : ℕ → BlockView → Source → Bool
is_in_block base b source =
    option_map_or (λ table. is_shared table 8 (base + b.at) (block_size b)) source.table false
    || is_within (code_address source.entry.pc) (base + b.at) (block_size b)

-- the first code address lies in the window or in SRAM
abbrev pub is_runnable : ℕ → ℕ → Source → Bool
is_runnable base size source =
    is_within (code_address source.entry.pc) base size
    || is_within (code_address source.entry.pc) SRAM_START (SRAM_END - SRAM_START)

-- the fault of a found entry
abbrev pub judged_source : ℕ → ℕ → BlockView → Source → Result EntryPoint EntryFault
judged_source base size b source =
    if is_in_block base b source then Err InBlock
    else if not (is_runnable base size source) then Err Pc
    else Ok source.entry

abbrev pub judged_sources : ℕ → ℕ → BlockView → Result Source EntryFault
    → Result EntryPoint EntryFault
judged_sources base size b (Err fault) = Err fault
judged_sources base size b (Ok source) = judged_source base size b source

-- the entry of the image that block b defines in a window of these bytes, or its first fault
abbrev pub entry_of : ℕ → List ℕ → Cpu → BlockView → Def → List Load → Result EntryPoint EntryFault
entry_of base bytes cpu b def loads =
    judged_sources base (length bytes) b (source_of base bytes cpu def loads def.entry_point)
