-- The addresses of the RP2350 that a load map speaks of. Source: RP2350 Datasheet, section 2.2,
-- Address map.
use Rattle.std.specs.Prelude.{ℕ, ◌+◌, ◌&&◌, nat_le, nat_lt, Bool}
use Rattle.load_map.specs.declared.addresses.TheConstants.{SRAM_START, SRAM_END}

-- the address is one of SRAM
abbrev pub is_sram : ℕ → Bool
is_sram address = nat_le SRAM_START address && nat_lt address SRAM_END

-- the range of `size` bytes from an address on lies wholly in SRAM; one of no byte may begin at
-- its end
abbrev pub in_sram : ℕ → ℕ → Bool
in_sram address size = nat_le SRAM_START address && nat_le (address + size) SRAM_END
