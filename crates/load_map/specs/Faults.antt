-- The definitions by which laws say when a load is right.
use Rattle.std.specs.Prelude.{◌≡◌, ℕ, ◌+◌, ◌<◌, ◌≤◌, Bool, false, Option, Some}
use Rattle.block_codec.specs.Blocks.{BlockView, block_size}
use Rattle.load_map.specs.declared.addresses.TheConstants.{SRAM_START, SRAM_END}
use Rattle.load_map.specs.declared.load.Load.{Load}

-- the load's storage, in a window seen from `base` on, is seen at the load's runtime address
abbrev pub IsUsedInPlace : ℕ → Option ℕ → ℕ → Type 0
IsUsedInPlace base storage runtime = (x : ℕ) × (storage ≡ Some x) × (runtime ≡ base + x)

-- the load need not be used where it is stored, and lies in SRAM as a whole
abbrev pub IsLoadedToSram : Bool → Load → Type 0
IsLoadedToSram in_place load =
    (in_place ≡ false) × (SRAM_START ≤ load.runtime) × (load.runtime + load.size ≤ SRAM_END)

-- byte k of the window is one of `size` bytes that begin at x, and one of the block
abbrev pub IsShared : BlockView → ℕ → ℕ → ℕ → Type 0
IsShared b x size k = (x ≤ k) × (k < x + size) × (b.at ≤ k) × (k < b.at + block_size b)
