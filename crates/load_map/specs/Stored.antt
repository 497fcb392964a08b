-- Loads that lie in a window and do not share a byte with a block. A load map without a fault has
-- such loads, and reading the loads asks for such ones.
use Rattle.std.specs.Prelude.{◌⊎◌, ◌≡◌, ℕ, ◌+◌, ◌≤◌, true, List, Option, None, Some}
use Rattle.std.specs.List.{AllByRecursion}
use Rattle.block_codec.specs.Blocks.{BlockView, block_size}
use Rattle.load_map.specs.Reading.{is_runtime_right}
use Rattle.load_map.specs.declared.setting.Setting.{Setting}
use Rattle.load_map.specs.declared.load.Load.{Load}

-- a storage of this size lies in a window of n bytes; a clear entry has none
abbrev pub IsStoredIn : ℕ → Option ℕ → ℕ → Type 0
IsStoredIn n None size = Unit {0}
IsStoredIn n (Some x) size = x + size ≤ n

-- the storage of each load lies in a window of n bytes
abbrev pub AreStoredIn : ℕ → List Load → Type 0
AreStoredIn n loads = AllByRecursion (λ (load : Load). IsStoredIn n load.storage load.size) loads

-- a storage of this size shares no byte with the block: it is empty, ends before the block or
-- begins after it
abbrev pub IsClearOf : BlockView → Option ℕ → ℕ → Type 0
IsClearOf b None size = Unit {0}
IsClearOf b (Some x) size = (size ≡ 0) ⊎ (x + size ≤ b.at) ⊎ (b.at + block_size b ≤ x)

-- no load's storage shares a byte with the block
abbrev pub AreClearOf : BlockView → List Load → Type 0
AreClearOf b loads = AllByRecursion (λ (load : Load). IsClearOf b load.storage load.size) loads

-- each load is used where it is stored, or lies in SRAM as a whole where that is allowed
abbrev pub AreRuntimeRight : Setting → List Load → Type 0
AreRuntimeRight s loads = AllByRecursion (λ (load : Load). is_runtime_right s load ≡ true) loads
