-- The SRAM that a host writes (RP2350 Datasheet, section 2.2, Address map).
use Rattle.std.specs.Prelude.{◌≡◌, ℕ, ◌+◌, ◌-◌, ◌<◌, List, [], ◌∷◌, ◌++◌, All, length, replicate, take, drop}
use Rattle.load_map.specs.declared.addresses.TheConstants.{SRAM_START}

-- the SRAM with all bytes 0
unfoldable pub zero_ram : List ℕ
zero_ram = replicate 532480 0

-- the SRAM is so many bytes
pub record IsSram (ram : List ℕ) : Type 0 where
  pub long : length ram ≡ 532480
  pub bytes : All (λ b. b < 256) ram

-- the bytes are stored at an offset
abbrev pub with_bytes_at : List ℕ → ℕ → List ℕ → List ℕ
with_bytes_at ram at bytes = take at ram ++ (bytes ++ drop (at + length bytes) ram)

-- a write: the address of its first byte, and its bytes
pub record RamWrite : Type 0 where
  pub address : ℕ
  pub bytes : List ℕ

-- the SRAM after one more write
abbrev pub written_ram : List ℕ → RamWrite → List ℕ
written_ram ram w = with_bytes_at ram (w.address - SRAM_START) w.bytes

-- the SRAM after these writes, in order; and below, the SRAM after them where it was of zeros
-- before
abbrev pub written_all : List ℕ → List RamWrite → List ℕ
written_all ram [] = ram
written_all ram (w ∷ ws) = written_all (written_ram ram w) ws

abbrev pub ram_after : List RamWrite → List ℕ
ram_after writes = written_all zero_ram writes
