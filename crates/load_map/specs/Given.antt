-- What the bytes of a window and of the SRAM are after an image's load map was obeyed. Source:
-- RP2350 Datasheet, chapter 5, Bootrom, "Load map"; that the last entry decides is this project's
-- own.
use Rattle.std.specs.Prelude.{ℕ, ◌+◌, ◌-◌, ◌&&◌, nat_le, nat_lt, Bool, if◌then◌else◌, List, [], ◌∷◌, length, slice_index, find, reverse, Option, None, Some}
use Rattle.std.specs.Option.{option_map}
use Rattle.block_codec.specs.Words.{word_of}
use Rattle.load_map.specs.Addresses.{is_sram}
use Rattle.load_map.specs.declared.load.Load.{Load}

-- the runtime range of a load holds the address
abbrev pub load_has_address : ℕ → Load → Bool
load_has_address address load = nat_le load.runtime address
    && nat_lt address (load.runtime + load.size)

-- the byte at place k of a load's storage, or 0 for a clear entry
abbrev pub stored_byte : List ℕ → Option ℕ → ℕ → ℕ
stored_byte window None k = 0
stored_byte window (Some x) k = slice_index window (x + k)

-- the byte that a load gives at an address of its runtime range
abbrev pub loaded_byte : List ℕ → ℕ → Load → ℕ
loaded_byte window address load = stored_byte window load.storage (address - load.runtime)

-- the address is one at which a byte of a window of n bytes is seen
abbrev pub in_window : ℕ → ℕ → ℕ → Bool
in_window base n address = nat_le base address && nat_lt address (base + n)

-- the byte at an address: the window's byte where one is seen there; otherwise, in SRAM, the byte
-- of the last load whose runtime range
-- holds the address; and otherwise none
abbrev pub byte_at : ℕ → List ℕ → List Load → ℕ → Option ℕ
byte_at base window loads address =
    if in_window base (length window) address then Some (slice_index window (address - base))
    else (if is_sram address then option_map (loaded_byte window address)
    (find (load_has_address address) (reverse loads)) else None)

-- the word of four bytes, where each of them is given
abbrev pub word_if_given : Option ℕ → Option ℕ → Option ℕ → Option ℕ → Option ℕ
word_if_given (Some a) (Some b) (Some c) (Some d) = Some (word_of (a ∷ b ∷ c ∷ d ∷ []))
word_if_given _ _ _ _ = None

-- the little-endian word at an address, where each of its four bytes is given
abbrev pub given_word : ℕ → List ℕ → List Load → ℕ → Option ℕ
given_word base window loads address =
    word_if_given (byte_at base window loads address) (byte_at base window loads (address + 1))
    (byte_at base window loads (address + 2)) (byte_at base window loads (address + 3))
