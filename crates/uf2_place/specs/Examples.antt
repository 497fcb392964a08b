-- Worked examples of blocks and of downloads, with their answers worked out by hand from the
-- rules.
use Rattle.std.specs.Prelude.{ℕ, Bool, false, List, [], ◌∷◌, ◌++◌, None, replicate}
use Rattle.std.specs.List.{flat_map}
use Rattle.part_table.specs.declared.Target.{Target}
use Rattle.uf2_place.specs.declared.block.Uf2.{Uf2}
use Rattle.uf2_place.specs.declared.current.Current.{Current}
use Rattle.uf2_place.specs.Blocks.{word_bytes}

-- a block of rp2350-arm-s, one of three, by its number, its address and its page
abbrev pub arm_uf2_block : ℕ → ℕ → List ℕ → Uf2
arm_uf2_block number address page = record {
  flags = 0x2000;
  address = address;
  number = number;
  count = 3;
  family = 0xe48bff59;
  page = page;
}

-- the 512 bytes of a block of rp2350-arm-s of this payload size, address, number and count; its
-- payload is of bytes 0
abbrev pub uf2_bytes : ℕ → ℕ → ℕ → ℕ → List ℕ
uf2_bytes payload address number count =
    flat_map word_bytes
    (0x0a324655 ∷ 0x9e5d5157 ∷ 0x2000 ∷ address ∷ payload ∷ number ∷ count ∷ 0xe48bff59 ∷ [])
    ++ (replicate 476 0 ++ word_bytes 0x0ab16f30)

-- a block of the absolute family, one of two
abbrev pub absolute_block : ℕ → Uf2
absolute_block address = record {
  flags = 0x2000;
  address = address;
  number = 0;
  count = 2;
  family = 0xe48bff57;
  page = [];
}

-- a block of these flags
abbrev pub flagged_block : ℕ → Uf2
flagged_block flags = record {
  flags = flags;
  address = 0x10000000;
  number = 0;
  count = 3;
  family = 0xe48bff59;
  page = [];
}

-- sectors 32 to 61 as a target
abbrev pub slot_target : Bool → Target
slot_target gated = record {
  window = record { start = 0x20000; len = 0x1e000 };
  gated = gated;
  stay = false;
}

-- sectors 2 to 31 as a target that is not gated
abbrev pub first_slot : Target
first_slot = record {
  window = record { start = 0x2000; len = 0x1e000 };
  gated = false;
  stay = false;
}

-- a download of arm blocks into that slot
abbrev pub arm_download : Bool → Current
arm_download gated = record {
  family = 0xe48bff59;
  count = 3;
  target = slot_target gated;
  left = 2;
  held = None;
}
