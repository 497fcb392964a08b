-- Blocks, and records of images, for worked examples.
use Rattle.std.specs.Prelude.{ℕ, false, pos, negsuc, List, [], ◌∷◌, replicate, Option, Some, None}
use Rattle.std.specs.Result.{result_err}
use Rattle.pico_board.specs.declared.window.Window.{Window}
use Rattle.block_codec.specs.declared.definition.Def.{Def}
use Rattle.block_codec.specs.Blocks.{BlockView}
use Rattle.image_def.specs.declared.fault.DefFault.{DefFault}
use Rattle.image_def.specs.declared.started.Started.{Started}
use Rattle.image_def.specs.Definition.{def_of, no_version}

-- the block of these item words that stands at the window's start and closes a loop of one
abbrev pub block_with : List ℕ → BlockView
block_with items = record { at = 0; items = items; link = pos 0 }

-- the IMAGE_TYPE item of a secure executable for the Arm cores of the RP2350
abbrev pub arm_item : ℕ
arm_item = 0x10210142

-- the IMAGE_TYPE item of an executable for its RISC-V cores
abbrev pub riscv_item : ℕ
riscv_item = 0x11010142

-- the block of an IMAGE_TYPE item for Arm, and then these item words
abbrev pub arm_block : List ℕ → BlockView
arm_block words = block_with (arm_item ∷ words)

-- the first fault of the block of an IMAGE_TYPE item for Arm and then these item words
abbrev pub arm_fault : List ℕ → Option DefFault
arm_fault words = result_err (def_of (arm_block words))

-- a definition of these flags and of so many hashed words, with nothing else that an item says
abbrev pub def_with : ℕ → ℕ → Def
def_with flags hashed = record {
  flags = flags;
  image_word = 1;
  vector = None;
  entry_point = None;
  delta = pos 0;
  map_item = None;
  hash_words = hashed;
  digest = None;
  version = no_version;
  rollback = None;
  rows = record { items = [] };
}

-- what the IMAGE_TYPE item for Arm alone says
abbrev pub arm_def : Def
arm_def = def_with 0x1021 0

-- an image in this window, with its block and its IMAGE_TYPE item at these offsets, that starts at
-- this PC with SP 0x20082000; it names no limit, no version and no rows, and is no trial
abbrev pub started_in : Window → ℕ → ℕ → ℕ → Started
started_in window block image_at pc = record {
  window = window;
  block = block;
  image_at = image_at;
  pc = pc;
  sp = 0x20082000;
  limit = 0;
  version = no_version;
  rollback = None;
  rows = record { items = [] };
  trial = false;
}

-- a block at this offset with this IMAGE_TYPE item and n items of one word that are passed over;
-- it has 20 + 4 * n bytes
abbrev pub padded_block : ℕ → ℕ → ℕ → BlockView
padded_block at image n = record { at = at; items = image ∷ replicate n 0x000001fe; link = pos 0 }

-- the words after the header of a HASH_VALUE item with the bytes 0 to 31
abbrev pub digest_words : List ℕ
digest_words =
    0x03020100 ∷ 0x07060504 ∷ 0x0b0a0908 ∷ 0x0f0e0d0c
    ∷ 0x13121110 ∷ 0x17161514 ∷ 0x1b1a1918 ∷ 0x1f1e1d1c ∷ []

-- the block of an item of each kind: one that is passed over, IMAGE_TYPE with the trial bit,
-- VECTOR_TABLE, ENTRY_POINT with a limit, ROLLING_WINDOW_DELTA, LOAD_MAP, HASH_DEF, VERSION with
-- three rows, and HASH_VALUE; the last one begins at word 21
abbrev pub full_block : BlockView
full_block = block_with (
    0x000001fe ∷ 0x90210142 ∷ 0x00000203 ∷ 0x10000200
    ∷ 0x00000444 ∷ 0x10000301 ∷ 0x20001000 ∷ 0x20000800
    ∷ 0x00000205 ∷ 0xfffff000 ∷ 0x01000406 ∷ 0 ∷ 0x20000000 ∷ 16 ∷ 0x01000247 ∷ 21
    ∷ 0x03000448 ∷ 0x00070009 ∷ 0x00c00048 ∷ 0x0efd00d0 ∷ 0x0000094b ∷ digest_words)

-- the bytes 0 to 31
abbrev pub digest_bytes : List ℕ
digest_bytes =
    0 ∷ 1 ∷ 2 ∷ 3 ∷ 4 ∷ 5 ∷ 6 ∷ 7 ∷ 8 ∷ 9 ∷ 10 ∷ 11 ∷ 12 ∷ 13 ∷ 14 ∷ 15
    ∷ 16 ∷ 17 ∷ 18 ∷ 19 ∷ 20 ∷ 21 ∷ 22 ∷ 23 ∷ 24 ∷ 25 ∷ 26 ∷ 27 ∷ 28 ∷ 29 ∷ 30 ∷ 31 ∷ []

-- what the block of an item of each kind says
abbrev pub full_def : Def
full_def = record {
  flags = 0x9021;
  image_word = 2;
  vector = Some 0x10000200;
  entry_point = Some (record { pc = 0x10000301; sp = 0x20001000; limit = 0x20000800 });
  delta = negsuc 4095;
  map_item = Some 5;
  hash_words = 21;
  digest = Some digest_bytes;
  version = record { major = 7; minor = 9 };
  rollback = Some 72;
  rows = record { items = 0x0c0 ∷ 0x0d0 ∷ 0xefd ∷ [] };
}

-- the rows 0x0c3, 0x0c6 and so on to 0x120 in words, two in each; the last is the 32nd
abbrev pub many_rows : List ℕ
many_rows =
    0x00c600c3 ∷ 0x00cc00c9 ∷ 0x00d200cf ∷ 0x00d800d5 ∷ 0x00de00db ∷ 0x00e400e1 ∷ 0x00ea00e7
    ∷ 0x00f000ed ∷ 0x00f600f3 ∷ 0x00fc00f9 ∷ 0x010200ff ∷ 0x01080105 ∷ 0x010e010b ∷ 0x01140111
    ∷ 0x011a0117 ∷ 0x0120011d ∷ []

-- a HASH_VALUE item of this header with a digest of zeros
abbrev pub value_item : ℕ → List ℕ
value_item header = header ∷ replicate 8 0
