-- A binary and specs that stand as worked examples.
use Rattle.std.specs.Prelude.{ℕ, ◌+◌, Bool, List, [], ◌∷◌, ◌++◌, Option, Some, replicate, pos}
use Rattle.pico_board.specs.declared.boot.Cpu.{Cpu}
use Rattle.pico_board.specs.declared.window.Window.{Window}
use Rattle.block_codec.specs.Blocks.{BlockView, frame}
use Rattle.block_codec.specs.Words.{bytes_of}
use Rattle.image_def.specs.declared.started.Started.{Started}
use Rattle.image_def.specs.Examples.{started_in}
use Rattle.load_map.specs.declared.load.Load.{Load}
use Rattle.image_pack.specs.declared.parts.Parts.{Parts}
use Rattle.image_pack.specs.declared.spec.SealSpec.{SealSpec}

-- the minimal image for Arm: SP and PC, and its block at 0x114
abbrev pub least_image : List ℕ
least_image =
    bytes_of (0x20082000 ∷ 0x10000201 ∷ replicate 67 0xffffffff ++ frame (0x10210142 ∷ []) (pos 0))

-- the minimal image for Arm sealed with version 1.9: its first block links to the new one at
-- 0x128, and the new one back to the first
abbrev pub least_sealed : List ℕ
least_sealed =
    bytes_of (0x20082000 ∷ 0x10000201 ∷ replicate 67 0xffffffff
    ++ frame (0x10210142 ∷ []) (pos 0x14)
    ++ (0xffffded3 ∷ 0x10210142 ∷ 0x00000248 ∷ 0x00010009 ∷ 0x01000406 ∷ 0xfffffec8 ∷ 0x10000000
    ∷ 0x128 ∷ 0x01000247 ∷ 0x0000000a ∷ 0x0000094b ∷ 0xeda62c5f ∷ 0x61a08060 ∷ 0xa84474d8
    ∷ 0x44daa3aa ∷ 0x129c6b06 ∷ 0xaf45aed2 ∷ 0x3a33ea57 ∷ 0x8e4c4aff ∷ 0x000012ff ∷ 0xffffffec
    ∷ 0xab123579 ∷ []))

-- an erased sector
abbrev pub erased_sector : List ℕ
erased_sector = replicate 4096 255

-- a window of this length at the start of the flash
abbrev pub window_of_length : ℕ → Window
window_of_length len = record { start = 0; len = len }

-- the record of an image in such a window; it starts by the two words of this vector table, and
-- its definition stands at this offset and says this version
abbrev pub table_record : ℕ → ℕ → ℕ → ℕ → Started
table_record len block major minor =
    record (started_in (window_of_length len) block (block + 4) 0x10000201) {
      version = record { major = major; minor = minor };
    }

-- an image for Arm whose vector table is loaded to the start of SRAM: the table is its first eight
-- bytes, and its block at 8 has a VECTOR_TABLE and a LOAD_MAP item
abbrev pub loaded_image : List ℕ
loaded_image =
    bytes_of (0x20082000 ∷ 0x10000201 ∷ frame (0x10210142 ∷ 0x00000203 ∷ 0x20000000 ∷ 0x01000406
    ∷ 0xffffffe8 ∷ 0x20000000 ∷ 8 ∷ []) (pos 0))

-- a spec of version 1.9
abbrev pub spec_of : Cpu → Bool → Option ℕ → List ℕ → SealSpec
spec_of cpu trial rollback rows = record {
  cpu = cpu;
  version = record { major = 1; minor = 9 };
  rollback = rollback;
  rows = record { items = rows };
  trial = trial;
}

-- a load of eight bytes that are stored at this offset, to the start of SRAM
abbrev pub eight_bytes : ℕ → Load
eight_bytes storage = record { storage = Some storage; runtime = 0x20000000; size = 8 }

-- a load of four bytes
abbrev pub four_bytes : Option ℕ → ℕ → Load
four_bytes storage runtime = record { storage = storage; runtime = runtime; size = 4 }

-- parts of a binary: its first block, its last block and the link word of the last block stand at
-- these offsets; it has no entry point of its own, and these are its loads
abbrev pub parts_at : ℕ → ℕ → ℕ → List Load → Parts
parts_at first last link_at loads = record {
  first = first;
  last = last;
  link_at = link_at;
  entry = record { items = [] };
  loads = record { items = loads };
}

-- a block of one item word that stands here
abbrev pub one_item : ℕ → BlockView
one_item at = record { at = at; items = 0x10210142 ∷ []; link = pos 0 }

-- a block of these item words that stands at 0x40
abbrev pub block_at_40 : List ℕ → BlockView
block_at_40 items = record { at = 0x40; items = items; link = pos 0 }

-- a record of an image that starts with this PC, SP and limit
abbrev pub started_at : ℕ → ℕ → ℕ → Started
started_at pc sp limit = record (started_in (record { start = 0; len = 4096 }) 8 12 pc) {
  sp = sp;
  limit = limit;
}
