-- Worked examples of entries, of the rollback rule and of remembered digests.
use Rattle.std.specs.Prelude.{ℕ, Bool, true, false, List, [], ◌∷◌, replicate, Some, None}
use Rattle.pico_board.specs.declared.boot.Cpu.{Cpu}
use Rattle.pico_board.specs.declared.window.Window.{Window}
use Rattle.image_def.specs.declared.started.Started.{Started}
use Rattle.block_codec.specs.declared.definition.EntryPoint.{EntryPoint}
use Rattle.image_check.specs.declared.digests.Digested.{Digested}
use Rattle.image_check.specs.declared.entry.Source.{Source}
use Rattle.worked_flashes.specs.Images.{version_at, image_record, plain_image}

-- an entry at this PC, with SP at the end of SRAM
abbrev pub entry_point_at : ℕ → EntryPoint
entry_point_at pc = record { pc = pc; sp = 0x20082000; limit = 0 }

-- an entry at this PC, from the vector table at this address, or from an ENTRY_POINT item
abbrev pub tabled : ℕ → ℕ → Source
tabled table pc = record { entry = entry_point_at pc; table = Some table }

abbrev pub pointed : ℕ → Source
pointed pc = record { entry = entry_point_at pc; table = None }

-- the bytes of a window of 64: a vector table whose PC has these bytes 0, 1 and 3, and a block of
-- version 9.0 behind it. Its IMAGE_TYPE item has this fourth byte, 0x10 or, with the trial bit,
-- 0x90
abbrev pub trial_window_bytes : ℕ → ℕ → ℕ → ℕ → List ℕ
trial_window_bytes first second fourth high =
    0x00 ∷ 0x20 ∷ 0x08 ∷ 0x20 ∷ first ∷ second ∷ 0x00 ∷ fourth
    ∷ 0xd3 ∷ 0xde ∷ 0xff ∷ 0xff ∷ 0x42 ∷ 0x01 ∷ 0x21 ∷ high
    ∷ 0x48 ∷ 0x02 ∷ 0x00 ∷ 0x00 ∷ 0x00 ∷ 0x00 ∷ 0x09 ∷ 0x00
    ∷ 0xff ∷ 0x03 ∷ 0x00 ∷ 0x00 ∷ 0x00 ∷ 0x00 ∷ 0x00 ∷ 0x00
    ∷ 0x79 ∷ 0x35 ∷ 0x12 ∷ 0xab ∷ replicate 28 0

-- the window of 64 bytes from 0x2000 on, in which those bytes stand
abbrev pub window_at_two : Window
window_at_two = record { start = 0x2000; len = 64 }

-- the record of the image of version 9.0 in that window, by PC and the trial bit
abbrev pub version_nine : ℕ → Bool → Started
version_nine pc trial = image_record window_at_two pc (version_at 9 0) None [] trial

-- a PC in SRAM, which is right, and one that lies nowhere
abbrev pub right_pc : ℕ
right_pc = 0x20000001

abbrev pub stray_pc : ℕ
stray_pc = 0x30000001

abbrev pub riscv_type : ℕ
riscv_type = 0x11010142

-- a LOAD_MAP item of one relative entry whose storage begins before the window
abbrev pub wrong_map : List ℕ
wrong_map = 0x01000406 ∷ 0x80000000 ∷ 0x20000000 ∷ 4 ∷ []

-- a VERSION item with rollback version 3 and row 0x0c0
abbrev pub version_three : List ℕ
version_three = 0x01000348 ∷ 0x00010000 ∷ 0x00c00003 ∷ []

-- a HASH_DEF item of three words and a HASH_VALUE item of zeros
abbrev pub wrong_hash : List ℕ
wrong_hash = 0x01000247 ∷ 3 ∷ 0x0000094b ∷ 0 ∷ 0 ∷ 0 ∷ 0 ∷ 0 ∷ 0 ∷ 0 ∷ 0 ∷ []

-- a window delta of 4
abbrev pub delta_four : List ℕ
delta_four = 0x00000205 ∷ 4 ∷ []

-- the record of an image of version 1.0 with rollback version 3 and row 0x0c0
abbrev pub three_record : Started
three_record =
    image_record window_at_two right_pc (version_at 1 0) (Some 3) (0x0c0 ∷ []) false

-- a LOAD_MAP item of one relative entry of these three words
abbrev pub map_of : ℕ → ℕ → ℕ → List ℕ
map_of place runtime size = 0x01000406 ∷ place ∷ runtime ∷ size ∷ []

-- the SHA-256 of the words 16, 0xffffded3, 0x10210142, 0x01000406 and 0
abbrev pub clear_digest : List ℕ
clear_digest =
    0x356bd2b8 ∷ 0x2b465944 ∷ 0x52ac124a ∷ 0xb0d84eb6 ∷ 0xb75e3e00 ∷ 0x5a927766 ∷ 0x174398cc
    ∷ 0xde89dd8c ∷ []

-- the SHA-256 of the word 16, of those eight bytes, and of the words 0xffffded3, 0x10210142,
-- 0x02000706 and 0
abbrev pub both_digest : List ℕ
both_digest =
    0x1b1a6a53 ∷ 0xb1e31360 ∷ 0x0adf5098 ∷ 0xcd1b6a0d ∷ 0x96bb4178 ∷ 0x5529406e ∷ 0x29f10e29
    ∷ 0x2601f8ec ∷ []

-- a LOAD_MAP item of a clear entry of 16 bytes and of the window's first eight bytes
abbrev pub map_of_both : List ℕ
map_of_both =
    0x02000706 ∷ 0 ∷ 0x20000000 ∷ 16 ∷ 0xfffffff0 ∷ 0x10000000 ∷ 8 ∷ []

-- the record of an image in the same window without version and rows that starts here, with its
-- trial bit or not
abbrev pub record_at : ℕ → Bool → Started
record_at pc trial = plain_image window_at_two pc trial

-- the window of the sector that begins here
abbrev pub sector_at : ℕ → Window
sector_at start = record { start = start; len = 4096 }

-- the digest of that window's image is right, for this processor
abbrev pub right_digest : ℕ → Cpu → Digested
right_digest start cpu = record { window = sector_at start; cpu = cpu; right = true }

-- the digest of that window's image is wrong, for this processor
abbrev pub wrong_digest : ℕ → Cpu → Digested
wrong_digest start cpu = record { window = sector_at start; cpu = cpu; right = false }
