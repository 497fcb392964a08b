-- Worked images, as bytes, words and records. The examples of several crates take them. Another
-- implementation made their digests.
use Rattle.std.specs.Prelude.{ℕ, ◌+◌, ◌*◌, Bool, pos, List, [], ◌∷◌, ◌++◌, length, Option, None, ◌-◌, not}
use Rattle.pico_board.specs.declared.window.Window.{Window}
use Rattle.image_def.specs.declared.started.Started.{Started}
use Rattle.block_codec.specs.declared.definition.Def.{Def}
use Rattle.block_codec.specs.declared.versions.Version.{Version}
use Rattle.block_codec.specs.Blocks.{BlockView}
use Rattle.block_codec.specs.Words.{bytes_of}
use Rattle.image_def.specs.Definition.{no_version}
use Rattle.image_def.specs.Examples.{arm_def, started_in}
use Rattle.slot_choice.specs.declared.unit.Member.TheVariants.{A, B}
use Rattle.slot_choice.specs.Examples.{window_at}

-- the block of 20 bytes at this offset that has the one item word 0x10210142
abbrev pub small_block : ℕ → BlockView
small_block at = record { at = at; items = 0x10210142 ∷ []; link = pos 0 }

-- the bytes of the vector table with SP 0x20082000 and PC 0x10000201
abbrev pub table_bytes : List ℕ
table_bytes = 0x00 ∷ 0x20 ∷ 0x08 ∷ 0x20 ∷ 0x01 ∷ 0x02 ∷ 0x00 ∷ 0x10 ∷ []

-- a definition with this VECTOR_TABLE address, rollback version and listed rows
abbrev pub def_with_rows : Option ℕ → Option ℕ → List ℕ → Def
def_with_rows vector rollback rows =
    record arm_def { vector = vector; rollback = rollback; rows = record { items = rows } }

-- the record of an image after a vector table at its window's start, by window, PC, version,
-- rollback version, rows and the trial bit
abbrev pub image_record : Window → ℕ → Version → Option ℕ → List ℕ → Bool → Started
image_record window pc version rollback rows trial = record (started_in window 8 12 pc) {
  version = version;
  rollback = rollback;
  rows = record { items = rows };
  trial = trial;
}

-- a version, by major and minor
abbrev pub version_at : ℕ → ℕ → Version
version_at major minor = record { major = major; minor = minor }

-- the record of an image in a window without a version, a rollback version and rows
abbrev pub plain_image : Window → ℕ → Bool → Started
plain_image window pc trial = image_record window pc no_version None [] trial

-- the bytes of a window that begins with SP at SRAM's end and this PC; at offset 8 it has a block
-- of these item words and this link word
abbrev pub window_with : ℕ → List ℕ → ℕ → List ℕ
window_with pc items link =
    bytes_of (0x20082000 ∷ pc ∷ 0xffffded3 ∷ items
    ++ ((0xff + 256 * length items) ∷ link ∷ 0xab123579 ∷ []))

-- the IMAGE_TYPE words of an Arm image, and of one whose trial bit is set
abbrev pub arm_type : ℕ
arm_type = 0x10210142

abbrev pub trial_type : ℕ
trial_type = 0x90210142

-- a HASH_DEF item of four words and a HASH_VALUE item of these words
abbrev pub hash_of_four : List ℕ → List ℕ
hash_of_four digest = 0x01000247 ∷ 4 ∷ 0x0000094b ∷ digest

-- the SHA-256 of the words 0xffffded3, 0x10210142, 0x01000247 and 4, by another implementation
abbrev pub plain_digest : List ℕ
plain_digest =
    0x37eb49aa ∷ 0xea5343e8 ∷ 0x0d4a581d ∷ 0xf4f07a93 ∷ 0x84764554 ∷ 0xab6af94f ∷ 0x9e0bb5e1
    ∷ 0x9f01d02c ∷ []

-- the SHA-256 of a window's first eight bytes, with SP 0x20082000 and PC 0x20000001, and of four
-- words: 0xffffded3, 0x10210142, 0x01000406 and 0xfffffff0
abbrev pub stored_digest : List ℕ
stored_digest =
    0x8b4fed16 ∷ 0x03d2ea4a ∷ 0x52b2a4a5 ∷ 0x94facbde ∷ 0xb6599bf9 ∷ 0xe9d367c1 ∷ 0x36841b81
    ∷ 0xe11e6ade ∷ []

-- the image of a version in a window; it is a trial or not
abbrev pub image_of_version : Window → ℕ → ℕ → Bool → Started
image_of_version w major minor trial = record (started_in w 0x100 0x104 0x10000201) {
  version = record { major = major; minor = minor };
  trial = trial;
}

-- an image of this version in the window of the pair's A, and in that of its B
abbrev pub in_a : ℕ → ℕ → Bool → Started
in_a major minor trial = image_of_version (window_at 0x2000 0x1e000) major minor trial

abbrev pub in_b : ℕ → ℕ → Bool → Started
in_b major minor trial = image_of_version (window_at 0x20000 0x1e000) major minor trial
