-- Worked flashes, with what stands in their slots. The examples of several crates take them.
use Rattle.std.specs.Prelude.{ℕ, ◌+◌, ◌*◌, Bool, List, [], ◌∷◌, ◌++◌, length, replicate, ◌-◌, not}
use Rattle.block_codec.specs.Words.{bytes_of}
use Rattle.pico_board.specs.Content.{Content}
use Rattle.part_table.specs.declared.table.Table.{Table}
use Rattle.part_table.specs.Examples.{owned_items, pair_items, sectors}
use Rattle.slot_choice.specs.declared.unit.Member.TheVariants.{A, B}
use Rattle.pico_board.specs.declared.boot.Cpu.TheVariants.{Arm}

-- the first 195 OTP rows: row 0x048, and the triple from row 0x0c0 on; the others are 0
abbrev pub otp_with : ℕ → ℕ → ℕ → ℕ → List ℕ
otp_with flags a b c = replicate 0x048 0 ++ (flags ∷ (replicate 0x077 0 ++ (a ∷ b ∷ c ∷ [])))

-- a table without partitions, which is a singleton or not, of this version
abbrev pub empty_table : Bool → ℕ → ℕ → Table
empty_table alone high low = record {
  version = record { major = high; minor = low };
  singleton = alone;
  unpartitioned = 0xfc008000;
  parts = record { items = [] };
}

-- the item words of a table of a pair, sectors 2 to 3 and 4 to 5, with this first word and this
-- version word
abbrev pub small_items : ℕ → ℕ → List ℕ
small_items header version =
    header ∷ 0xfc008000 ∷ sectors 2 3 ∷ 0xfc020000 ∷ sectors 4 5 ∷ 0xfc020002 ∷ 0x00000248 ∷ version
    ∷ []

-- the first item word of a table of two partitions that is no singleton
abbrev pub several : ℕ
several = 0x0200060a

-- the words of a block of these item words with this link
abbrev pub framed : List ℕ → ℕ → List ℕ
framed items link =
    0xffffded3 ∷ items ++ ((0xff + 256 * length items) ∷ link ∷ 0xab123579 ∷ [])

-- n bytes that begin with these words, and are 0xff after them
abbrev pub region : ℕ → List ℕ → List ℕ
region n words = bytes_of words ++ replicate (n - 4 * length words) 255

-- n bytes that begin with a vector table; at 0x100 they have a block with this IMAGE_TYPE word and
-- this version word
abbrev pub image_region : ℕ → ℕ → ℕ → List ℕ
image_region n image_word version =
    region 0x100 (0x20082000 ∷ 0x10000201 ∷ [])
    ++ region (n - 0x100) (framed (image_word ∷ 0x00000248 ∷ version ∷ []) 0)

-- OTP rows of 0 but for row 0x048, of boot flags, and row 0x055, of the slot size
abbrev pub rows_with : ℕ → ℕ → List ℕ
rows_with flags size =
    replicate 0x048 0 ++ (flags ∷ replicate 0x00c 0 ++ (size ∷ replicate 0xfaa 0))

-- a flash of 24 KiB with these two table slots, and nothing after them
abbrev pub tables_content : ℕ → List ℕ → List ℕ → Content
tables_content size one two = record {
  flash = one ++ (two ++ replicate (0x6000 - length one - length two) 255);
  otp = rows_with 0 size;
}

-- a flash of 256 KiB with the table of a pair, 30 sectors each, and what stands in its members;
-- with these boot flags
abbrev pub pair_content : ℕ → List ℕ → List ℕ → Content
pair_content flags a b = record {
  flash = region 0x2000 (framed pair_items 0) ++ (a ++ (b ++ replicate 0x2000 255));
  otp = rows_with flags 0;
}

-- a member of 30 sectors without an image
abbrev pub bare : List ℕ
bare = replicate 0x1e000 255

-- a flash of 136 KiB with a table of two pairs: a pair of images, 8 sectors each, and after it a
-- pair of data that the images own; and what stands in the members of the images
abbrev pub owned_content : List ℕ → List ℕ → Content
owned_content a b = record {
  flash = region 0x2000 (framed owned_items 0) ++ (a ++ (b ++ replicate 0x10000 255));
  otp = rows_with 0 0;
}

-- members without an image: of a pair of 8 sectors, and a slot of 8 KiB
abbrev pub bare_owner : List ℕ
bare_owner = replicate 0x8000 255

abbrev pub bare_slot : List ℕ
bare_slot = replicate 0x2000 255

-- an Arm image of this version word: in a member of the pair of 30 sectors, of the pair of 8
-- sectors, and in a slot of 8 KiB
abbrev pub arm_member : ℕ → List ℕ
arm_member version = image_region 0x1e000 0x10210142 version

abbrev pub arm_owner : ℕ → List ℕ
arm_owner version = image_region 0x8000 0x10210142 version

abbrev pub arm_slot : ℕ → List ℕ
arm_slot version = image_region 0x2000 0x10210142 version

-- a flash of two sectors: the first is bare, and the second has these bytes
abbrev pub one_sector : List ℕ → Content
one_sector bytes = record { flash = replicate 0x1000 255 ++ bytes; otp = rows_with 0 0 }

abbrev pub bare_sector : List ℕ
bare_sector = replicate 0x1000 255

-- a flash of two sectors: the first has a table without partitions, and the second is bare
abbrev pub table_and_bare : Content
table_and_bare = record {
  flash = region 0x1000 (framed (0x0000020a ∷ 0xfc008000 ∷ []) 0) ++ bare_sector;
  otp = rows_with 0 0;
}

-- a sector with an Arm image of no version, without a load map, and with this last byte
abbrev pub plain_sector : ℕ → List ℕ
plain_sector last =
    region 0xfff (0x20082000 ∷ 0x20000001 ∷ framed (0x10210142 ∷ []) 0) ++ last ∷ []

-- a flash of two sectors that begins with these bytes, and has a bare sector after them
abbrev pub whole_flash_of : List ℕ → Content
whole_flash_of bytes = record { flash = bytes ++ bare_sector; otp = rows_with 0 0 }

-- the first two pages of an Arm image of this version: a vector table, and a block
abbrev pub vector_page : List ℕ
vector_page = region 0x100 (0x20082000 ∷ 0x10000201 ∷ [])

abbrev pub block_page : ℕ → List ℕ
block_page version = region 0x100 (framed (0x10210142 ∷ 0x00000248 ∷ version ∷ []) 0)

-- a page with a block of an Arm image of this version that has a load map without entries
abbrev pub mapped_page : ℕ → List ℕ
mapped_page version = region 0x100 (framed (0x10210142 ∷ 0x00000248 ∷ version ∷ 0x00000106 ∷ []) 0)

-- a page of other bytes
abbrev pub data_page : List ℕ
data_page = replicate 256 0x55

-- a member of 30 sectors that begins with these bytes
abbrev pub begins_with : List ℕ → List ℕ
begins_with bytes = bytes ++ replicate (0x1e000 - length bytes) 255

-- a flash of 256 KiB with the table of a pair: version 1.9 stands in its A, and this in its B
abbrev pub beside_former : List ℕ → Content
beside_former b = pair_content 0 (arm_member 0x00010009) b

-- a member of two sectors that begins with these bytes
abbrev pub small_with : List ℕ → List ℕ
small_with bytes = bytes ++ replicate (0x2000 - length bytes) 255

-- a flash of 24 KiB with the table of a small pair: version 1.9 stands in its A, and this in its B
abbrev pub beside_small : List ℕ → Content
beside_small b = record {
  flash = region 0x2000 (framed (small_items several 0) 0) ++ (arm_slot 0x00010009 ++ b);
  otp = rows_with 0 0;
}
