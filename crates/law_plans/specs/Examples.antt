-- Worked images alone in a window of 8 KiB. Each lacks one of the conditions of a firm image. This
-- project's own; another implementation computed the digests.
use Rattle.std.specs.Prelude.{ℕ, ◌+◌, List, [], ◌∷◌, ◌++◌}
use Rattle.pico_board.specs.declared.window.Window.{Window}
use Rattle.image_def.specs.declared.started.Started.{Started}
use Rattle.image_def.specs.Examples.{started_in}
use Rattle.pico_board.specs.Content.{Content}
use Rattle.worked_flashes.specs.Flashes.{framed, region, rows_with}

abbrev pub whole : Window
whole = record { start = 0; len = 0x2000 }

-- the start of an Arm image without a version; its definition stands at this offset
abbrev pub arm_start_at : ℕ → Started
arm_start_at at = started_in whole at (at + 4) 0x10000201

-- a vector table in a page of 256 bytes
abbrev pub vectors : List ℕ
vectors = region 0x100 (0x20082000 ∷ 0x10000201 ∷ [])

-- a vector table, a block at 0x100 that links to one at 0x1000, and the block at 0x1000 with these
-- items, which links back
abbrev pub two_blocks : List ℕ → List ℕ
two_blocks items =
    vectors ++ (region 0xf00 (framed (0x10210142 ∷ []) 0xf00)
    ++ region 0x1000 (framed items 0xfffff100))

-- the items of an image without a HASH_VALUE: a load map that stores the first sector
abbrev pub undigested_items : List ℕ
undigested_items = 0x10210142 ∷ 0x01000406 ∷ 0xffffeff8 ∷ 0x10000000 ∷ 0x1000 ∷ []

abbrev pub undigested : List ℕ
undigested = two_blocks undigested_items

-- the items of an image without a load map: a digest of the first four words of its block
abbrev pub unmapped_items : List ℕ
unmapped_items =
    0x10210142 ∷ 0x01000247 ∷ 0x00000004 ∷ 0x0000094b
    ∷ 0x37eb49aa ∷ 0xea5343e8 ∷ 0x0d4a581d ∷ 0xf4f07a93
    ∷ 0x84764554 ∷ 0xab6af94f ∷ 0x9e0bb5e1 ∷ 0x9f01d02c ∷ []

abbrev pub unmapped : List ℕ
unmapped = two_blocks unmapped_items

-- the items of an image with its definition in the first sector: a load map that stores all bytes
-- before the definition, and a digest
abbrev pub early_items : List ℕ
early_items =
    0x10210142 ∷ 0x01000406 ∷ 0xfffffef8 ∷ 0x10000000 ∷ 0x100 ∷ 0x01000247 ∷ 0x00000008 ∷ 0x0000094b
    ∷ 0xca75ad1e ∷ 0xba2f4c4b ∷ 0x6592d957 ∷ 0xa87c8c8d
    ∷ 0x02e48e14 ∷ 0xf6c33273 ∷ 0x9138d6b4 ∷ 0xb0f42660 ∷ []

abbrev pub early : List ℕ
early = vectors ++ region 0x1f00 (framed early_items 0)

-- the items of an image that meets all conditions: a load map that stores the first sector, and a
-- digest
abbrev pub firm_items : List ℕ
firm_items =
    0x10210142 ∷ 0x01000406 ∷ 0xffffeff8 ∷ 0x10000000 ∷ 0x1000 ∷ 0x01000247 ∷ 0x00000008
    ∷ 0x0000094b
    ∷ 0xc7e8429f ∷ 0x4e0c2a52 ∷ 0xd806bdcd ∷ 0xacfab719
    ∷ 0x85d1ab2c ∷ 0xc25a4974 ∷ 0x5aafa26b ∷ 0xfe4685b8 ∷ []

abbrev pub firm : List ℕ
firm = two_blocks firm_items

-- the items of an image with one more block in the first sector, which no link leads to; otherwise
-- as the firm image, with a digest of its own
abbrev pub crowded_items : List ℕ
crowded_items =
    0x10210142 ∷ 0x01000406 ∷ 0xffffeff8 ∷ 0x10000000 ∷ 0x1000 ∷ 0x01000247 ∷ 0x00000008
    ∷ 0x0000094b
    ∷ 0x6d6c2fbe ∷ 0x209ac52e ∷ 0x77549ca9 ∷ 0x2d649791
    ∷ 0x79afabf2 ∷ 0x4249271d ∷ 0xe68a8aab ∷ 0xe0635419 ∷ []

abbrev pub crowded : List ℕ
crowded =
    vectors ++ (region 0x100 (framed (0x10210142 ∷ []) 0xf00)
    ++ (region 0xe00 (framed (0x10210142 ∷ []) 0)
    ++ region 0x1000 (framed crowded_items 0xfffff100)))

-- the items of an image with a load map that stores all of the first sector but its last byte;
-- otherwise as the firm image, with a digest of its own
abbrev pub clipped_items : List ℕ
clipped_items =
    0x10210142 ∷ 0x01000406 ∷ 0xffffeff8 ∷ 0x10000000 ∷ 0xfff ∷ 0x01000247 ∷ 0x00000008 ∷ 0x0000094b
    ∷ 0x0421f8f6 ∷ 0xe2ccffb4 ∷ 0xaa6c4b32 ∷ 0x374ee1ba
    ∷ 0x73b1d360 ∷ 0x6411ff5d ∷ 0x9d23d2fb ∷ 0xa85ebf20 ∷ []

abbrev pub clipped : List ℕ
clipped = two_blocks clipped_items

-- the items of an image with a load map that clears 4096 bytes of SRAM before it stores the first
-- sector; otherwise as the firm image, with a digest of its own
abbrev pub cleared_items : List ℕ
cleared_items =
    0x10210142 ∷ 0x02000706 ∷ 0 ∷ 0x20000000 ∷ 0x1000 ∷ 0xffffeff8 ∷ 0x10000000 ∷ 0x1000
    ∷ 0x01000247 ∷ 0x0000000b ∷ 0x0000094b
    ∷ 0xa1f4d197 ∷ 0x407de663 ∷ 0xa4c804aa ∷ 0xe236e5f9
    ∷ 0x2cc31fbc ∷ 0x5a42e281 ∷ 0x905ad4e8 ∷ 0x9fbf77c5 ∷ []

abbrev pub cleared_blocks : List ℕ
cleared_blocks = two_blocks cleared_items

-- the firm image alone in a flash of 8 KiB, with this row of boot flags
abbrev pub alone_on : ℕ → Content
alone_on flags = record { flash = firm; otp = rows_with flags 0 }
