-- Worked contents on which power is lost in a boot's own writes, worked out by hand from the
-- rules.
use Rattle.std.specs.Prelude.{ℕ, ◌+◌, ◌*◌, Bool, false, List, [], ◌∷◌, ◌++◌, replicate, take, Some, None}
use Rattle.block_codec.specs.Words.{bytes_of}
use Rattle.worked_flashes.specs.Images.{plain_image}
use Rattle.image_def.specs.declared.started.Started.{Started}
use Rattle.image_def.specs.Examples.{started_in}
use Rattle.pico_board.specs.Content.{Content}
use Rattle.pico_board.specs.declared.Step.{Step}
use Rattle.pico_board.specs.declared.Step.TheVariants.{Raise}
use Rattle.pico_board.specs.declared.window.Window.{Window}
use Rattle.slot_choice.specs.declared.unit.SlotUnit.{SlotUnit}
use Rattle.worked_flashes.specs.Tables.{sectors, three_parts}
use Rattle.slot_choice.specs.Examples.{window_at}
use Rattle.trial_buy.specs.Buying.{cleared_sector, page_program}
use Rattle.worked_flashes.specs.Flashes.{framed, region, rows_with}
use Rattle.law_boot_cuts.specs.Crashes.{PicksBought, StartsBought}
use Rattle.slot_choice.specs.Units.{whole_flash}
use Rattle.boot_rules.specs.AccidentalImages.{HasNoAccidentalImage}
use Rattle.pico_board.specs.declared.boot.Cpu.TheVariants.{Arm}
use Rattle.worked_flashes.specs.Choices.{running_trial}
use Rattle.worked_flashes.specs.Flashes.{one_sector, whole_flash_of}

-- a sector that begins with SP and a PC in SRAM; after them it has a block of an image of this
-- IMAGE_TYPE word and of version 1.0, of this rollback version with this one row
abbrev pub typed_sector : ℕ → ℕ → ℕ → List ℕ
typed_sector image_type version row =
    region 0x1000 (0x20082000 ∷ 0x20000001
    ∷ framed (image_type ∷ 0x01000348 ∷ 0x00010000 ∷ (65536 * row + version) ∷ []) 0)

-- a sector that begins with SP and a PC in SRAM; after them it has a block of an Arm image of
-- version 1.0, of this rollback version with this one row
abbrev pub rows_sector : ℕ → ℕ → List ℕ
rows_sector version row = typed_sector 0x10210142 version row

-- the record of the Arm image of `rows_sector` in this window
abbrev pub rows_image : Window → ℕ → ℕ → Started
rows_image w version row = record (started_in w 8 12 0x20000001) {
  version = record { major = 1; minor = 0 };
  rollback = Some version;
  rows = record { items = row ∷ [] };
}

-- OTP rows of 0 but for the triple of row 0x0c0
abbrev pub triple_rows : ℕ → ℕ → ℕ → List ℕ
triple_rows a b c = replicate 0x0c0 0 ++ (a ∷ b ∷ c ∷ replicate 0xf3d 0)

-- a flash of five sectors: a table of three partitions of one sector each, and in these images of
-- the rollback versions 0, 1 and 2; the last image lists row 0x0c0, and the others this row; the
-- triple of row 0x0c0 has these values
abbrev pub three_images : ℕ → ℕ → ℕ → ℕ → Content
three_images row a b c = record {
  flash = region 0x2000 (framed (three_parts (sectors 2 2) 0xfc000000 (sectors 3 3) 0xfc000000
      (sectors 4 4) 0xfc000000) 0)
      ++ (rows_sector 0 row ++ (rows_sector 1 row ++ rows_sector 2 0x0c0));
  otp = triple_rows a b c;
}

-- a flash of five sectors as in `three_images`, with a triple of zeros; each image lists row
-- 0x0c0, and the first two are trial images
abbrev pub two_trials : Content
two_trials = record {
  flash = region 0x2000 (framed (three_parts (sectors 2 2) 0xfc000000 (sectors 3 3) 0xfc000000
      (sectors 4 4) 0xfc000000) 0)
      ++ (typed_sector 0x90210142 0 0x0c0
      ++ (typed_sector 0x90210142 1 0x0c0 ++ rows_sector 2 0x0c0));
  otp = triple_rows 0 0 0;
}

-- the unit of the last of the three partitions; the raises that take row 0x0c0 from 0 to a count
-- of 2
abbrev pub last_unit : SlotUnit
last_unit = record { a = window_at 0x4000 0x1000; b = None; a_part = Some 2; b_part = None }

abbrev pub three_raises : List Step
three_raises = Raise 0x0c0 3 ∷ Raise 0x0c1 3 ∷ Raise 0x0c2 3 ∷ []

-- the words of an Arm image's definition, a trial or not by its IMAGE_TYPE word: an ENTRY_POINT
-- item and a LOAD_MAP item without entries; the definition links to the flash's first block from
-- offset 0x10d8
abbrev pub definition_words : ℕ → List ℕ
definition_words image_type =
    framed (image_type ∷ 0x00000344 ∷ 0x20000001 ∷ 0x20082000 ∷ 0x00000106 ∷ []) 0xffffef28

-- the words of a table block of one partition, sector 2; that definition stands in the partition's
-- name of 39 bytes; its HASH_VALUE is the SHA-256 of its first 17 words where the trial bit is
-- clear, by another implementation
abbrev pub hiding_table_words : ℕ → List ℕ
hiding_table_words image_type =
    framed (0x01000e0a ∷ 0xfc008000 ∷ sectors 2 2 ∷ 0xfc001000 ∷ 0x46454427
    ∷ definition_words image_type
    ++ (0x01000247 ∷ 17 ∷ 0x0000094b ∷ 0xcaa06909 ∷ 0xa694b0b3 ∷ 0x494e1c17 ∷ 0x2d3a0527
    ∷ 0x58adbb32 ∷ 0x7414d6ba ∷ 0x7bca6146 ∷ 0xc3f1e1dd ∷ [])) 0

-- the first block of the flash, which links to that definition
abbrev pub first_words : List ℕ
first_words = framed (0x000001fe ∷ []) 0x000010d8

-- the second sector with that table block at 0x0c0
abbrev pub table_sector : ℕ → List ℕ
table_sector image_type = replicate 0x0c0 255 ++ region 0xf40 (hiding_table_words image_type)

-- the second sector with that table block at 0x0c0; its first page alone is programmed
abbrev pub torn_sector : List ℕ
torn_sector =
    replicate 0x0c0 255
    ++ (bytes_of (take 16 (hiding_table_words 0x10210142)) ++ replicate 0xf00 255)

-- a flash of three sectors that begins with that block, and has this second sector
abbrev pub hidden_table : List ℕ → Content
hidden_table second = record {
  flash = region 0x1000 first_words ++ (second ++ replicate 0x1000 255);
  otp = rows_with 0 0;
}

-- the image in the whole of that flash, with its trial bit or not
abbrev pub whole_image : Bool → Started
whole_image trial = record (started_in (window_at 0 0x3000) 0x10d8 0x10dc 0x20000001) {
  trial = trial;
}

-- the program of the second sector's second page when the image of the whole flash is bought
abbrev pub second_page : Step
second_page =
    page_program 1 (cleared_sector (hidden_table (table_sector 0x90210142)).flash 0x10df) 1

-- the second sector with an Arm image of no version, a load map without entries, and this last
-- byte
abbrev pub mapped_sector : ℕ → List ℕ
mapped_sector last =
    region 0xfff (0x20082000 ∷ 0x20000001 ∷ framed (0x10210142 ∷ 0x00000106 ∷ []) 0) ++ last ∷ []

-- the second sector with an Arm trial image of no version, without a load map
abbrev pub trial_sector : List ℕ
trial_sector = region 0x1000 (0x20082000 ∷ 0x20000001 ∷ framed (0x90210142 ∷ []) 0)

-- the record of the image of the second sector, without a load map or with one
abbrev pub sector_image : Started
sector_image = plain_image (window_at 0x1000 0x1000) 0x20000001 false

-- three states of the second sector: before some steps, after them, and where power was lost in
-- them; the last one has the former table and no accidental image
abbrev pub SectorHasNoAccidentalImage : List ℕ → List ℕ → List ℕ → Type 0
SectorHasNoAccidentalImage before after torn =
    HasNoAccidentalImage (one_sector before) (one_sector after) (one_sector torn)
    (window_at 0x1000 0x1000) Arm

-- the unit of the whole flash of two sectors
abbrev pub whole_unit : SlotUnit
whole_unit = whole_flash 0x2000

-- what a cut leaves and what all steps leave, by the first sector
abbrev pub BothStart : List ℕ → List ℕ → Type 0
BothStart torn after = StartsBought (whole_flash_of after) (whole_flash_of torn) Arm running_trial

abbrev pub BothPick : List ℕ → List ℕ → Type 0
BothPick torn after =
    PicksBought (whole_flash_of after) (whole_flash_of torn) whole_unit Arm running_trial
