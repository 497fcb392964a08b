-- Rows, tables, units, reports and blocks of the worked examples.
use Rattle.std.specs.Prelude.{ℕ, ◌+◌, ◌-◌, Bool, false, List, [], ◌∷◌, ◌++◌, replicate, pos, Option, Some, None, Err}
use Rattle.pico_board.specs.declared.window.Window.{Window}
use Rattle.pico_board.specs.Content.{Content}
use Rattle.block_codec.specs.declared.items.Item.{Item}
use Rattle.block_codec.specs.Blocks.{BlockView}
use Rattle.image_check.specs.declared.why.Why.{Why}
use Rattle.part_table.specs.declared.partition.Partition.{Partition}
use Rattle.part_table.specs.declared.table.Table.{Table}
use Rattle.slot_choice.specs.declared.unit.Member.{Member}
use Rattle.slot_choice.specs.declared.unit.Member.TheVariants.{A}
use Rattle.slot_choice.specs.declared.unit.SlotUnit.{SlotUnit}
use Rattle.slot_choice.specs.declared.choice.Choice.{Choice}
use Rattle.worked_flashes.specs.Tables.{lone_unit, pair_unit, plain_partition, sectors, window_at}
use Rattle.worked_flashes.specs.Flashes.{framed, region, rows_with}
use Rattle.worked_flashes.specs.Images.{image_of_version}
use Rattle.boot_reasons.specs.declared.slots.TableInForce.{TableInForce}
use Rattle.boot_reasons.specs.declared.slots.TableReason.{TableReason}
use Rattle.boot_reasons.specs.declared.looks.UnitReport.{UnitReport}
use Rattle.boot_reasons.specs.declared.looks.TakenImage.{TakenImage}
use Rattle.boot_reasons.specs.declared.looks.UnitReason.{UnitReason}

-- rows that hold these values from a row on, after rows of 0
abbrev pub otp_from : ℕ → List ℕ → List ℕ
otp_from row values = replicate row 0 ++ values

-- a partition of sectors 2 and 3 with these flags below its permissions
abbrev pub part_with : ℕ → Partition
part_with flags = plain_partition (sectors 2 3) (0xfc000000 + flags)

-- a partition of the same sectors whose location word lacks secure read, bit 26
abbrev pub part_without_read : Partition
part_without_read = plain_partition (sectors 2 3 - 0x4000000) 0xfc000000

-- a table of this version with this unpartitioned word and these partitions
abbrev pub table_of_parts : Bool → ℕ → ℕ → List Partition → Table
table_of_parts alone minor word parts = record {
  version = record { major = 1; minor = minor };
  singleton = alone;
  unpartitioned = word;
  parts = record { items = parts };
}

-- the windows of three pairs of sectors, a pair of the first two, and the third alone
abbrev pub first : Window
first = window_at 0x2000 0x2000

abbrev pub second : Window
second = window_at 0x4000 0x2000

abbrev pub third : Window
third = window_at 0x6000 0x2000

abbrev pub first_pair : SlotUnit
first_pair = pair_unit first 0 second 1

abbrev pub lone_third : SlotUnit
lone_third = lone_unit third 2

-- the report on the pair; the images of its members are taken or not
abbrev pub taken_by : Member → Window → UnitReason → Option TakenImage
taken_by m w because = Some (record { member = m; window = w; because = because })

abbrev pub pair_report : Option TakenImage → UnitReport
pair_report taken = record {
  unit = first_pair;
  first = Err Why.NoBlock;
  second = Some (Err Why.Delta);
  taken = taken;
}

abbrev pub lone_report : Option TakenImage → UnitReport
lone_report taken =
    record { unit = lone_third; first = Err Why.Trial; second = None; taken = taken }

-- a table of a slot is that of the flash
abbrev pub in_slot : Option TableInForce
in_slot = Some (record { slot = 1; because = TableReason.Version })

-- a start of an image in a window
abbrev pub start_of : Window → Choice
start_of w =
    record { image = image_of_version w 1 0 false; member = A; other = None; updated = false }

-- a block at an offset with these item words
abbrev pub block_with : ℕ → List ℕ → BlockView
block_with at items = record { at = at; items = items; link = pos 0 }

-- flashes of 12 KiB without a table: nothing stands in the first sector, or an image of this type,
-- and what stands in the second
abbrev pub sector_with : List ℕ → List ℕ
sector_with items =
    region 0x100 (0x20082000 ∷ 0x10000201 ∷ []) ++ region 0xf00 (framed items 0)

abbrev pub three_sectors : ℕ → ℕ → List ℕ → List ℕ → Content
three_sectors flags size one two = record {
  flash = one ++ (two ++ replicate 0x1000 255);
  otp = rows_with flags size;
}

abbrev pub bare : List ℕ
bare = replicate 0x1000 255

-- a sector with a loop of two blocks of 388 bytes, at 0x100 and at 0x300
abbrev pub two_long_blocks : List ℕ
two_long_blocks =
    region 0x100 []
    ++ (region 0x200 (framed (0x10210142 ∷ replicate 92 0x00000101) 0x200)
    ++ region 0xd00 (framed (0x10210142 ∷ replicate 92 0x00000101) 0xfffffe00))

-- a loop of three blocks, at 0, at 0x200 and at 0x100; the second and the third have a table
abbrev pub backward_loop : List ℕ
backward_loop =
    region 0x100 (framed (0x10210142 ∷ []) 0x200)
    ++ (region 0x100 (framed (0x0000020a ∷ 0 ∷ []) 0xffffff00)
    ++ region 0x100 (framed (0x0000020a ∷ 0 ∷ []) 0xffffff00))

-- words of images: for Arm, and for RISC-V
abbrev pub arm_word : ℕ
arm_word = 0x10210142

abbrev pub riscv_word : ℕ
riscv_word = 0x11010142

-- the same of trial images
abbrev pub arm_trial_word : ℕ
arm_trial_word = 0x90210142

abbrev pub riscv_trial_word : ℕ
riscv_trial_word = 0x91010142

-- a sector that begins with a block of these item words, a loop of its own
abbrev pub table_sector : List ℕ → List ℕ
table_sector items = region 0x1000 (framed items 0)

-- flashes of 24 KiB: the loop of an image begins at 0x100, and its second block stands at 0x2100;
-- the first one's link leads this far
abbrev pub across : ℕ → List ℕ
across link =
    region 0x100 [] ++ (region 0x2000 (framed (0x10210142 ∷ []) link)
    ++ region 0x3f00 (framed (0x00000101 ∷ []) 0xffffe000))

abbrev pub six_sectors : List ℕ → Content
six_sectors bytes = record { flash = bytes; otp = rows_with 0 1 }

-- the words of an absolute LOAD_MAP item with one entry of these first two words
abbrev pub map_words : ℕ → ℕ → List ℕ
map_words place runtime = 0x81000406 ∷ place ∷ runtime ∷ 0x10001000 ∷ []

-- such an item as the first one of its block, with this last header byte
abbrev pub map_item : ℕ → Item
map_item high = record { first = 1; words = 4; kind = 0x06; low = 0; high = high }
