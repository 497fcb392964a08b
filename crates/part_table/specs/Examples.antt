-- Worked examples of tables, with their answers worked out by hand from the rules.
use Rattle.std.specs.Prelude.{drop, ℕ, ◌+◌, ◌*◌, true, false, List, [], ◌∷◌, ◌++◌, pos, replicate, Option, None, Some, Result}
use Rattle.arrayvec.specs.ArrayVec.{ArrayVec}
use Rattle.block_codec.specs.Blocks.{BlockView}
use Rattle.part_table.specs.declared.partition.Partition.{Partition}
use Rattle.part_table.specs.declared.table.Table.{Table}
use Rattle.part_table.specs.declared.table.TableFault.{TableFault}
use Rattle.part_table.specs.TableOf.{table_of}

-- a partition of these words, without an id, extra families or a name
abbrev pub plain_partition : ℕ → ℕ → Partition
plain_partition at flag_word =
    record {
      location = at;
      flags = flag_word;
      id = None;
      families = record { items = [] };
      name = None;
    }

-- the location word of a partition with all rights, by its first and its last sector
abbrev pub sectors : ℕ → ℕ → ℕ
sectors first last = 0xfc000000 + 8192 * last + first

-- the block of these item words at the start of a flash, which is a loop of its own
abbrev pub block_with : List ℕ → BlockView
block_with words = record { at = 0; items = words; link = pos 0 }

-- the table of that block in a flash of 64 sectors; the first two are not free
abbrev pub table_in_64 : List ℕ → Result Table TableFault
table_in_64 words = table_of (block_with words) 64 2

-- the table without a version of these partitions, in which the unpartitioned sectors have all
-- rights
abbrev pub table_with : List Partition → Table
table_with ps = record {
  version = record { major = 0; minor = 0 };
  singleton = false;
  unpartitioned = 0xfc008000;
  parts = record { items = ps };
}

-- the item words of a table of two partitions, sectors 2 to 31 and 32 to 61; the second is the B
-- of the first; both have all rights and accept rp2350-arm-s
abbrev pub pair_items : List ℕ
pair_items = 0x0200060a ∷ 0xfc008000 ∷ 0xfc03e002 ∷ 0xfc020000 ∷ 0xfc07a020 ∷ 0xfc020002 ∷ []

-- the table of those two partitions, which has no VERSION item
abbrev pub pair_table : Table
pair_table =
    table_with (plain_partition 0xfc03e002 0xfc020000 ∷ plain_partition 0xfc07a020 0xfc020002 ∷ [])

-- the table of those two partitions with a version
abbrev pub pair_version : ℕ → ℕ → Table
pair_version high low = record {
  version = record { major = high; minor = low };
  singleton = false;
  unpartitioned = 0xfc008000;
  parts = pair_table.parts;
}

-- the table of one partition of these words
abbrev pub one_part : ℕ → ℕ → List ℕ
one_part location flags = 0x0100040a ∷ 0xfc008000 ∷ location ∷ flags ∷ []

-- the table of two partitions of these words
abbrev pub two_parts : ℕ → ℕ → ℕ → ℕ → List ℕ
two_parts a_location a_flags b_location b_flags =
    0x0200060a ∷ 0xfc008000 ∷ a_location ∷ a_flags ∷ b_location ∷ b_flags ∷ []

-- the table of three partitions of these words
abbrev pub three_parts : ℕ → ℕ → ℕ → ℕ → ℕ → ℕ → List ℕ
three_parts a_location a_flags b_location b_flags c_location c_flags =
    0x0300080a ∷ 0xfc008000 ∷ a_location ∷ a_flags ∷ b_location ∷ b_flags ∷ c_location ∷ c_flags
    ∷ []

-- a table of three partitions with these location words, without links
abbrev pub placed_parts : ℕ → ℕ → ℕ → List ℕ
placed_parts one two three = three_parts one 0xfc000000 two 0xfc000000 three 0xfc000000

-- the item words of a table of three partitions, sectors 2 to 3, 4 to 5 and 6 to 7; these are the
-- flag words below their permissions
abbrev pub linked_parts : ℕ → ℕ → ℕ → List ℕ
linked_parts one two three =
    three_parts (sectors 2 3) (0xfc000000 + one) (sectors 4 5) (0xfc000000 + two) (sectors 6 7)
    (0xfc000000 + three)

-- the table of three partitions, sectors 2 to 3, 4 to 5 and 6 to 7; these are the flag words below
-- their permissions
abbrev pub linked_table : ℕ → ℕ → ℕ → Table
linked_table one two three =
    table_with
    (plain_partition (sectors 2 3) (0xfc000000 + one)
    ∷ plain_partition (sectors 4 5) (0xfc000000 + two)
    ∷ plain_partition (sectors 6 7) (0xfc000000 + three) ∷ [])

-- the pair's item words, and these items after them
abbrev pub pair_and : List ℕ → List ℕ
pair_and words = pair_items ++ words

-- eight words 0
abbrev pub eight_words : List ℕ
eight_words = 0 ∷ 0 ∷ 0 ∷ 0 ∷ 0 ∷ 0 ∷ 0 ∷ 0 ∷ []

-- a singleton table of one partition, sectors 2 to 3: it has an id, two extra families and a name
-- of four bytes; bit 7 of the name's length byte is set
abbrev pub named_items : List ℕ
named_items =
    0x81000a0a ∷ 0 ∷ 0xfc006002 ∷ 0xfc001101 ∷ 0x44332211 ∷ 0x88776655 ∷ 0x11111111 ∷ 0xe48bff5a
    ∷ 0x63626184 ∷ 0x00000064 ∷ []

-- the partition of sectors 2 to 3 with an id, two extra families and a name of four bytes
abbrev pub named_partition : Partition
named_partition = record {
  location = 0xfc006002;
  flags = 0xfc001101;
  id = Some 0x8877665544332211;
  families = record { items = 0x11111111 ∷ 0xe48bff5a ∷ [] };
  name = Some (record { items = 0x61 ∷ 0x62 ∷ 0x63 ∷ 0x64 ∷ [] });
}

-- the table of the item words above
abbrev pub named_table : Table
named_table = record {
  version = record { major = 0; minor = 0 };
  singleton = true;
  unpartitioned = 0;
  parts = record { items = named_partition ∷ [] };
}

-- the partition of sectors 2 to 3 with these flags, id, extra families and name
abbrev pub partition_with : ℕ → Option ℕ → List ℕ → Option (ArrayVec ℕ) → Partition
partition_with flag_word number extra text = record {
  location = 0xfc006002;
  flags = flag_word;
  id = number;
  families = record { items = extra };
  name = text;
}

-- the partition of sectors 2 to 3 with these flags and a name of these bytes, and without an id or
-- extra families
abbrev pub named_partition_of : ℕ → List ℕ → Partition
named_partition_of flag_word bytes =
    partition_with flag_word None [] (Some (record { items = bytes }))

-- the name of the greatest length, each byte of which is the greatest one
abbrev pub longest_name : ArrayVec ℕ
longest_name = record { items = replicate 127 255 }

-- the partition of the greatest words, id, families and name
abbrev pub widest_partition : Partition
widest_partition = record {
  location = 0xffffffff;
  flags = 0xffffffff;
  id = Some 0xffffffffffffffff;
  families = record { items = 0xffffffff ∷ 0xffffffff ∷ 0xffffffff ∷ [] };
  name = Some longest_name;
}

-- the table of this version, this unpartitioned word and that partition
abbrev pub versioned_table : ℕ → ℕ → ℕ → Table
versioned_table high low word = record {
  version = record { major = high; minor = low };
  singleton = true;
  unpartitioned = word;
  parts = record { items = widest_partition ∷ [] };
}

-- the table of that partition, of 39 words, two partitions of 34 words with the longest name, and
-- a third such partition with these extra families; the partitions have one word before them, the
-- item's header, and 17 words of the block around them; so the table is written in 160 words where
-- there is no extra family
abbrev pub long_table : ℕ → List ℕ → Table
long_table flag_word extra =
    table_with
    (widest_partition
    ∷ named_partition_of 0x1000 longest_name.items
    ∷ named_partition_of 0x1000 longest_name.items
    ∷ partition_with flag_word None extra (Some longest_name) ∷ [])

-- a pair of images, sectors 2 to 9 and 10 to 17, and a pair of data, sectors 18 to 25 and 26 to
-- 33; the first image partition is the owner of the A of the data
abbrev pub owned_items : List ℕ
owned_items =
    0x04000a0a ∷ 0xfc008000 ∷ 0xfc012002 ∷ 0xfc020000 ∷ 0xfc02200a ∷ 0xfc020002 ∷ 0xfc032012
    ∷ 0xfc010004
    ∷ 0xfc04201a ∷ 0xfc010012 ∷ []

-- the table of the item words above
abbrev pub owned_table : Table
owned_table =
    table_with
    (plain_partition 0xfc012002 0xfc020000 ∷ plain_partition 0xfc02200a 0xfc020002
    ∷ plain_partition 0xfc032012 0xfc010004
    ∷ plain_partition 0xfc04201a 0xfc010012 ∷ [])

-- the table of two partitions; the bootloader may not write the first, and may not write the
-- unpartitioned sectors
abbrev pub guarded_table : Table
guarded_table = record {
  version = record { major = 0; minor = 0 };
  singleton = false;
  unpartitioned = 0x7c000000;
  parts = record {
    items = plain_partition 0x7c03e002 0x7c020000
        ∷ plain_partition 0xfc07a020 0xfc020002 ∷ [];
  };
}

-- the table of two partitions; the bootloader may not read the first, and may not read the
-- unpartitioned sectors
abbrev pub unread_table : Table
unread_table = record {
  version = record { major = 0; minor = 0 };
  singleton = false;
  unpartitioned = 0xbc000000;
  parts = record {
    items = plain_partition 0xbc03e002 0xbc020000
        ∷ plain_partition 0xfc07a020 0xfc020002 ∷ [];
  };
}

-- the items that are written for the pair's table: its version 0.0, the count of the 11 words
-- before the digest, and their SHA-256, which another program computed
abbrev pub pair_digest : List ℕ
pair_digest =
    0xa3e4cc17 ∷ 0x575b5c0a ∷ 0xb635cc2f ∷ 0xb84edf57 ∷ 0x3084ded1 ∷ 0xe1c8ec62 ∷ 0xbe5df4e2
    ∷ 0x76fdfd91 ∷ []

abbrev pub pair_hashed : List ℕ
pair_hashed = pair_and (0x00000248 ∷ 0 ∷ 0x01000247 ∷ 11 ∷ 0x0000094b ∷ pair_digest)

-- the items of the pair's table with bit 0 of the digest's first byte inverted
abbrev pub pair_misdigested : List ℕ
pair_misdigested =
    pair_and (0x00000248 ∷ 0 ∷ 0x01000247 ∷ 11 ∷ 0x0000094b ∷ 0xa3e4cc16 ∷ drop 1 pair_digest)

-- the items of the pair's table with bit 0 of the digest's last byte inverted
abbrev pub pair_misdigested_last : List ℕ
pair_misdigested_last =
    pair_and
    (0x00000248 ∷ 0 ∷ 0x01000247 ∷ 11 ∷ 0x0000094b ∷ 0xa3e4cc17 ∷ 0x575b5c0a ∷ 0xb635cc2f
    ∷ 0xb84edf57 ∷ 0x3084ded1
    ∷ 0xe1c8ec62 ∷ 0xbe5df4e2 ∷ 0x77fdfd91 ∷ [])
