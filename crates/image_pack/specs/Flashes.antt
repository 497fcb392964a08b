-- Flashes that are made of a number, to be compared.
use Rattle.std.specs.Prelude.{ℕ, ◌+◌, ◌/◌, ◌%◌, ◌^◌, false, List, [], ◌∷◌, ◌++◌, None}
use Rattle.pico_board.specs.declared.boot.Cpu.TheVariants.{Arm}
use Rattle.part_table.specs.declared.partition.Partition.{Partition}
use Rattle.part_table.specs.declared.table.Table.{Table}
use Rattle.part_table.specs.Written.{written_table}
use Rattle.image_pack.specs.declared.spec.SealSpec.{SealSpec}
use Rattle.image_pack.specs.Filling.{padded}
use Rattle.image_pack.specs.Sealing.{sealed_text}
use Rattle.image_pack.specs.Streams.{binary_of}

-- a partition of a location word and a flag word alone
abbrev pub plain_part : ℕ → ℕ → Partition
plain_part location flags = record {
  location = location;
  flags = flags;
  id = None;
  families = record { items = [] };
  name = None;
}

-- the table of a made flash: version 1.0, and a pair of partitions with all rights; the first has
-- the sectors 2 to 65, and the second, its B, the sectors 66 to 129; the first accepts images for
-- Arm
unfoldable pub made_table : Table
made_table = record {
  version = record { major = 1; minor = 0 };
  singleton = false;
  unpartitioned = 0xfc008000;
  parts =
      record { items = plain_part 0xfc082002 0xfc020000 ∷ plain_part 0xfc102042 0xfc020002 ∷ [] };
}

-- the spec of an image for Arm of version 1.minor, without rows and no trial
abbrev pub made_spec : ℕ → SealSpec
made_spec minor = record {
  cpu = Arm;
  version = record { major = 1; minor = minor };
  rollback = None;
  rows = record { items = [] };
  trial = false;
}

-- the sealed image of version 1.minor on the binary of a seed
unfoldable pub made_image : ℕ → ℕ → List ℕ
made_image seed minor = sealed_text (binary_of seed) (made_spec minor)

-- the flash of number n, of 1,048,576 bytes: the table at 0; the image of seed n and version 1.(n
-- mod 10) at 0x2000; and the image of seed n + 1 and version 1.((n / 10) mod 10) at 0x42000
abbrev pub generated : ℕ → List ℕ
generated n =
    padded 0x2000 (written_table made_table)
    ++ (padded 0x40000 (made_image n (n % 10))
    ++ padded 0xbe000 (made_image ((n + 1) % 2 ^ 32) (n / 10 % 10)))
