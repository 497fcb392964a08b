-- Worked examples of downloads that are begun, and of contents from which steps come to one end.
use Rattle.std.specs.Prelude.{ℕ, Bool, false, [], ◌∷◌}
use Rattle.pico_board.specs.Content.{Content}
use Rattle.part_table.specs.declared.Target.{Target}
use Rattle.slot_choice.specs.Examples.{window_at}
use Rattle.uf2_place.specs.declared.block.Uf2.{Uf2}
use Rattle.check_records.specs.declared.downloads.Beginning.{Beginning}
use Rattle.check_records.specs.declared.noting.Open.{Open}

-- a download that begins with this block
abbrev pub begun_with : ℕ → ℕ → ℕ → Beginning
begun_with family count number =
    record { kind = record { family = family; count = count }; number = number }

-- one of two blocks of rp2350-arm-s, begun with the first
abbrev pub arm_of_two : Beginning
arm_of_two = begun_with 0xe48bff59 2 0

-- block 0 of 2 of the absolute family
abbrev pub erratum_block : Beginning
erratum_block = begun_with 0xe48bff57 2 0

-- a download that the event of this number begins
abbrev pub open_at : ℕ → Beginning → Open
open_at number b = record { number = number; kind = b.kind }

-- a flash of these two bytes, and two rows
abbrev pub short_content : ℕ → ℕ → ℕ → ℕ → Content
short_content first second row next =
    record { flash = first ∷ second ∷ []; otp = row ∷ next ∷ [] }

-- a target that is gated or not
abbrev pub target_of : Bool → Target
target_of gated = record { window = window_at 0x2000 0x2000; gated = gated; stay = false }

-- the first of two blocks with these flags, of this family, for the page at this address
abbrev pub block_of : ℕ → ℕ → ℕ → Uf2
block_of flags family address = record {
  flags = flags;
  address = address;
  number = 0;
  count = 2;
  family = family;
  page = [];
}
