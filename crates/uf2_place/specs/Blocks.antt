-- The form of a UF2 block: 512 bytes, 256 of them its payload. Source: the UF2 specification
-- (github.com/microsoft/uf2), section File format. That a payload has 256 bytes, a page of the
-- flash, is what picotool writes.
use Rattle.std.specs.Prelude.{◌≡◌, ℕ, Bool, not, ◌%◌, ◌^◌, ◌<◌, ◌≤◌, ◌&&◌, ◌==◌, nat_le, nat_lt, if◌then◌else◌, Result, Ok, Err, List, length, drop, slice_range, ◌++◌, replicate}
use Rattle.byteorder.specs.Endian.{little_bytes, little_number}
use Rattle.uf2_place.specs.declared.block.Uf2.{Uf2}
use Rattle.uf2_place.specs.declared.block.Uf2Fault.{Uf2Fault}
use Rattle.uf2_place.specs.declared.block.Uf2Fault.TheVariants.{Magic, Payload, Alignment, Number}
use Rattle.uf2_place.specs.declared.block.TheConstants.{START, SECOND, END, PAYLOAD, MOST_BLOCKS}

-- the little-endian word whose first byte has this place
abbrev pub word_at : List ℕ → ℕ → ℕ
word_at bytes at = little_number 4 (drop at bytes)

-- the words at 0, 4 and 508 are the three magic words
abbrev pub has_magic : List ℕ → Bool
has_magic bytes =
    word_at bytes 0 == START && (word_at bytes 4 == SECOND && word_at bytes 508 == END)

-- a file has 1 to 65,536 blocks, which are numbered from 0
abbrev pub is_number : ℕ → ℕ → Bool
is_number number count = nat_le 1 count && (nat_le count MOST_BLOCKS && nat_lt number count)

-- the fields of a block: flags at 8, address at 12, number at 20, count at 24, family at 28 and
-- the payload at 32
abbrev pub uf2_fields : List ℕ → Uf2
uf2_fields bytes = record {
  flags = word_at bytes 8;
  address = word_at bytes 12;
  number = word_at bytes 20;
  count = word_at bytes 24;
  family = word_at bytes 28;
  page = slice_range bytes 32 288;
}

-- the block of these bytes, or the first fault; the payload size stands at 16
abbrev pub uf2_of : List ℕ → Result Uf2 Uf2Fault
uf2_of bytes =
    if not (has_magic bytes) then Err Magic
    else if not (word_at bytes 16 == PAYLOAD) then Err Payload
    else if not (word_at bytes 12 % 256 == 0) then Err Alignment
    else if not (is_number (word_at bytes 20) (word_at bytes 24)) then Err Number
    else Ok (uf2_fields bytes)

-- a block as it is read: its fields are words; its address is a multiple of 256; its count is 1 to
-- 65,536; its number is below its count; and its payload has 256 bytes
pub record IsUf2 (b : Uf2) : Type 0 where
  pub flags : b.flags < 2 ^ 32
  pub address : b.address < 2 ^ 32
  pub aligned : b.address % 256 ≡ 0
  pub some : 1 ≤ b.count
  pub few : b.count ≤ MOST_BLOCKS
  pub number : b.number < b.count
  pub family : b.family < 2 ^ 32
  pub page : length b.page ≡ 256

-- the four bytes of a word, the lowest first
unfoldable pub word_bytes : ℕ → List ℕ
word_bytes w = little_bytes 4 w

-- the first half of a header: two magic words, the flags and the address
abbrev pub place_bytes : Uf2 → List ℕ
place_bytes b =
    word_bytes START ++ (word_bytes SECOND ++ (word_bytes b.flags ++ word_bytes b.address))

-- the second half: payload size, number, count and family
abbrev pub number_bytes : Uf2 → List ℕ
number_bytes b =
    word_bytes PAYLOAD ++ (word_bytes b.number ++ (word_bytes b.count ++ word_bytes b.family))

-- the bytes of a block, with 220 bytes 0 between its payload and its last word
unfoldable pub written_block : Uf2 → List ℕ
written_block b = place_bytes b ++ (number_bytes b
    ++ (b.page ++ (replicate 220 0 ++ word_bytes END)))
