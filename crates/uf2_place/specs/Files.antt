-- The UF2 file of an image. Source: the UF2 specification (github.com/microsoft/uf2). This
-- project's own are: addresses begin at 0x10000000; the fill byte; and the zeros after a payload.
use Rattle.std.specs.Prelude.{ℕ, ◌+◌, ◌-◌, ◌*◌, ◌/◌, List, ◌++◌, ◌≡◌, take, length, map, flat_map, replicate, slice_range}
use Rattle.std.specs.List.{range_with_len}
use Rattle.pico_board.specs.Content.{flash_base}
use Rattle.uf2_place.specs.declared.block.Uf2.{Uf2}
use Rattle.uf2_place.specs.declared.block.TheConstants.{HAS_FAMILY}
use Rattle.uf2_place.specs.Blocks.{written_block}

-- how many pages hold so many bytes
abbrev pub page_count : ℕ → ℕ
page_count n = (n + 255) / 256

-- a part of a page, filled up with 0xff
abbrev pub filled_page : List ℕ → List ℕ
filled_page part = part ++ replicate (256 - length part) 255

-- page number i of the image
abbrev pub page_of : List ℕ → ℕ → List ℕ
page_of image i = filled_page (slice_range image (256 * i) (256 * i + 256))

-- block number i of the file
abbrev pub file_block : List ℕ → ℕ → ℕ → Uf2
file_block image family i = record {
  flags = HAS_FAMILY;
  address = flash_base + 256 * i;
  number = i;
  count = page_count (length image);
  family = family;
  page = page_of image i;
}

-- the blocks of the file, in their order
abbrev pub file_blocks : List ℕ → ℕ → List Uf2
file_blocks image family =
    map (file_block image family) (range_with_len 0 (page_count (length image)))

-- the bytes of the file
abbrev pub file_bytes : List ℕ → ℕ → List ℕ
file_bytes image family = flat_map written_block (file_blocks image family)

-- the former bytes stand at the front
abbrev pub IsKept : List ℕ → List ℕ → Type 0
IsKept old new = take (length old) new ≡ old
