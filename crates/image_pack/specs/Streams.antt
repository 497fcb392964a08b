-- Bytes made of a number, and a binary of them, for flashes that are made to be compared. This
-- project's own. The vector bytes and the block are those of the minimal image for Arm (RP2350
-- Datasheet, chapter 5, Bootrom, "Minimum viable image").
use Rattle.std.specs.Prelude.{ℕ, zero, suc, pos, ◌+◌, ◌*◌, ◌/◌, ◌%◌, ◌^◌, List, [], ◌∷◌, ◌++◌}
use Rattle.block_codec.specs.Blocks.{frame}
use Rattle.block_codec.specs.Words.{bytes_of}

-- the number that follows x in its stream
abbrev pub next_of : ℕ → ℕ
next_of x = (1664525 * x + 1013904223) % 2 ^ 32

-- n bytes of the stream of a seed: before each byte the seed becomes the number that follows, and
-- the byte is the topmost of that number
unfoldable pub stream : ℕ → ℕ → List ℕ
stream zero x = []
stream (suc n) x = next_of x / 2 ^ 24 ∷ stream n (next_of x)

-- the vector bytes of the minimal image, which are its stack pointer and its first code address,
-- and its block of one IMAGE_TYPE item for Arm with link 0
unfoldable pub least_text : List ℕ
least_text =
    bytes_of (0x20082000 ∷ 0x10000201 ∷ []) ++ bytes_of (frame (0x10210142 ∷ []) (pos 0))

-- a binary of 200,000 bytes: the minimal image, and then the stream of a seed
unfoldable pub binary_of : ℕ → List ℕ
binary_of seed = least_text ++ stream 199972 seed
