-- Blocks, by the form of the RP2350 Datasheet (chapter 5, Bootrom, "Blocks and block loops"), as a
-- grammar on whole lists of bytes.
use Rattle.std.specs.Prelude.{◌≡◌, ℕ, ◌+◌, ◌*◌, ◌%◌, ◌≤◌, ◌<◌, ◌^◌, ℤ, List, [], ◌∷◌, ◌++◌, length, take, drop, FitsSigned}
use Rattle.std.specs.Int.{cast_unsigned, w32}
use Rattle.block_codec.specs.Words.{bytes_of, AreWords}
use Rattle.block_codec.specs.Items.{AreItems}

-- what contracts see of a block: the offset of its first byte in its window, its item words, and
-- its link; the link is the signed offset in bytes from its first byte to the next block's
pub record BlockView : Type 0 where
  pub at : ℕ
  pub items : List ℕ
  pub link : ℤ

-- the word that a block starts with
abbrev pub start_word : ℕ
start_word = 0xffffded3

-- the word that a block ends with
abbrev pub end_word : ℕ
end_word = 0xab123579

-- the last item: type byte 0xff, the number of words of all items before it in two bytes, and a
-- byte 0
abbrev pub last_item : ℕ → ℕ
last_item count = 255 + 256 * count

-- all words of the block with these item words and this link
unfoldable pub frame : List ℕ → ℤ → List ℕ
frame items link =
    start_word ∷ (items ++ (last_item (length items) ∷ cast_unsigned w32 link ∷ end_word ∷ []))

-- all words of a block
abbrev pub block_words : BlockView → List ℕ
block_words b = frame b.items b.link

-- the size of a block in bytes
abbrev pub block_size : BlockView → ℕ
block_size b = 4 * length b.items + 16

-- the bytes p are exactly the block of these item words, at most 156, and this link
pub record IsBlock (p items : List ℕ) (link : ℤ) : Type 0 where
  pub spelled : p ≡ bytes_of (frame items link)
  pub whole : AreItems items
  pub few : length items ≤ 156
  pub words : AreWords items
  pub fits : FitsSigned w32 link

-- the bytes begin with block b, and x is its offset
pub record Begins (x : ℕ) (bytes : List ℕ) (b : BlockView) : Type 0 where
  pub placed : b.at ≡ x
  pub stands : IsBlock (take (block_size b) bytes) b.items b.link

-- the offset is a multiple of 4, and the bytes of list w from there on begin with block b
pub record BlockAt (w : List ℕ) (x : ℕ) (b : BlockView) : Type 0 where
  pub aligned : x % 4 ≡ 0
  pub placed : b.at ≡ x
  pub stands : IsBlock (take (block_size b) (drop x w)) b.items b.link

-- what is true of each block that was read: its item words are whole items, and its offset is a
-- multiple of 4 below 2^24
pub record IsWholeBlock (b : BlockView) : Type 0 where
  pub whole : AreItems b.items
  pub few : length b.items ≤ 156
  pub words : AreWords b.items
  pub fits : FitsSigned w32 b.link
  pub aligned : b.at % 4 ≡ 0
  pub near : b.at < 2 ^ 24
