-- A change of the fourth byte of an IMAGE_TYPE header. A buy makes such a change, and clears the
-- trial bit by it (RP2350 Datasheet, chapter 5, Bootrom, "Try before you buy").
use Rattle.std.specs.Prelude.{◌≡◌, ◌≢◌, ℕ, ◌+◌, ◌-◌, ◌*◌, ◌/◌, ◌%◌, ◌<◌, ◌≤◌, ◌==◌, ◌&&◌, nat_le, nat_lt, if◌then◌else◌, List, length, slice_index, slice_set}
use Rattle.std.specs.Int.{cast_signed, w32}
use Rattle.block_codec.specs.Blocks.{BlockView}
use Rattle.block_codec.specs.Items.{high_byte}
use Rattle.block_codec.specs.declared.items.Item.{Item}

-- v is w but for the fourth byte of the word at offset a; a is a multiple of 4, and the first byte
-- of this word is the type byte of IMAGE_TYPE
pub record ChangesHighByte (w v : List ℕ) (a : ℕ) : Type 0 where
  pub aligned : a % 4 ≡ 0
  pub inside : a + 4 ≤ length w
  pub long : length v ≡ length w
  pub kind : slice_index w a ≡ 0x42
  pub old : slice_index w (a + 3) < 256
  pub new : slice_index v (a + 3) < 256
  pub others : (i : ℕ) → i ≢ a + 3 → slice_index v i ≡ slice_index w i

-- the block with u as the word at offset a of its window: among its items, as its link, or neither
abbrev pub changed_block : ℕ → ℕ → BlockView → BlockView
changed_block a u b =
    if nat_le (b.at + 4) a && nat_lt a (b.at + 4 + 4 * length b.items)
    then record { at = b.at; items = slice_set b.items ((a - (b.at + 4)) / 4) u; link = b.link }
    else (if a == b.at + 8 + 4 * length b.items
    then record { at = b.at; items = b.items; link = cast_signed w32 u }
    else b)

-- the item with the fourth byte of header u, where its header stands at a word of its block
abbrev pub with_high : ℕ → ℕ → Item → Item
with_high place u item =
    if item.first == place
    then record {
      first = item.first;
      words = item.words;
      kind = item.kind;
      low = item.low;
      high = high_byte u;
    }
    else item
