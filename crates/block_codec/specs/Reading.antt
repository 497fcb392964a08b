-- The exact reader of the grammar of blocks, and its steps from the words to the block. The form
-- is that of the RP2350 Datasheet (chapter 5, Bootrom, "Blocks and block loops"); the reader is
-- this project's own.
use Rattle.std.specs.Prelude.{◌≡◌, ℕ, zero, suc, ◌+◌, ◌-◌, ◌*◌, ◌%◌, ◌≤◌, ◌==◌, ◌&&◌, Bool, true, false, if◌then◌else◌, List, [], ◌∷◌, length, take, drop, slice_index, Option, Some, None}
use Rattle.std.specs.Option.{option_map, option_and_then}
use Rattle.std.specs.Int.{cast_signed, w32}
use Rattle.block_codec.specs.Words.{word_of, words_of, are_bytes}
use Rattle.block_codec.specs.Items.{AreItems, size_of, type_byte}
use Rattle.block_codec.specs.Blocks.{BlockView, start_word, end_word, last_item}

-- after k words of an item that has begun, how many words come before the first header with type
-- byte 0xff; None where an item has size 0 or no such header comes
abbrev pub words_before : ℕ → List ℕ → Option ℕ
words_before k [] = None
words_before zero (h ∷ ws) =
    if type_byte h == 255 then Some 0
    else (if size_of h == 0 then None else option_map suc (words_before (size_of h - 1) ws))
words_before (suc k) (w ∷ ws) = option_map suc (words_before k ws)

-- the number of item words, where the right last item stands after them and the end word two words
-- further
abbrev pub if_ended : List ℕ → ℕ → Option ℕ
if_ended ws n =
    if slice_index ws (n + 1) == last_item n && slice_index ws (n + 3) == end_word
    then Some n
    else None

-- the number of item words of the block that begins a list of words with the start word
unfoldable pub item_words : List ℕ → Option ℕ
item_words ws = option_and_then (if_ended ws) (words_before 0 (drop 1 ws))

-- the block at an offset with the first n of the words after the start word as its item words,
-- where the numbers that it was read from are bytes
abbrev pub framed_block : ℕ → List ℕ → List ℕ → ℕ → Option BlockView
framed_block x bytes ws n =
    if are_bytes (take (4 * n + 16) bytes)
    then Some (record {
      at = x;
      items = take n (drop 1 ws);
      link = cast_signed w32 (slice_index ws (n + 2));
    })
    else None

-- the block at the front of bytes that begin with the start word, or not; it has at most 640 bytes
abbrev pub begun_block : Bool → ℕ → List ℕ → Option BlockView
begun_block false x bytes = None
begun_block true x bytes =
    let ws = words_of (take 640 bytes) in
    option_and_then (framed_block x bytes ws) (item_words ws)

-- the block at the front of the bytes, with x as its offset; None where no prefix of them is a
-- block
unfoldable pub front_block : ℕ → List ℕ → Option BlockView
front_block x bytes = begun_block (word_of bytes == start_word) x bytes

-- the block at the front of the bytes from an offset on that is a multiple of 4, or not
abbrev pub aligned_block : Bool → ℕ → List ℕ → Option BlockView
aligned_block false x w = None
aligned_block true x w = front_block x (drop x w)

-- the whole block at an offset of list w; None where the offset is no multiple of 4 or no block
-- stands there
unfoldable pub block_at : List ℕ → ℕ → Option BlockView
block_at w x = aligned_block (x % 4 == 0) x w

-- the number of item words of the block that begins a list of words
abbrev pub framed_words : List ℕ → Option ℕ
framed_words ws = if slice_index ws 0 == start_word then item_words ws else None

-- the start word, n whole item words, their last item, a link and the end word begin the words
pub record IsFramed (ws : List ℕ) (n : ℕ) : Type 0 where
  pub inside : n + 4 ≤ length ws
  pub items : AreItems (take n (drop 1 ws))
  pub last : slice_index ws (n + 1) ≡ last_item n
  pub end_ : slice_index ws (n + 3) ≡ end_word

-- the block at an offset of framed words
abbrev pub view_of : ℕ → List ℕ → ℕ → BlockView
view_of x ws n = record {
  at = x;
  items = take n (drop 1 ws);
  link = cast_signed w32 (slice_index ws (n + 2));
}
