-- The item kinds that an image definition reads (RP2350 Datasheet, chapter 5, "Image definition
-- items").
use Rattle.std.specs.Prelude.{ℕ, ◌==◌, ◌&&◌, nat_le, if◌then◌else◌, Bool, true, is_some, Option, Some, None}
use Rattle.std.specs.Option.{option_map_or}
use Rattle.block_codec.specs.declared.items.Item.{Item}
use Rattle.block_codec.specs.declared.kinds.TheConstants.{IMAGE_TYPE, VECTOR_TABLE, ENTRY_POINT, WINDOW_DELTA, LOAD_MAP, HASH_DEF, VERSION, HASH_VALUE}
use Rattle.image_def.specs.declared.kinds.ItemSize.{ItemSize}

-- a size of at least and at most so many words
abbrev pub between : ℕ → ℕ → Option ItemSize
between least most = Some (record { least = least; most = most })

-- the kinds that are read, each with the fewest and the most words of an item of it: a load map has
-- at most 127 entries of three words, and a version at most 32 rows of half a word
abbrev pub size_of_kind : ℕ → Option ItemSize
size_of_kind kind =
    if kind == IMAGE_TYPE then between 1 1
    else if kind == VECTOR_TABLE then between 2 2
    else if kind == ENTRY_POINT then between 3 4
    else if kind == WINDOW_DELTA then between 2 2
    else if kind == LOAD_MAP then between 1 382
    else if kind == HASH_DEF then between 2 2
    else if kind == VERSION then between 2 19
    else if kind == HASH_VALUE then between 9 9
    else None

-- an image definition reads items of a kind; all others are passed over
abbrev pub is_read_kind : ℕ → Bool
is_read_kind kind = is_some (size_of_kind kind)

-- an item has as many words as one of a kind may have
abbrev pub has_right_size : ℕ → Item → Bool
has_right_size kind item =
    option_map_or (λ (size : ItemSize). nat_le size.least item.words && nat_le item.words size.most)
    (size_of_kind kind) true
