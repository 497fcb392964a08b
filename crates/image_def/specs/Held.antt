-- What is known of an item of a block that gives a definition.
use Rattle.std.specs.Prelude.{◌≡◌, ◌≤◌, Contains, ℕ}
use Rattle.block_codec.specs.declared.items.Item.{Item}
use Rattle.block_codec.specs.declared.kinds.TheConstants.{VERSION}
use Rattle.block_codec.specs.Kinds.{version_words}
use Rattle.block_codec.specs.Items.{items_of}
use Rattle.block_codec.specs.Blocks.{BlockView}

-- the item is one of the block's, and has at least so many words
pub record IsHeldItem (b : BlockView) (words : ℕ) (item : Item) : Type 0 where
  pub of_block : Contains (items_of b.items) item
  pub size : words ≤ item.words

-- the item is a VERSION item of the block, of the right size and with at most 32 rows
pub record IsVersion (b : BlockView) (item : Item) : Type 0 where
  pub of_block : Contains (items_of b.items) item
  pub kind : item.kind ≡ VERSION
  pub size : item.words ≡ version_words item.high
  pub few : item.high ≤ 32
