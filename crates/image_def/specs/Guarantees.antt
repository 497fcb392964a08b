-- What is true of each definition that a block gives, for callers that rely on it.
use Rattle.std.specs.Prelude.{◌≡◌, ◌↔◌, ℕ, ◌+◌, ◌*◌, ◌%◌, ◌^◌, ◌<◌, ◌≤◌, true, List, [], length, slice_get, Some, None, IfSome}
use Rattle.block_codec.specs.declared.items.Item.{Item}
use Rattle.block_codec.specs.declared.kinds.TheConstants.{LOAD_MAP, HASH_VALUE}
use Rattle.block_codec.specs.declared.definition.Def.{Def}
use Rattle.block_codec.specs.Blocks.{BlockView, block_words}
use Rattle.block_codec.specs.Items.{items_of}
use Rattle.block_codec.specs.Kinds.{is_of_kind, item_of_kind, digest_of}
use Rattle.otp_roll.specs.Rows.{AreRollbackRows, IsRollbackVersion}
use Rattle.image_def.specs.Flags.{flags_of}
use Rattle.image_def.specs.Suits.{image_type_of}

-- the first IMAGE_TYPE item of a block, whose flags and place these are; it is one word among the
-- block's items
pub record IsImageItem (b : BlockView) (flags place : ℕ) (item : Item) : Type 0 where
  pub first : image_type_of b ≡ Some item
  pub size : item.words ≡ 1
  pub flags_are : flags ≡ flags_of item
  pub stands : place ≡ item.first
  pub above : 1 ≤ place
  pub inside : place ≤ length b.items

-- the item with index i of a block is a LOAD_MAP item, of three words for each of its entries
pub record IsLoadMapItem (b : BlockView) (i : ℕ) (item : Item) : Type 0 where
  pub at : slice_get (items_of b.items) i ≡ Some item
  pub kind : is_of_kind LOAD_MAP item ≡ true
  pub size : item.words ≡ 1 + 3 * (item.high % 128)

-- these 32 bytes are the digest of the block's HASH_VALUE item, and so many words end before it
pub record IsDigestItem (b : BlockView) (words : ℕ) (digest : List ℕ) (item : Item) : Type 0 where
  pub first : item_of_kind HASH_VALUE (items_of b.items) ≡ Some item
  pub is : digest_of (block_words b) item ≡ Some digest
  pub long : length digest ≡ 32
  pub behind : words ≤ item.first

-- what callers may assume of the definition that a block gives
pub record IsDefinition (b : BlockView) (def : Def) : Type 0 where
  pub flags : def.flags < 2 ^ 16
  pub image : (item : Item) × IsImageItem b def.flags def.image_word item
  pub map : IfSome def.map_item (λ i. (item : Item) × IsLoadMapItem b i item)
  pub map_index : IfSome def.map_item (λ i. i < length (items_of b.items))
  pub hashed : def.hash_words ≤ length b.items + 4
  pub digest : IfSome def.digest (λ d. (item : Item) × IsDigestItem b def.hash_words d item)
  pub rows : AreRollbackRows def.rows.items
  pub rollback : IfSome def.rollback (λ version. IsRollbackVersion version def.rows.items)
  pub listed : (def.rollback ≡ None) ↔ (def.rows.items ≡ [])
