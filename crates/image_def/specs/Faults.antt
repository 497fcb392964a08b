-- The faults of the items of a block, and the first of them (RP2350 Datasheet, chapter 5, "Image
-- definition items"; the faults and their order are this project's own).
use Rattle.std.specs.Prelude.{◌≡◌, ◌⊎◌, ℕ, ◌+◌, ◌*◌, ◌%◌, Bool, true, false, not, ◌&&◌, if◌then◌else◌, ◌==◌, nat_le, List, length, slice_get, is_some, Option, Some, None, option_map, option_and_then, unwrap_or}
use Rattle.std.specs.List.{list_any}
use Rattle.std.specs.Option.{option_or}
use Rattle.block_codec.specs.declared.items.Item.{Item}
use Rattle.block_codec.specs.declared.kinds.TheConstants.{LOAD_MAP, HASH_DEF, VERSION, HASH_VALUE}
use Rattle.block_codec.specs.Items.{items_of}
use Rattle.block_codec.specs.Blocks.{BlockView, block_words}
use Rattle.block_codec.specs.Kinds.{first_spelling, is_of_kind, item_of_kind, version_of, hash_count_of}
use Rattle.block_codec.specs.FirstFault.{first_fault, IsFirst, AreSound}
use Rattle.image_def.specs.declared.fault.DefFault.{DefFault}
use Rattle.image_def.specs.declared.fault.DefFault.TheVariants.{Repeated, BadItem}
use Rattle.image_def.specs.Kinds.{has_right_size, is_read_kind}
use Rattle.image_def.specs.Rows.{rollback_in, rows_in, row_fault}

-- a VERSION item of the right size, with at most 32 rows; its rollback version is at most 24 for
-- each row
abbrev pub is_right_version : List ℕ → Item → Bool
is_right_version words item =
    is_some (version_of words item) && nat_le item.high 32
    && nat_le (unwrap_or (rollback_in words item) 0) (24 * item.high)

-- what an item's kind asks for beyond the bounds of its size: the exact size of a load map or of a
-- version, the algorithm of a hash, and the bounds of rows
abbrev pub is_right_inside : ℕ → List ℕ → Item → Bool
is_right_inside kind words item =
    if kind == LOAD_MAP then item.words == 1 + 3 * (item.high % 128)
    else if kind == HASH_DEF then is_some (hash_count_of words item)
    else if kind == VERSION then is_right_version words item
    else true

-- an item has the size, and the header byte, that its kind asks for
abbrev pub is_well_formed_as : ℕ → List ℕ → Item → Bool
is_well_formed_as kind words item =
    has_right_size kind item && is_right_inside kind words item

-- an item has the size, and the header byte, that the kind named by its type byte asks for
abbrev pub is_well_formed : List ℕ → Item → Bool
is_well_formed words item = is_well_formed_as (first_spelling item.kind) words item

-- the fault of an item after the items before it
abbrev pub item_fault : List ℕ → List Item → Item → Option DefFault
item_fault words before item =
    let kind = first_spelling item.kind in
    if not (is_read_kind kind) then None
    else if list_any (is_of_kind kind) before then Some (Repeated kind)
    else if not (is_well_formed words item) then Some (BadItem kind)
    else if kind == VERSION then first_fault row_fault (rows_in words item)
    else None

-- the fault of the first item of a block that has one
abbrev pub first_item_fault : BlockView → Option DefFault
first_item_fault b = first_fault (item_fault (block_words b)) (items_of b.items)

-- the fault that is judged after all items: by the place of the HASH_VALUE item, the number of
-- words that the HASH_DEF item names, and the number of the block's words
abbrev pub hashed_fault : Option ℕ → Option ℕ → ℕ → Option DefFault
hashed_fault (Some place) None size = Some (BadItem HASH_VALUE)
hashed_fault (Some place) (Some count) size =
    if nat_le count place then None else Some (BadItem HASH_DEF)
hashed_fault None (Some count) size = if nat_le count size then None else Some (BadItem HASH_DEF)
hashed_fault None None size = None

-- the number of block words that are hashed, where a HASH_DEF item names it
abbrev pub hash_count_in : List ℕ → List Item → Option ℕ
hash_count_in words items = option_and_then (hash_count_of words) (item_of_kind HASH_DEF items)

-- the word index at which the HASH_VALUE item begins, where there is one
abbrev pub hash_value_place : List Item → Option ℕ
hash_value_place items = option_map (λ item. item.first) (item_of_kind HASH_VALUE items)

-- the fault that is judged after all items
abbrev pub last_fault : List ℕ → List Item → Option DefFault
last_fault words items =
    hashed_fault (hash_value_place items) (hash_count_in words items) (length words)

-- the first fault of a block: that of the first item that has one, or else the one that is judged
-- after all items
abbrev pub def_fault : List ℕ → List Item → Option DefFault
def_fault words items = option_or (first_fault (item_fault words) items) (last_fault words items)

-- before an item comes one of this kind
abbrev pub IsRepeated : ℕ → List Item → Type 0
IsRepeated kind before =
    (j : ℕ) × (other : Item) × (slice_get before j ≡ Some other) × (is_of_kind kind other ≡ true)

-- an item of a kind that is read, the first of that kind, has the right size and header byte; the
-- kind is VERSION
pub record ListsRows (words : List ℕ) (before : List Item) (item : Item) : Type 0 where
  pub kind : is_of_kind VERSION item ≡ true
  pub first : IsRepeated VERSION before → ⊥
  pub right : is_right_version words item ≡ true

-- f is the fault of an item after the items before it: an item of its kind came before; or it is
-- the first of its kind and wrong; or it is a right VERSION item, and f is the first fault of its
-- rows
abbrev pub IsItemFault : List ℕ → List Item → Item → DefFault → Type 0
IsItemFault words before item (Repeated kind) =
    (is_read_kind kind ≡ true) × (is_of_kind kind item ≡ true) × IsRepeated kind before
IsItemFault words before item (BadItem kind) =
    (is_read_kind kind ≡ true) × (is_of_kind kind item ≡ true) × (IsRepeated kind before → ⊥)
    × (is_well_formed_as kind words item ≡ false)
IsItemFault words before item f =
    ListsRows words before item × ((i : ℕ) × IsFirst row_fault (rows_in words item) i f)

-- no item has a fault, and none is found after all items
pub record IsFaultless (b : BlockView) : Type 0 where
  pub items : AreSound (item_fault (block_words b)) (items_of b.items) (length (items_of b.items))
  pub after : last_fault (block_words b) (items_of b.items) ≡ None

-- f is the first fault of a block: that of the first item that has one, judged by the items before
-- it; or no item has a fault, and f is the one that is judged after all items
abbrev pub IsDefFault : BlockView → DefFault → Type 0
IsDefFault b f =
    let words = block_words b in
    let items = items_of b.items in
    ((i : ℕ) × IsFirst (item_fault words) items i f)
    ⊎ (AreSound (item_fault words) items (length items) × (last_fault words items ≡ Some f))
