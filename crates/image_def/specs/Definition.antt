-- The definition that a block gives, or its first fault (RP2350 Datasheet, chapter 5, "Image
-- definition items"; the faults and their order are this project's own).
use Rattle.std.specs.Prelude.{ℕ, ℤ, ◌+◌, pos, if◌then◌else◌, ◌==◌, List, [], slice_index, position, Result, option_map, option_and_then, unwrap_or}
use Rattle.std.specs.Option.{option_map_or}
use Rattle.std.specs.Int.{w32, cast_signed}
use Rattle.block_codec.specs.declared.items.Item.{Item}
use Rattle.block_codec.specs.declared.kinds.TheConstants.{IMAGE_TYPE, VECTOR_TABLE, ENTRY_POINT, WINDOW_DELTA, LOAD_MAP, VERSION, HASH_VALUE}
use Rattle.block_codec.specs.declared.versions.Version.{Version}
use Rattle.block_codec.specs.declared.definition.Def.{Def}
use Rattle.block_codec.specs.declared.definition.EntryPoint.{EntryPoint}
use Rattle.block_codec.specs.Items.{items_of}
use Rattle.block_codec.specs.Blocks.{BlockView, block_words}
use Rattle.block_codec.specs.Kinds.{is_of_kind, item_of_kind, version_of, digest_of}
use Rattle.block_codec.specs.FirstFault.{ok_unless}
use Rattle.image_def.specs.declared.fault.DefFault.{DefFault}
use Rattle.image_def.specs.Flags.{flags_of}
use Rattle.image_def.specs.Rows.{rollback_in, rows_in}
use Rattle.image_def.specs.Faults.{hash_count_in, def_fault}

-- the word after an item's header
abbrev pub second_word : List ℕ → Item → ℕ
second_word words item = slice_index words (item.first + 1)

-- the signed delta of a ROLLING_WINDOW_DELTA item
abbrev pub delta_in : List ℕ → Item → ℤ
delta_in words item = cast_signed w32 (second_word words item)

-- PC and SP of an ENTRY_POINT item, and its limit, or 0 where it has none
abbrev pub entry_point_in : List ℕ → Item → EntryPoint
entry_point_in words item = record {
  pc = slice_index words (item.first + 1);
  sp = slice_index words (item.first + 2);
  limit = if item.words == 4 then slice_index words (item.first + 3) else 0;
}

-- 0.0, the version of a block without a VERSION item
abbrev pub no_version : Version
no_version = record { major = 0; minor = 0 }

-- each field is that of the only item of its kind
abbrev pub def_record : List ℕ → List Item → Def
def_record words items = record {
  flags = option_map_or flags_of (item_of_kind IMAGE_TYPE items) 0;
  image_word = option_map_or (λ item. item.first) (item_of_kind IMAGE_TYPE items) 0;
  vector = option_map (second_word words) (item_of_kind VECTOR_TABLE items);
  entry_point = option_map (entry_point_in words) (item_of_kind ENTRY_POINT items);
  delta = option_map_or (delta_in words) (item_of_kind WINDOW_DELTA items) (pos 0);
  map_item = position (is_of_kind LOAD_MAP) items;
  hash_words = unwrap_or (hash_count_in words items) 0;
  digest = option_and_then (digest_of words) (item_of_kind HASH_VALUE items);
  version = unwrap_or (option_and_then (version_of words) (item_of_kind VERSION items)) no_version;
  rollback = option_and_then (rollback_in words) (item_of_kind VERSION items);
  rows = record { items = option_map_or (rows_in words) (item_of_kind VERSION items) [] };
}

-- the definition of a block, or its first fault
unfoldable pub def_of : BlockView → Result Def DefFault
def_of b =
    let words = block_words b in
    let items = items_of b.items in
    ok_unless (def_fault words items) (def_record words items)
