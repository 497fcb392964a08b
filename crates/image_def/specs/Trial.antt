-- A block with its trial bit cleared, as a buy leaves it (RP2350 Datasheet, chapter 5, Bootrom,
-- "Try before you buy").
use Rattle.std.specs.Prelude.{ℕ, ◌-◌, ◌%◌, ◌^◌, slice_index, slice_set, Result, Ok, Err}
use Rattle.std.specs.Option.{option_map_or}
use Rattle.block_codec.specs.declared.definition.Def.{Def}
use Rattle.block_codec.specs.Blocks.{BlockView}
use Rattle.image_def.specs.declared.fault.DefFault.{DefFault}
use Rattle.image_def.specs.Suits.{image_type_of}

-- the block with the topmost bit cleared of its word at this place, which is a word of its items
abbrev pub top_cleared : BlockView → ℕ → BlockView
top_cleared b place = record {
  at = b.at;
  items = slice_set b.items (place - 1) (slice_index b.items (place - 1) % 2 ^ 31);
  link = b.link;
}

-- the block with the trial bit of its first IMAGE_TYPE item cleared
abbrev pub trial_cleared : BlockView → BlockView
trial_cleared b = option_map_or (λ item. top_cleared b item.first) (image_type_of b) b

-- the definition without the trial bit, the topmost of its flags
abbrev pub untried : Def → Def
untried def = record {
  flags = def.flags % 2 ^ 15;
  image_word = def.image_word;
  vector = def.vector;
  entry_point = def.entry_point;
  delta = def.delta;
  map_item = def.map_item;
  hash_words = def.hash_words;
  digest = def.digest;
  version = def.version;
  rollback = def.rollback;
  rows = def.rows;
}

-- the definition without the trial bit where there is a definition, or the fault as it is
abbrev pub untried_answer : Result Def DefFault → Result Def DefFault
untried_answer (Ok def) = Ok (untried def)
untried_answer (Err fault) = Err fault
