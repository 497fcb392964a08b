use Rattle.block_codec.specs.Blocks.{block_words}
use Rattle.load_map.specs.Loads.{entries_of, is_absolute}
use Rattle.load_map.specs.Reading.{setting_of}
use Rattle.load_map.proofs.EntryLemmas.{stored-answer}
use Rattle.load_map.proofs.reading.read_map_at.Goals as goal

pub returns-clause-stored : goal.returns-clause-stored
returns-clause-stored c =
    let b = c.args.block.now in
    let map = c.item-map.result in
    stored-answer (setting_of c.args.base c.args.in_place c.args.window_len b map) b (is_absolute map)
    (entries_of (block_words b) map)
    c.read_entries.result (rw c.at.ensures.value at c.read_entries.ensures)
