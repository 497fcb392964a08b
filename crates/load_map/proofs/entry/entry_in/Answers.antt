use Rattle.block_codec.specs.Blocks.{block_words}
use Rattle.load_map.proofs.EntryLemmas.{entry-read}
use Rattle.load_map.proofs.entry.entry_in.Goals as goal

pub returns : goal.returns
returns c =
    entry-read (block_words c.args.block.now) c.args.item.now.first _ c.args.i _ _ _ c.requires.within
    c.item_word.ensures.value c.item_word-2.ensures.value c.item_word-3.ensures.value
