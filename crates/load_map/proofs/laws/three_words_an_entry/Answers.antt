use Rattle.load_map.proofs.SoundLoadLemmas.{length-entries}
use Rattle.load_map.proofs.EntryLemmas.{entry-here}
use Rattle.load_map.proofs.laws.three_words_an_entry.Goals as goal

pub returns-clause-count : goal.returns-clause-count
returns-clause-count c = λ words item. length-entries words _ _

pub returns-clause-words : goal.returns-clause-words
returns-clause-words c = λ words item i lt. entry-here words _ _ i lt
