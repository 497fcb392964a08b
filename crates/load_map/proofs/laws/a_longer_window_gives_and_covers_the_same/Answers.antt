use Rattle.load_map.proofs.LengtheningLemmas.{covered-longer, digest-longer, byte-longer, word-longer}
use Rattle.load_map.proofs.laws.a_longer_window_gives_and_covers_the_same.Goals as goal

pub returns-clause-text : goal.returns-clause-text
returns-clause-text c = covered-longer

pub returns-clause-digest : goal.returns-clause-digest
returns-clause-digest c = digest-longer

pub returns-clause-byte : goal.returns-clause-byte
returns-clause-byte c = byte-longer

pub returns-clause-word : goal.returns-clause-word
returns-clause-word c = word-longer
