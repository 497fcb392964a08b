use Rattle.load_map.proofs.GivenLaws.{word-given, word-none}
use Rattle.load_map.proofs.laws.the_word_at_an_address.Goals as goal

pub returns-clause-given : goal.returns-clause-given
returns-clause-given c = word-given

pub returns-clause-none : goal.returns-clause-none
returns-clause-none c = word-none
