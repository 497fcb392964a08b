use Rattle.std.proofs.Common.{refl}
use Rattle.script_words.proofs.examples.blocks.pages.Goals as goal

pub returns-clause-one_less : goal.returns-clause-one_less
returns-clause-one_less c = refl

pub returns-clause-whole : goal.returns-clause-whole
returns-clause-whole c = refl

pub returns-clause-one_more : goal.returns-clause-one_more
returns-clause-one_more c = refl
