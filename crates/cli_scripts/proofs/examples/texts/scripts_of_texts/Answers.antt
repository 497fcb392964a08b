use Rattle.std.proofs.Common.{refl}
use Rattle.std.specs.Fmt.{digits}
use Rattle.cli_scripts.proofs.examples.texts.scripts_of_texts.Goals as goal

pub returns-clause-two : goal.returns-clause-two
unfolding digits
returns-clause-two c = refl

pub returns-clause-none : goal.returns-clause-none
unfolding digits
returns-clause-none c = refl

pub returns-clause-wrong : goal.returns-clause-wrong
unfolding digits
returns-clause-wrong c = refl

pub returns-clause-behind : goal.returns-clause-behind
unfolding digits
returns-clause-behind c = refl

pub returns-clause-word : goal.returns-clause-word
unfolding digits
returns-clause-word c = refl

pub returns-clause-words : goal.returns-clause-words
unfolding digits
returns-clause-words c = refl

pub returns-clause-value : goal.returns-clause-value
unfolding digits
returns-clause-value c = refl

pub returns-clause-image : goal.returns-clause-image
unfolding digits
returns-clause-image c = refl

pub returns-clause-many : goal.returns-clause-many
unfolding digits
returns-clause-many c = refl

pub returns-clause-long : goal.returns-clause-long
unfolding digits
returns-clause-long c = refl

pub returns-clause-told : goal.returns-clause-told
unfolding digits
returns-clause-told c = refl
