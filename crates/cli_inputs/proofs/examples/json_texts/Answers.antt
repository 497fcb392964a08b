use Rattle.std.proofs.Common.{refl}
use Rattle.std.specs.Fmt.{digits}
use Rattle.cli_inputs.proofs.examples.json_texts.Goals as goal

pub returns-clause-unknown_part : goal.returns-clause-unknown_part
unfolding digits
returns-clause-unknown_part c = refl

pub returns-clause-value_part : goal.returns-clause-value_part
unfolding digits
returns-clause-value_part c = refl

pub returns-clause-too_long : goal.returns-clause-too_long
unfolding digits
returns-clause-too_long c = refl

pub returns-clause-permissions : goal.returns-clause-permissions
unfolding digits
returns-clause-permissions c = refl

pub returns-clause-range : goal.returns-clause-range
unfolding digits
returns-clause-range c = refl

pub returns-clause-overlap : goal.returns-clause-overlap
unfolding digits
returns-clause-overlap c = refl

pub returns-clause-link : goal.returns-clause-link
unfolding digits
returns-clause-link c = refl
