use Rattle.std.proofs.Common.{refl}
use Rattle.std.specs.Fmt.{digits}
use Rattle.boot_script.specs.Judging.{first_error}
use Rattle.cli_inputs.proofs.examples.forms_of_scripts.Goals as goal

pub returns-clause-ended : goal.returns-clause-ended
unfolding first_error
returns-clause-ended c = refl

pub returns-clause-behind : goal.returns-clause-behind
unfolding first_error
returns-clause-behind c = refl

pub returns-clause-empty : goal.returns-clause-empty
unfolding first_error digits
returns-clause-empty c = refl

pub returns-clause-short : goal.returns-clause-short
unfolding first_error digits
returns-clause-short c = refl

pub returns-clause-kind : goal.returns-clause-kind
unfolding first_error digits
returns-clause-kind c = refl

pub returns-clause-pattern : goal.returns-clause-pattern
unfolding first_error digits
returns-clause-pattern c = refl
