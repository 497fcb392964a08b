use Rattle.cli_inputs.proofs.ContentLemmas.{formed-content, given}
use Rattle.cli_inputs.proofs.laws.every_content_is_given.Goals as goal

pub returns-clause-content : goal.returns-clause-content
returns-clause-content c = formed-content

pub returns-clause-every : goal.returns-clause-every
returns-clause-every c = given
