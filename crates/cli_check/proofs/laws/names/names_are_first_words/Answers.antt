use Rattle.cli_check.proofs.NameLemmas.{held-named, named, skipped-named}
use Rattle.cli_check.proofs.laws.names.names_are_first_words.Goals as goal

pub returns-clause-contents : goal.returns-clause-contents
returns-clause-contents c = named

pub returns-clause-held : goal.returns-clause-held
returns-clause-held c = held-named

pub returns-clause-skipped : goal.returns-clause-skipped
returns-clause-skipped c = skipped-named
