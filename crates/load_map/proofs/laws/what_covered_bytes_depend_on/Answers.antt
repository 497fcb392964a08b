use Rattle.load_map.proofs.AgreementLemmas.{same-covered, same-digest}
use Rattle.load_map.proofs.laws.what_covered_bytes_depend_on.Goals as goal

pub returns-clause-text : goal.returns-clause-text
returns-clause-text c = same-covered

pub returns-clause-digest : goal.returns-clause-digest
returns-clause-digest c = same-digest
