use Rattle.load_map.proofs.AgreementLemmas.{same-byte, same-word}
use Rattle.load_map.proofs.laws.what_given_bytes_depend_on.Goals as goal

pub returns-clause-byte : goal.returns-clause-byte
returns-clause-byte c = same-byte

pub returns-clause-word : goal.returns-clause-word
returns-clause-word c = same-word
