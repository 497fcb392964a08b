use Rattle.law_boot_cuts.proofs.RaisesCutLemmas.{normal-kept, raises-bytes, raises-kept, update-kept}
use Rattle.law_boot_cuts.proofs.laws.raises_cut.Goals as goal

pub returns-clause-normal : goal.returns-clause-normal
returns-clause-normal c = normal-kept

pub returns-clause-nothing_updated : goal.returns-clause-nothing_updated
returns-clause-nothing_updated c = update-kept

pub returns-clause-any_kind : goal.returns-clause-any_kind
returns-clause-any_kind c = raises-kept

pub returns-clause-bytes : goal.returns-clause-bytes
returns-clause-bytes c = raises-bytes
