use Rattle.boot_rules.proofs.DataLemmas.{data-of-start}
use Rattle.boot_rules.proofs.laws.data_of_a_start.Goals as goal

pub returns : goal.returns
returns c = data-of-start
