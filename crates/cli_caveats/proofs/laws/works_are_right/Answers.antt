use Rattle.cli_caveats.proofs.CaveatWorkLemmas.{caveats-works}
use Rattle.cli_caveats.proofs.laws.works_are_right.Goals as goal

pub returns : goal.returns
returns c = caveats-works
