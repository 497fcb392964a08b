use Rattle.cli_map.proofs.MapWorkLemmas.{map-works}
use Rattle.cli_map.proofs.laws.works_are_right.Goals as goal

pub returns : goal.returns
returns c = map-works
