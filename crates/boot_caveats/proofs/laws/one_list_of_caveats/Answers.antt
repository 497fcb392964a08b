use Rattle.boot_caveats.proofs.CaveatLemmas.{caveats-only, caveats-right}
use Rattle.boot_caveats.proofs.laws.one_list_of_caveats.Goals as goal

pub returns-clause-right : goal.returns-clause-right
returns-clause-right c = caveats-right

pub returns-clause-only : goal.returns-clause-only
returns-clause-only c = caveats-only
