use Rattle.check_require.proofs.VerdictLemmas.{none-passed, passed-none}
use Rattle.check_require.proofs.laws.an_update_passes_exactly_where_nothing_is_unmet.Goals as goal

pub returns : goal.returns
returns c = λ ask r. (passed-none ask r, none-passed ask r)
