use Rattle.check_records.proofs.RepeatLemmas.{cut-again, cut-differs-only, same-end}
use Rattle.check_records.proofs.laws.steps_that_are_done_again_come_to_one_end.Goals as goal

pub returns-clause-one : goal.returns-clause-one
returns-clause-one c = same-end

pub returns-clause-cut : goal.returns-clause-cut
returns-clause-cut c = cut-differs-only

pub returns-clause-again : goal.returns-clause-again
returns-clause-again c = cut-again
