use Rattle.check_records.proofs.RepeatLemmas.{short-differs}
use Rattle.check_records.proofs.examples.again.contents_that_differ_only_there.Goals as goal

pub returns : goal.returns
returns c = short-differs
