-- By computing.
use Rattle.std.proofs.Common.{refl}
use Rattle.check_records.proofs.examples.caveats.blocks_of_gated_downloads.Goals as goal

pub returns-clause-taken : goal.returns-clause-taken
returns-clause-taken c = refl

pub returns-clause-plain : goal.returns-clause-plain
returns-clause-plain c = refl

pub returns-clause-done : goal.returns-clause-done
returns-clause-done c = refl

pub returns-clause-done_plain : goal.returns-clause-done_plain
returns-clause-done_plain c = refl

pub returns-clause-again : goal.returns-clause-again
returns-clause-again c = refl

pub returns-clause-skipped : goal.returns-clause-skipped
returns-clause-skipped c = refl

pub returns-clause-refused : goal.returns-clause-refused
returns-clause-refused c = refl
