use Rattle.boot_session.proofs.OutsideLaws.{outside-stays}
use Rattle.boot_session.proofs.laws.partitions_in_no_unit_decide_nothing.Goals as goal

pub returns : goal.returns
returns c = outside-stays
