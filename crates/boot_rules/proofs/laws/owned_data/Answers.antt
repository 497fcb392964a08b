use Rattle.boot_rules.proofs.DataLemmas.{data-apart, data-stays, decision-stays, table-stays}
use Rattle.boot_rules.proofs.laws.owned_data.Goals as goal

pub returns-clause-table : goal.returns-clause-table
returns-clause-table c = λ content cpu family found u second target steps d right is loaded owned targeted confined
    left.
    table-stays content cpu family found u second target right is loaded owned targeted steps d confined left

pub returns-clause-decision : goal.returns-clause-decision
returns-clause-decision c = λ content cpu family found u second target steps d e right is loaded owned targeted
    confined left.
    decision-stays content cpu family found u second target right is loaded owned targeted steps d confined left e

pub returns-clause-apart : goal.returns-clause-apart
returns-clause-apart c = λ content cpu family found u second target choice k w right is loaded owned targeted h.
    data-apart content cpu family found u second target right is loaded owned targeted choice h k w

pub returns-clause-bytes : goal.returns-clause-bytes
returns-clause-bytes c = λ content cpu family found u second target steps d choice k w right is loaded owned targeted
    confined left h at.
    data-stays content cpu family found u second target right is loaded owned targeted steps d confined left w
    (data-apart content cpu family found u second target right is loaded owned targeted choice h k w at)
