-- By the lemmas on a partition beside the units.
use Rattle.boot_rules.proofs.BesideLemmas.{beside-decision, beside-table}
use Rattle.boot_rules.proofs.laws.a_partition_beside_the_boot_units.Goals as goal

pub returns-clause-table : goal.returns-clause-table
returns-clause-table c = λ content found i steps d right is within confined left.
    beside-table content found i right is within steps d confined left

pub returns-clause-decision : goal.returns-clause-decision
returns-clause-decision c = λ content cpu found i steps d e right is within outside confined left.
    beside-decision content found i right is within steps d confined left cpu outside e
