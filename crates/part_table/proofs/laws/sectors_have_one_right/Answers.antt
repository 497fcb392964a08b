-- By the lemmas on tables.
use Rattle.part_table.proofs.TableLemmas.{partition_right, permissions_of_both, other_right}
use Rattle.part_table.proofs.laws.sectors_have_one_right.Goals as goal

pub returns-clause-own : goal.returns-clause-own
returns-clause-own c = partition_right

pub returns-clause-both : goal.returns-clause-both
returns-clause-both c = permissions_of_both

pub returns-clause-others : goal.returns-clause-others
returns-clause-others c = other_right
