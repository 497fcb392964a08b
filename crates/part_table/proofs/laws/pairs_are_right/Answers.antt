-- By the lemmas on links.
use Rattle.part_table.proofs.LinkLemmas.{first_of_pair, one_second, second_is_found, second_found}
use Rattle.part_table.proofs.laws.pairs_are_right.Goals as goal

pub returns-clause-first : goal.returns-clause-first
returns-clause-first c = first_of_pair

pub returns-clause-one : goal.returns-clause-one
returns-clause-one c = one_second

pub returns-clause-found : goal.returns-clause-found
returns-clause-found c = second_is_found

pub returns-clause-second : goal.returns-clause-second
returns-clause-second c = second_found
