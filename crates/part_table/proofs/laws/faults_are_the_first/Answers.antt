-- By the lemmas on rules.
use Rattle.part_table.proofs.RuleLemmas.{first_to_rules, rules_to_first, none_to_rules, rules_to_none}
use Rattle.part_table.proofs.laws.faults_are_the_first.Goals as goal

pub returns-clause-first : goal.returns-clause-first
returns-clause-first c parts n m f = (first_to_rules parts n m f, rules_to_first parts n m f)

pub returns-clause-none : goal.returns-clause-none
returns-clause-none c parts n m = (none_to_rules parts n m, rules_to_none parts n m)
