-- By computing.
use Rattle.std.proofs.Common.{refl}
use Rattle.boot_rules.proofs.examples.table.a_table_is_found.Goals as goal

pub returns-clause-none : goal.returns-clause-none
returns-clause-none c = refl

pub returns-clause-only_first : goal.returns-clause-only_first
returns-clause-only_first c = refl

pub returns-clause-only_second : goal.returns-clause-only_second
returns-clause-only_second c = refl

pub returns-clause-minor : goal.returns-clause-minor
returns-clause-minor c = refl

pub returns-clause-minor_first : goal.returns-clause-minor_first
returns-clause-minor_first c = refl

pub returns-clause-major : goal.returns-clause-major
returns-clause-major c = refl

pub returns-clause-major_second : goal.returns-clause-major_second
returns-clause-major_second c = refl

pub returns-clause-tie : goal.returns-clause-tie
returns-clause-tie c = refl

pub returns-clause-singleton : goal.returns-clause-singleton
returns-clause-singleton c = refl

pub returns-clause-singletons : goal.returns-clause-singletons
returns-clause-singletons c = refl

pub returns-clause-second_singleton : goal.returns-clause-second_singleton
returns-clause-second_singleton c = refl

pub returns-clause-slots : goal.returns-clause-slots
returns-clause-slots c = refl

pub returns-clause-slot_one : goal.returns-clause-slot_one
returns-clause-slot_one c = refl
