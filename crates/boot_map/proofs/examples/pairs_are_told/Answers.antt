-- By computing.
use Rattle.std.proofs.Common.{refl}
use Rattle.boot_map.proofs.examples.pairs_are_told.Goals as goal

pub returns-clause-first : goal.returns-clause-first
returns-clause-first c = refl

pub returns-clause-second : goal.returns-clause-second
returns-clause-second c = refl

pub returns-clause-owned : goal.returns-clause-owned
returns-clause-owned c = refl

pub returns-clause-owned_second : goal.returns-clause-owned_second
returns-clause-owned_second c = refl

pub returns-clause-ignored : goal.returns-clause-ignored
returns-clause-ignored c = refl

pub returns-clause-ignored_second : goal.returns-clause-ignored_second
returns-clause-ignored_second c = refl

pub returns-clause-turned : goal.returns-clause-turned
returns-clause-turned c = refl

pub returns-clause-turned_second : goal.returns-clause-turned_second
returns-clause-turned_second c = refl

pub returns-clause-alone : goal.returns-clause-alone
returns-clause-alone c = refl

pub returns-clause-slot : goal.returns-clause-slot
returns-clause-slot c = refl

pub returns-clause-other_slot : goal.returns-clause-other_slot
returns-clause-other_slot c = refl

pub returns-clause-table_slot : goal.returns-clause-table_slot
returns-clause-table_slot c = refl

pub returns-clause-other_table_slot : goal.returns-clause-other_table_slot
returns-clause-other_table_slot c = refl

pub returns-clause-whole : goal.returns-clause-whole
returns-clause-whole c = refl

pub returns-clause-free : goal.returns-clause-free
returns-clause-free c = refl

pub returns-clause-free_of_table : goal.returns-clause-free_of_table
returns-clause-free_of_table c = refl
