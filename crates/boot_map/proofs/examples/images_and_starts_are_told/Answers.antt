-- By computing.
use Rattle.std.proofs.Common.{refl}
use Rattle.boot_map.proofs.examples.images_and_starts_are_told.Goals as goal

pub returns-clause-partition : goal.returns-clause-partition
returns-clause-partition c = refl

pub returns-clause-table_slot : goal.returns-clause-table_slot
returns-clause-table_slot c = refl

pub returns-clause-slot : goal.returns-clause-slot
returns-clause-slot c = refl

pub returns-clause-whole : goal.returns-clause-whole
returns-clause-whole c = refl

pub returns-clause-free : goal.returns-clause-free
returns-clause-free c = refl

pub returns-clause-free_of_table : goal.returns-clause-free_of_table
returns-clause-free_of_table c = refl

pub returns-clause-started : goal.returns-clause-started
returns-clause-started c = refl

pub returns-clause-elsewhere : goal.returns-clause-elsewhere
returns-clause-elsewhere c = refl

pub returns-clause-longer : goal.returns-clause-longer
returns-clause-longer c = refl

pub returns-clause-nothing : goal.returns-clause-nothing
returns-clause-nothing c = refl
