-- By computing.
use Rattle.std.proofs.Common.{refl}
use Rattle.check_data.proofs.examples.bytes_that_are_covered.Goals as goal

pub returns-clause-before_block : goal.returns-clause-before_block
returns-clause-before_block c = refl

pub returns-clause-first_of_block : goal.returns-clause-first_of_block
returns-clause-first_of_block c = refl

pub returns-clause-last_of_block : goal.returns-clause-last_of_block
returns-clause-last_of_block c = refl

pub returns-clause-behind_block : goal.returns-clause-behind_block
returns-clause-behind_block c = refl

pub returns-clause-second_block : goal.returns-clause-second_block
returns-clause-second_block c = refl

pub returns-clause-before_load : goal.returns-clause-before_load
returns-clause-before_load c = refl

pub returns-clause-first_of_load : goal.returns-clause-first_of_load
returns-clause-first_of_load c = refl

pub returns-clause-last_of_load : goal.returns-clause-last_of_load
returns-clause-last_of_load c = refl

pub returns-clause-behind_load : goal.returns-clause-behind_load
returns-clause-behind_load c = refl

pub returns-clause-empty_load : goal.returns-clause-empty_load
returns-clause-empty_load c = refl

pub returns-clause-clear_load : goal.returns-clause-clear_load
returns-clause-clear_load c = refl

pub returns-clause-second_load : goal.returns-clause-second_load
returns-clause-second_load c = refl
