-- By computing.
use Rattle.std.proofs.Common.{refl}
use Rattle.check_data.proofs.examples.bytes_that_are_loose.Goals as goal

pub returns-clause-loose : goal.returns-clause-loose
returns-clause-loose c = refl

pub returns-clause-zero_byte : goal.returns-clause-zero_byte
returns-clause-zero_byte c = refl

pub returns-clause-erased_byte : goal.returns-clause-erased_byte
returns-clause-erased_byte c = refl

pub returns-clause-near_erased : goal.returns-clause-near_erased
returns-clause-near_erased c = refl

pub returns-clause-unwritten : goal.returns-clause-unwritten
returns-clause-unwritten c = refl

pub returns-clause-other_page : goal.returns-clause-other_page
returns-clause-other_page c = refl

pub returns-clause-later_program : goal.returns-clause-later_program
returns-clause-later_program c = refl

pub returns-clause-covered : goal.returns-clause-covered
returns-clause-covered c = refl

pub returns-clause-beside : goal.returns-clause-beside
returns-clause-beside c = refl

pub returns-clause-in_block : goal.returns-clause-in_block
returns-clause-in_block c = refl
