use Rattle.std.proofs.Common.{refl}
use Rattle.check_records.proofs.examples.records.the_lone_block_begins_none.Goals as goal

pub returns-clause-lone : goal.returns-clause-lone
returns-clause-lone c = refl

pub returns-clause-second : goal.returns-clause-second
returns-clause-second c = refl

pub returns-clause-of_one : goal.returns-clause-of_one
returns-clause-of_one c = refl

pub returns-clause-of_three : goal.returns-clause-of_three
returns-clause-of_three c = refl

pub returns-clause-rp2040 : goal.returns-clause-rp2040
returns-clause-rp2040 c = refl

pub returns-clause-data : goal.returns-clause-data
returns-clause-data c = refl

pub returns-clause-begins : goal.returns-clause-begins
returns-clause-begins c = refl

pub returns-clause-begins_none : goal.returns-clause-begins_none
returns-clause-begins_none c = refl

pub returns-clause-continued : goal.returns-clause-continued
returns-clause-continued c = refl

pub returns-clause-stays : goal.returns-clause-stays
returns-clause-stays c = refl
