-- By computing.
use Rattle.std.proofs.Common.{refl}
use Rattle.check_records.proofs.examples.caveats.blocks_outside_the_flash.Goals as goal

pub returns-clause-inside : goal.returns-clause-inside
returns-clause-inside c = refl

pub returns-clause-behind : goal.returns-clause-behind
returns-clause-behind c = refl

pub returns-clause-across : goal.returns-clause-across
returns-clause-across c = refl

pub returns-clause-before : goal.returns-clause-before
returns-clause-before c = refl

pub returns-clause-other_flash : goal.returns-clause-other_flash
returns-clause-other_flash c = refl

pub returns-clause-no_family : goal.returns-clause-no_family
returns-clause-no_family c = refl

pub returns-clause-other_family : goal.returns-clause-other_family
returns-clause-other_family c = refl
