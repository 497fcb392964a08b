-- By computing.
use Rattle.std.proofs.Common.{refl}
use Rattle.boot_caveats.specs.StartCaveats.{is_filled_from}
use Rattle.boot_caveats.proofs.examples.rows_of_images.Goals as goal

pub returns-clause-none : goal.returns-clause-none
unfolding is_filled_from
returns-clause-none c = refl

pub returns-clause-plain : goal.returns-clause-plain
unfolding is_filled_from
returns-clause-plain c = refl

pub returns-clause-full : goal.returns-clause-full
unfolding is_filled_from
returns-clause-full c = refl

pub returns-clause-two_rows : goal.returns-clause-two_rows
unfolding is_filled_from
returns-clause-two_rows c = refl

pub returns-clause-no_version : goal.returns-clause-no_version
unfolding is_filled_from
returns-clause-no_version c = refl

pub returns-clause-gap : goal.returns-clause-gap
unfolding is_filled_from
returns-clause-gap c = refl

pub returns-clause-alone : goal.returns-clause-alone
unfolding is_filled_from
returns-clause-alone c = refl

pub returns-clause-full_with_gap : goal.returns-clause-full_with_gap
unfolding is_filled_from
returns-clause-full_with_gap c = refl
