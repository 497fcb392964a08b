-- By computing.
use Rattle.std.proofs.Common.{refl}
use Rattle.slot_choice.proofs.examples.versions_are_compared.Goals as goal

pub returns-clause-minor : goal.returns-clause-minor
returns-clause-minor c = refl

pub returns-clause-minor_first : goal.returns-clause-minor_first
returns-clause-minor_first c = refl

pub returns-clause-major : goal.returns-clause-major
returns-clause-major c = refl

pub returns-clause-major_second : goal.returns-clause-major_second
returns-clause-major_second c = refl

pub returns-clause-tie : goal.returns-clause-tie
returns-clause-tie c = refl

pub returns-clause-alone : goal.returns-clause-alone
returns-clause-alone c = refl

pub returns-clause-rivalless : goal.returns-clause-rivalless
returns-clause-rivalless c = refl

pub returns-clause-none : goal.returns-clause-none
returns-clause-none c = refl
