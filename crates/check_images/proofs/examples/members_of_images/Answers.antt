use Rattle.std.proofs.Common.{refl}
use Rattle.check_images.proofs.examples.members_of_images.Goals as goal

pub returns-clause-first : goal.returns-clause-first
returns-clause-first c = refl

pub returns-clause-before : goal.returns-clause-before
returns-clause-before c = refl

pub returns-clause-behind : goal.returns-clause-behind
returns-clause-behind c = refl

pub returns-clause-starts : goal.returns-clause-starts
returns-clause-starts c = refl

pub returns-clause-other : goal.returns-clause-other
returns-clause-other c = refl

pub returns-clause-beside : goal.returns-clause-beside
returns-clause-beside c = refl

pub returns-clause-falls : goal.returns-clause-falls
returns-clause-falls c = refl
