use Rattle.std.proofs.Common.{refl}
use Rattle.check_records.proofs.examples.records.downloads_that_are_done.Goals as goal

pub returns-clause-begun : goal.returns-clause-begun
returns-clause-begun c = refl

pub returns-clause-at_once : goal.returns-clause-at_once
returns-clause-at_once c = refl

pub returns-clause-lost : goal.returns-clause-lost
returns-clause-lost c = refl

pub returns-clause-later : goal.returns-clause-later
returns-clause-later c = refl

pub returns-clause-lost_later : goal.returns-clause-lost_later
returns-clause-lost_later c = refl

pub returns-clause-dropped : goal.returns-clause-dropped
returns-clause-dropped c = refl

pub returns-clause-taken_over : goal.returns-clause-taken_over
returns-clause-taken_over c = refl
