-- By the fields of the relation.
use Rattle.image_check.proofs.laws.what_a_record_says.Goals as goal

pub returns-clause-image : goal.returns-clause-image
returns-clause-image c = λ a w cpu bytes s r. (r.defined, r.enters)

pub returns-clause-place : goal.returns-clause-place
returns-clause-place c = λ a w cpu bytes s r. (r.window_is, r.block_is, r.place_is)

pub returns-clause-start : goal.returns-clause-start
returns-clause-start c = λ a w cpu bytes s r. (r.pc_is, r.sp_is, r.limit_is)

pub returns-clause-versions : goal.returns-clause-versions
returns-clause-versions c = λ a w cpu bytes s r. (r.version_is, r.rollback_is, r.rows_are)

pub returns-clause-trial : goal.returns-clause-trial
returns-clause-trial c = λ a w cpu bytes s r. r.trial_is
