use Rattle.boot_cuts.proofs.ClassLemmas.{answers-are, one-answers}
use Rattle.boot_cuts.proofs.laws.answers_are_judged.Goals as goal

pub returns-clause-are : goal.returns-clause-are
returns-clause-are c = answers-are

pub returns-clause-only : goal.returns-clause-only
returns-clause-only c = one-answers
