use Rattle.std.proofs.Common.{subst, sym}
use Rattle.check_records.specs.Again.{IsAgain}
use Rattle.check_records.proofs.AgainLemmas.{again-is}
use Rattle.check_records.proofs.repeating.again_of.Goals as goal

pub returns-clause-again : goal.returns-clause-again
returns-clause-again c = λ content cpu events pattern first told facts.
    subst (λ a. IsAgain content cpu events pattern a) (sym c.again_by.ensures)
    (again-is content cpu events pattern c.args.other_table c.args.begins c.args.other_class told facts c.args.unerased first)
