use Rattle.std.proofs.Common.{inl, inr, refl}
use Rattle.check_laws.specs.declared.found.SessionFound.TheVariants as found
use Rattle.check_laws.specs.declared.found.Reason.TheVariants as reasons
use Rattle.check_laws.proofs.FirstLemmas.{one-session-of}
use Rattle.check_laws.proofs.LawLemmas.{one-steps-law}
use Rattle.check_laws.proofs.laws.the_first_that_holds_is_told.Goals as goal

pub returns-clause-script : goal.returns-clause-script
returns-clause-script c = λ content cpu events law right writes other is.
    one-session-of content cpu events law (found.Open reasons.Script) right is (inr (writes, inl (other, refl)))

pub returns-clause-windows : goal.returns-clause-windows
returns-clause-windows c = λ content cpu steps law right none is.
    one-steps-law content cpu steps right law (found.Open reasons.Windows) is none

pub returns-clause-running : goal.returns-clause-running
returns-clause-running c = λ content cpu steps law w right keeps starts is.
    one-steps-law content cpu steps right law (found.Open reasons.Running) is (w, keeps, starts)

pub returns-clause-table : goal.returns-clause-table
returns-clause-table c = λ content cpu steps law w right keeps none table is.
    one-steps-law content cpu steps right law (found.Open reasons.Table) is (w, keeps, none, table)

pub returns-clause-order : goal.returns-clause-order
returns-clause-order c = λ content cpu steps law w right holds none gated staged is.
    one-steps-law content cpu steps right law (found.Open reasons.Order) is (w, holds, none, staged, gated)

pub returns-clause-staged : goal.returns-clause-staged
returns-clause-staged c = λ content cpu steps law w right holds staged is.
    one-steps-law content cpu steps right law (found.Staged w) is (holds, staged)

pub returns-clause-gated : goal.returns-clause-gated
returns-clause-gated c = λ content cpu steps law w right holds gated staged is.
    one-steps-law content cpu steps right law (found.Gated w) is (holds, gated, staged)

pub returns-clause-confined : goal.returns-clause-confined
returns-clause-confined c = λ content cpu steps law w right holds table gated staged is.
    one-steps-law content cpu steps right law (found.Confined w) is (holds, table, gated, staged)
