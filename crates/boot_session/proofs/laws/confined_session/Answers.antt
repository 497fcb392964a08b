use Rattle.boot_session.proofs.ConfinedLaws.{confined-decision, confined-session, confined-start, confined-table}
use Rattle.boot_session.proofs.laws.confined_session.Goals as goal

pub returns-clause-decision : goal.returns-clause-decision
returns-clause-decision c = λ content w cpu steps d e right boot_member confined leaves table former elsewhere.
    confined-decision content w cpu steps d e right boot_member confined leaves table former elsewhere

pub returns-clause-start : goal.returns-clause-start
returns-clause-start c = λ content w cpu steps d choice right boot_member confined leaves table former elsewhere.
    confined-start content w cpu steps d choice right boot_member confined leaves table former elsewhere

pub returns-clause-table : goal.returns-clause-table
returns-clause-table c = λ content w cpu steps d found right boot_member confined leaves is.
    confined-table content w cpu steps d found right boot_member confined leaves is

pub returns-clause-session : goal.returns-clause-session
returns-clause-session c = confined-session
