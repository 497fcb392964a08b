use Rattle.boot_session.specs.Sessions.{entered_host}
use Rattle.boot_session.proofs.PlayLemmas.{plays-last, plays-lost, plays-whole}
use Rattle.boot_session.proofs.laws.plays_do_sessions.Goals as goal

pub returns-clause-whole : goal.returns-clause-whole
returns-clause-whole c = λ m n es outcomes at stays plays on.
    plays-whole m n (entered_host m.content) es outcomes at stays plays on

pub returns-clause-lost : goal.returns-clause-lost
returns-clause-lost c = λ m n es outcomes at stays plays off.
    plays-lost m n (entered_host m.content) es outcomes at stays plays off

pub returns-clause-last : goal.returns-clause-last
returns-clause-last c = λ m n es last outcomes at stays hosted plays off.
    plays-last m n (entered_host m.content) es last hosted outcomes at stays plays off
