use Rattle.boot_tape.proofs.NoteLemmas.{doers-count, own-moves, own-whole}
use Rattle.boot_tape.proofs.laws.own_moves_come_first.Goals as goal

pub returns-clause-first : goal.returns-clause-first
returns-clause-first c = own-moves

pub returns-clause-whole : goal.returns-clause-whole
returns-clause-whole c = own-whole

pub returns-clause-aligned : goal.returns-clause-aligned
returns-clause-aligned c = doers-count
