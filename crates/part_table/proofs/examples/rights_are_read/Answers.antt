-- By computing.
use Rattle.std.proofs.Common.{refl}
use Rattle.part_table.proofs.examples.rights_are_read.Goals as goal

pub returns-clause-read : goal.returns-clause-read
returns-clause-read c = refl

pub returns-clause-first : goal.returns-clause-first
returns-clause-first c = refl

pub returns-clause-last : goal.returns-clause-last
returns-clause-last c = refl

pub returns-clause-other : goal.returns-clause-other
returns-clause-other c = refl

pub returns-clause-end : goal.returns-clause-end
returns-clause-end c = refl

pub returns-clause-before : goal.returns-clause-before
returns-clause-before c = refl

pub returns-clause-behind : goal.returns-clause-behind
returns-clause-behind c = refl

pub returns-clause-unread : goal.returns-clause-unread
returns-clause-unread c = refl

pub returns-clause-written : goal.returns-clause-written
returns-clause-written c = refl

pub returns-clause-unpartitioned : goal.returns-clause-unpartitioned
returns-clause-unpartitioned c = refl

pub returns-clause-all : goal.returns-clause-all
returns-clause-all c = refl

pub returns-clause-by : goal.returns-clause-by
returns-clause-by c = refl
