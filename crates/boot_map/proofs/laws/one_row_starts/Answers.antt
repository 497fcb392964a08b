use Rattle.boot_map.proofs.StartLemmas.{no-start, start-once, start-row}
use Rattle.boot_map.proofs.laws.one_row_starts.Goals as goal

pub returns-clause-one : goal.returns-clause-one
returns-clause-one a = λ c cpu m j k x y right is one two x_starts y_starts.
    start-once c cpu m right is j k x y one two x_starts y_starts

pub returns-clause-start : goal.returns-clause-start
returns-clause-start a = λ c cpu m choice right is e. start-row c cpu m right is choice e

pub returns-clause-none : goal.returns-clause-none
returns-clause-none a = λ c cpu m fall k r right is e at. no-start c cpu m right is fall e k r at
