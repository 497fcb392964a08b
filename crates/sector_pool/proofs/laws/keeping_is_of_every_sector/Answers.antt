-- By the fields of the relations.
use Rattle.sector_pool.proofs.laws.keeping_is_of_every_sector.Goals as goal

pub returns-clause-numbers : goal.returns-clause-numbers
returns-clause-numbers c = λ old new differs keeps. differs keeps.same

pub returns-clause-bytes : goal.returns-clause-bytes
returns-clause-bytes c = λ old new j out differs keeps. differs (keeps.kept j out)

pub returns-clause-numbers_but : goal.returns-clause-numbers_but
returns-clause-numbers_but c = λ k old new differs keeps. differs keeps.same

pub returns-clause-bytes_but : goal.returns-clause-bytes_but
returns-clause-bytes_but c = λ k old new j other out differs keeps. differs (keeps.kept j other out)
