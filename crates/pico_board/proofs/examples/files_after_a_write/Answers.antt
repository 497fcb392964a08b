-- By the file of the other name.
use Rattle.pico_board.proofs.StoreExampleLemmas.{not_changed, not_lost}
use Rattle.pico_board.proofs.examples.files_after_a_write.Goals as goal

pub returns-clause-ok_lost : goal.returns-clause-ok_lost
returns-clause-ok_lost c = λ shows. not_lost 7 shows.ok.others

pub returns-clause-failed_lost : goal.returns-clause-failed_lost
returns-clause-failed_lost c = λ fail shows. not_lost 7 shows.err

pub returns-clause-failed_changed : goal.returns-clause-failed_changed
returns-clause-failed_changed c = λ fail shows. not_changed 7 shows.err
