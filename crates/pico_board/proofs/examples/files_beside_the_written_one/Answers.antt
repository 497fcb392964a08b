-- By the file of the other name.
use Rattle.pico_board.proofs.StoreExampleLemmas.{not_changed, not_lost, not_made}
use Rattle.pico_board.proofs.examples.files_beside_the_written_one.Goals as goal

pub returns-clause-lost : goal.returns-clause-lost
returns-clause-lost c = not_lost 1

pub returns-clause-changed : goal.returns-clause-changed
returns-clause-changed c = not_changed 1

pub returns-clause-made : goal.returns-clause-made
returns-clause-made c = not_made
