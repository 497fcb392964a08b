use Rattle.uf2_place.proofs.ReadBackLemmas.{written-size, written-read}
use Rattle.uf2_place.proofs.laws.written_blocks_are_read.Goals as goal

pub returns-clause-size : goal.returns-clause-size
returns-clause-size c = written-size

pub returns-clause-read : goal.returns-clause-read
returns-clause-read c = written-read
