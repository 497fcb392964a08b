use Rattle.uf2_place.proofs.ReadOfLemmas.{read-of}
use Rattle.uf2_place.proofs.laws.what_a_block_is_read_of.Goals as goal

pub returns : goal.returns
returns c = read-of
