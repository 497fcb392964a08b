use Rattle.uf2_place.proofs.SetBitLemmas.{marked-set}
use Rattle.uf2_place.proofs.bits.set_bit.Goals as goal

pub returns : goal.returns
returns c = λ j. marked-set c.args.words.now c.args.i j c.requires
