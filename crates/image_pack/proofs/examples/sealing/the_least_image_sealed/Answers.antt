use Rattle.image_pack.proofs.LeastImageLemmas.{least-text}
use Rattle.image_pack.proofs.examples.sealing.the_least_image_sealed.Goals as goal

pub returns : goal.returns
returns c = least-text
