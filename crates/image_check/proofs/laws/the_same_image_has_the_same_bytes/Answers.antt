use Rattle.image_check.proofs.SameLemmas.{same-block, same-storage}
use Rattle.image_check.proofs.laws.the_same_image_has_the_same_bytes.Goals as goal

pub returns-clause-blocks : goal.returns-clause-blocks
returns-clause-blocks c = same-block

pub returns-clause-storage : goal.returns-clause-storage
returns-clause-storage c = same-storage
