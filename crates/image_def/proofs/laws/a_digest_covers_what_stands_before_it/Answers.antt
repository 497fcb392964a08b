-- By what the item says of the words.
use Rattle.std.proofs.Common.{arith}
use Rattle.image_def.proofs.laws.a_digest_covers_what_stands_before_it.Goals as goal

pub returns : goal.returns
returns c = λ b words digest item more is. absurd (omega (arith, more, is.behind))
