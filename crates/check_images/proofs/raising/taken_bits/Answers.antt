use Rattle.std.specs.Int.Count.{ones-le}
use Rattle.check_images.proofs.raising.taken_bits.Goals as goal

pub overflow_sub-majority : goal.overflow_sub-majority
overflow_sub-majority c = ones-le 24 c.majority.result c.majority.ensures.bits
