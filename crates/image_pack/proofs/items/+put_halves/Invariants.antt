use Rattle.std.proofs.Common.{length}
use Rattle.image_pack.proofs.items.«+put_halves».Given as goal

abbrev pub decreases-put_halves : goal.decreases-put_halves
decreases-put_halves l = length l.halves.now
