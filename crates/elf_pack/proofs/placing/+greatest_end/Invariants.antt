use Rattle.std.proofs.Common.{length}
use Rattle.elf_pack.proofs.placing.«+greatest_end».Given as goal

abbrev pub decreases-greatest_end : goal.decreases-greatest_end
decreases-greatest_end l = length l.segments.now
