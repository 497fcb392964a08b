use Rattle.std.proofs.Common.{length}
use Rattle.elf_pack.proofs.judging.«+segment_overlap_fault».Given as goal

abbrev pub decreases-segment_overlap_fault : goal.decreases-segment_overlap_fault
decreases-segment_overlap_fault l = length l.segments.now
