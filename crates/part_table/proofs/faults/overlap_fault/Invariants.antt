use Rattle.block_codec.specs.FirstFault.{AreSound}
use Rattle.part_table.specs.Faults.{judge_overlap}
use Rattle.part_table.proofs.faults.overlap_fault.Given as goal

abbrev pub invariant-loop-i : goal.invariant-loop-i
invariant-loop-i l = AreSound (judge_overlap l.parts) l.parts l.i
