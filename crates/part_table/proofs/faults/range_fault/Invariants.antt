use Rattle.block_codec.specs.FirstFault.{AreSound}
use Rattle.part_table.specs.Faults.{judge_range}
use Rattle.part_table.proofs.faults.range_fault.Given as goal

abbrev pub invariant-loop-i : goal.invariant-loop-i
invariant-loop-i l = AreSound (judge_range l.sectors l.first) l.parts l.i
