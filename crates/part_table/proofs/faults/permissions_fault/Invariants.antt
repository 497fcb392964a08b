use Rattle.block_codec.specs.FirstFault.{AreSound}
use Rattle.part_table.specs.Faults.{judge_permissions}
use Rattle.part_table.proofs.faults.permissions_fault.Given as goal

abbrev pub invariant-loop-i : goal.invariant-loop-i
invariant-loop-i l = AreSound judge_permissions l.parts l.i
