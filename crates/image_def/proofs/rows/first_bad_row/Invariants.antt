use Rattle.block_codec.specs.FirstFault.{AreSound}
use Rattle.image_def.specs.Rows.{row_fault}
use Rattle.image_def.proofs.rows.first_bad_row.Given as goal

abbrev pub invariant-loop-i : goal.invariant-loop-i
invariant-loop-i l = AreSound row_fault l.rows l.i
