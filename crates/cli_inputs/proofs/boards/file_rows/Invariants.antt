use Rattle.std.proofs.Common.{◌≡◌, take}
use Rattle.cli_inputs.specs.Forms.{rows_of}
use Rattle.cli_inputs.proofs.boards.file_rows.Given as goal

abbrev pub invariant-loop-place : goal.invariant-loop-place
invariant-loop-place l = l.rows.items ≡ take l.place (rows_of l.file)
