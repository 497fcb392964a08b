use Rattle.std.proofs.Common.{◌≡◌, drop}
use Rattle.cli_inputs.specs.Forms.{wide_from, rows_of}
use Rattle.cli_inputs.proofs.boards.wide_row.Given as goal

abbrev pub invariant-loop-place : goal.invariant-loop-place
invariant-loop-place l = wide_from 0 (rows_of l.file) ≡ wide_from l.place (drop l.place (rows_of l.file))
