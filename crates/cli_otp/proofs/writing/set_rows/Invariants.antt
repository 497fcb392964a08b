use Rattle.std.proofs.Common.{◌≡◌, drop}
use Rattle.cli_otp.specs.Setting.{rows_set}
use Rattle.cli_otp.proofs.writing.set_rows.Given as goal

abbrev pub invariant-loop-pair : goal.invariant-loop-pair
invariant-loop-pair l = rows_set l.words.items (drop l.pair-index l.pairs) ≡ rows_set l.fn.words.items l.pairs
