use Rattle.std.proofs.Common.{◌≡◌, ◌+◌, ◌-◌}
use Rattle.cli_otp.specs.declared.writing.TheConstants.{FIRST_SECURE_ROW, SECURE_ROWS}
use Rattle.cli_otp.specs.Setting.{first_bits, rows_set}
use Rattle.cli_otp.proofs.writing.set_secure_rows.Given as goal

-- the rows that are left give what all of them give from the start
abbrev pub invariant-loop-place : goal.invariant-loop-place
invariant-loop-place l =
    rows_set l.words.items (first_bits (FIRST_SECURE_ROW + l.place) (SECURE_ROWS - l.place))
    ≡ rows_set l.fn.words.items (first_bits FIRST_SECURE_ROW SECURE_ROWS)
