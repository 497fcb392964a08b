use Rattle.std.proofs.Common.{◌≡◌, take}
use Rattle.block_codec.specs.Words.{bytes_of}
use Rattle.cli_otp.proofs.writing.row_bytes.Given as goal

-- the rows so far are written
abbrev pub invariant-loop-row : goal.invariant-loop-row
invariant-loop-row l = l.bytes.items ≡ bytes_of (take l.row-index l.rows)
