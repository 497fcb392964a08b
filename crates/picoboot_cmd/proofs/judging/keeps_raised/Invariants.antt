-- The words from here on keep the raised bits exactly where all of them do.
use Rattle.std.proofs.Common.{◌≡◌, ◌+◌, drop}
use Rattle.block_codec.specs.Words.{words_of}
use Rattle.picoboot_cmd.specs.Rows.{keeps_raised}
use Rattle.picoboot_cmd.proofs.judging.keeps_raised.Given as goal

abbrev pub invariant-loop-k : goal.invariant-loop-k
invariant-loop-k g l =
    keeps_raised (g.B.Board.state l.board).content.otp (l.row + l.k) (drop l.k (words_of l.payload))
    ≡ keeps_raised (g.B.Board.state l.board).content.otp l.row (words_of l.payload)
