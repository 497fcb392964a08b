use Rattle.std.proofs.Common.{◌≡◌, ◌+◌, ◌-◌, ◌^◌, ◌<◌, sum_by}
use Rattle.std.specs.List.{range_with_len}
use Rattle.slot_caveats.specs.OtpCaveats.{voted_bit, voted_bits}
use Rattle.slot_caveats.proofs.otp.voted_bits.Given as goal

abbrev pub invariant-loop-bit : goal.invariant-loop-bit
invariant-loop-bit g l = record {
  most : l.bits < 2 ^ l.bit;
  rest : l.bits + sum_by (voted_bit (g.B.Board.state l.board).content.otp l.row)
      (range_with_len l.bit (24 - l.bit))
      ≡ voted_bits (g.B.Board.state l.board).content.otp l.row l.low;
}
