use Rattle.std.proofs.Common.{◌≡◌, ◌+◌, ◌-◌, ◌≤◌, count_by}
use Rattle.std.specs.List.{range_with_len}
use Rattle.slot_caveats.specs.OtpCaveats.{has_lowest_bit, secure_rows}
use Rattle.slot_caveats.proofs.otp.secure_count.Given as goal

abbrev pub invariant-loop-place : goal.invariant-loop-place
invariant-loop-place g l = record {
  most : l.count ≤ l.place;
  rest : l.count + count_by (has_lowest_bit (g.B.Board.state l.board).content.otp)
      (range_with_len (64 + l.place) (8 - l.place))
      ≡ count_by (has_lowest_bit (g.B.Board.state l.board).content.otp) secure_rows;
}
