use Rattle.std.proofs.Common.{◌≡◌, ◌+◌, ◌-◌, ◌≤◌, count_by}
use Rattle.std.specs.List.{range_with_len}
use Rattle.slot_caveats.specs.OtpCaveats.{copies_from, has_row_bit}
use Rattle.slot_caveats.proofs.otp.copies_with.Given as goal

abbrev pub invariant-loop-copy : goal.invariant-loop-copy
invariant-loop-copy g l = record {
  most : l.count ≤ l.copy;
  rest : l.count + count_by (has_row_bit (g.B.Board.state l.board).content.otp l.bit)
      (range_with_len (l.row + l.copy) (8 - l.copy))
      ≡ count_by (has_row_bit (g.B.Board.state l.board).content.otp l.bit) (copies_from l.row);
}
