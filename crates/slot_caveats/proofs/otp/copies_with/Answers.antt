use Rattle.std.proofs.Common.{◌≡◌, ◌+◌, ℕ, Bool, cond, arith, ap, sym, ◌∙◌, count_by}
use Rattle.std.specs.List.{range_with_len}
use Rattle.part_table.specs.Fields.{has_bit}
use Rattle.slot_caveats.specs.OtpCaveats.{has_row_bit}
use Rattle.slot_caveats.proofs.MoreLemmas.{counted-more}
use Rattle.slot_caveats.proofs.otp.copies_with.Goals.{then-has_bit, else-has_bit}
use Rattle.slot_caveats.proofs.otp.copies_with.Goals as goal

none-more : (count : ℕ) → count ≡ count + 0
none-more count = omega arith

from-first : (p : ℕ → Bool) (row : ℕ)
    → 0 + count_by p (range_with_len (row + 0) 8) ≡ count_by p (range_with_len row 8)
from-first p row =
    (let e : (n : ℕ) → 0 + n ≡ n = λ n. omega arith in e (count_by p (range_with_len (row + 0) 8)))
    ∙ ap (λ r. count_by p (range_with_len r 8)) (let e : row + 0 ≡ row = omega arith in e)

pub loop-copy-init : goal.loop-copy-init
loop-copy-init g c = record {
  most = omega arith;
  rest = from-first (has_row_bit (g.B.Board.state c.args.board.now).content.otp c.args.bit) c.args.row;
}

pub loop-copy-preserved : goal.loop-copy-preserved
loop-copy-preserved g c =
    let otp = (g.B.Board.state c.args.board.now).content.otp in
    let test : has_row_bit otp c.args.bit (c.args.row + c.loop-copy.copy) ≡ c.has_bit.result =
    sym (c.has_bit.ensures ∙ ap (λ v. has_bit v c.args.bit) c.otp_read.ensures.value) in
    let now : c.if-has_bit.count
    ≡ c.loop-copy.count + cond (has_row_bit otp c.args.bit (c.args.row + c.loop-copy.copy)) 1 0 =
    elim c.if-has_bit.branch [
      | then-has_bit w ↦ w.count-is
          ∙ ap (λ (t : Bool). c.loop-copy.count + cond t 1 0) (sym (test ∙ w.if-has_bit.true))
      | else-has_bit w ↦ w.count-is ∙ (none-more c.loop-copy.count
          ∙ ap (λ (t : Bool). c.loop-copy.count + cond t 1 0) (sym (test ∙ w.if-has_bit.false)))
    ] in
    record {
      most = elim c.if-has_bit.branch [
        | then-has_bit w ↦ omega (arith, w.count-is, c.loop-copy.invariant.most)
        | else-has_bit w ↦ omega (arith, w.count-is, c.loop-copy.invariant.most)
      ];
      rest = counted-more (has_row_bit otp c.args.bit) c.args.row c.loop-copy.copy 8 c.loop-copy.count
          c.if-has_bit.count _ c.loop-copy-test.true c.loop-copy.invariant.rest now;
    }
