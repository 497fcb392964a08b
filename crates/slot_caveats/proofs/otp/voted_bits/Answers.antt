use Rattle.std.proofs.Common.{◌≡◌, ◌+◌, ◌-◌, ◌^◌, ◌<◌, ◌≤◌, ℕ, zero, suc, arith, pow-suc, ap, sym, ◌∙◌, sum_by}
use Rattle.std.specs.List.{range_with_len}
use Rattle.slot_caveats.specs.OtpCaveats.{voted_bit, voted_bits}
use Rattle.slot_caveats.proofs.MoreLemmas.{summed-more}
use Rattle.slot_caveats.proofs.otp.voted_bits.Goals as goal

none-more : (f : ℕ → ℕ) (bits total k : ℕ) → 24 ≤ k → bits + sum_by f (range_with_len k (24 - k)) ≡ total
    → bits ≡ total
none-more f bits total k high is =
    let none : 24 - k ≡ 0 = omega (arith, high) in
    (let e : bits ≡ bits + 0 = omega arith in e)
    ∙ (ap (λ n. bits + sum_by f (range_with_len k n)) (sym none) ∙ is)

some : (k : ℕ) → 0 < 2 ^ k
some zero = omega arith
some (suc k) = let more = some k in omega (arith, more, pow-suc 2 k)

from-none : (n : ℕ) → 0 + n ≡ n
from-none n = omega arith

pub loop-bit-init : goal.loop-bit-init
unfolding voted_bits
loop-bit-init g c = record {
  most = some c.args.low;
  rest = from-none (sum_by (voted_bit (g.B.Board.state c.args.board.now).content.otp c.args.row)
      (range_with_len c.args.low (24 - c.args.low)));
}

pub loop-bit-preserved : goal.loop-bit-preserved
loop-bit-preserved g c =
    let f = voted_bit (g.B.Board.state c.args.board.now).content.otp c.args.row in
    record {
      most = c.with_bit-bits.ensures.most;
      rest = ap (λ n. n + sum_by f (range_with_len (c.loop-bit.bit + 1) (24 - (c.loop-bit.bit + 1))))
          (c.with_bit-bits.ensures.value ∙ ap (λ v. c.loop-bit.bits + v) c.voted_bit.ensures.value)
          ∙ summed-more f c.loop-bit.bit 24 c.loop-bit.bits _ c.loop-bit-test.true c.loop-bit.invariant.rest;
    }

pub returns : goal.returns
returns g c =
    none-more (voted_bit (g.B.Board.state c.args.board.now).content.otp c.args.row) c.loop-bit.bits _ c.loop-bit.bit
    c.loop-bit-test.false c.loop-bit.invariant.rest
