use Rattle.std.proofs.Common.{◌≡◌, ℕ, ◌+◌, ◌<◌, List, length, take, arith, ap, subst, get_or}
use Rattle.std.specs.Int.Count.{ones, ones-le}
use Rattle.std.proofs.lemmas.List.Sums.{sum_by_more}
use Rattle.otp_roll.specs.Rows.{majority, count}
use Rattle.otp_roll.proofs.rows.count.Goals as goal

count-more : (otp rows items : List ℕ) (i raised bits : ℕ) → items ≡ rows → i < length items
    → raised ≡ count otp (take i rows)
    → bits ≡ majority otp (get_or items i 0) → raised + ones bits ≡ count otp (take (i + 1) rows)
count-more otp rows items i raised bits is within so_far here =
    subst (λ xs. raised ≡ count otp (take i xs) → raised + ones bits ≡ count otp (take (i + 1) xs)) is one so_far
  where
    one : raised ≡ count otp (take i items) → raised + ones bits ≡ count otp (take (i + 1) items)
    one before = omega (arith, before, sum_by_more (λ r. ones (majority otp r)) items i 0 within, ap ones here)

pub loop-row-preserved : goal.loop-row-preserved
loop-row-preserved g c = record {
  so_far = count-more _ _ _ _ _ _ c.deref-row-items.ensures.0 c.loop-row-test.true c.loop-row.invariant.so_far
      c.majority.ensures.value;
  most = omega (arith, c.loop-row.invariant.most, ones-le 24 c.majority.result c.majority.ensures.bits);
}
