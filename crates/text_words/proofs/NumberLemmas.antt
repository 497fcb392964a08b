-- The digits of a number, one after another.
use Rattle.std.proofs.Common.{ℕ, ◌^◌, ◌<◌, ◌≤◌, arith}
use Rattle.std.proofs.Math.Nat.{pow-le-pow_right}

-- the number of at most `last` digits of a base has room for one more
pub room-for_digit : (base last i n : ℕ) → 1 ≤ base → i ≤ last → n < base ^ i → n < base ^ last
room-for_digit base last i n some few small =
    let most : base ^ i ≤ base ^ last = pow-le-pow_right {n = base} some few in omega (arith, most)
