use Rattle.std.proofs.Common.{◌+◌, ◌^◌, ◌<◌, ◌≤◌, ℕ, arith}
use Rattle.std.proofs.Math.Pow.{pow_mono}
use Rattle.slot_caveats.proofs.MoreLemmas.{twice}
use Rattle.slot_caveats.proofs.otp.with_bit.Goals as goal

small : (bits more bit : ℕ) → bit < 24 → bits < 2 ^ bit → more ≤ 2 ^ bit → bits + more < 4294967296
small bits more bit lt lower this =
    let most : 2 ^ bit ≤ 2 ^ 24 = pow_mono {i = bit} {j = 24} (omega (arith, lt)) in
    omega (arith, lower, this, most)

both : (bits more bit : ℕ) → bits < 2 ^ bit → more ≤ 2 ^ bit → bits + more < 2 ^ (bit + 1)
both bits more bit lower this = omega (arith, lower, this, twice bit)

pub returns-clause-most : goal.returns-clause-most
returns-clause-most c = both c.args.bits c.args.more c.args.bit c.requires.lower c.requires.this

pub overflow_add-result : goal.overflow_add-result
overflow_add-result c =
    omega (arith, small c.args.bits c.args.more c.args.bit c.requires.bit c.requires.lower c.requires.this)
