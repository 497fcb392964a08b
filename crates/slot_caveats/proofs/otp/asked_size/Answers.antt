use Rattle.std.proofs.Common.{◌≡◌, ◌*◌, ◌^◌, ◌%◌, ◌≤◌, ℕ, arith}
use Rattle.std.proofs.Math.Pow.{pow_mono}
use Rattle.slot_caveats.proofs.otp.asked_size.Goals as goal

size-small : (n : ℕ) → n ≤ 11 → 4096 * 2 ^ n % 4294967296 ≡ 4096 * 2 ^ n
size-small n small =
    let low : 2 ^ n ≤ 2 ^ 11 = pow_mono {i = n} {j = 11} small in omega arith

size-most : (n : ℕ) → n ≤ 11 → 4096 * 2 ^ n % 4294967296 ≤ 8388608
size-most n small =
    let low : 2 ^ n ≤ 2 ^ 11 = pow_mono {i = n} {j = 11} small in omega arith

pub returns-clause-value : goal.returns-clause-value
returns-clause-value c = size-small c.args.number c.requires

pub returns-clause-most : goal.returns-clause-most
returns-clause-most c = size-most c.args.number c.requires
