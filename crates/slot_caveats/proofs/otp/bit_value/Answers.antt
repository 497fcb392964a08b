use Rattle.std.proofs.Common.{◌<◌, ℕ, arith}
use Rattle.slot_caveats.proofs.MoreLemmas.{shift-whole}
use Rattle.slot_caveats.proofs.otp.bit_value.Goals as goal

lower : (k : ℕ) → k < 24 → k < 25
lower k lt = omega (arith, lt)

pub returns : goal.returns
returns c = shift-whole c.args.bit (lower c.args.bit c.requires)
