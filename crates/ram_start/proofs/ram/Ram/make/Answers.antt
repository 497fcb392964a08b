use Rattle.std.proofs.Common.{refl}
use Rattle.ram_start.proofs.RamLemmas.{zeros-are, zeros-right}
use Rattle.ram_start.proofs.ram.Ram.make.Goals as goal

pub invariant_of-result : goal.invariant_of-result
invariant_of-result c = zeros-right 532480 c.in_ok-zeros.field-0.items refl c.in_ok-zeros.ensures

pub returns : goal.returns
returns c = zeros-are 532480 c.in_ok-zeros.field-0.items refl c.in_ok-zeros.ensures
