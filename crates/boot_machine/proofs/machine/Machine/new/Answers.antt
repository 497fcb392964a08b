use Rattle.std.proofs.Common.{refl}
use Rattle.boot_machine.proofs.BeginningLemmas.{steady-new}
use Rattle.boot_machine.proofs.machine.Machine.new.Goals as goal

pub invariant_of-result : goal.invariant_of-result
invariant_of-result g c = steady-new g.B.Board.state _ refl c.requires.none c.requires.leases
