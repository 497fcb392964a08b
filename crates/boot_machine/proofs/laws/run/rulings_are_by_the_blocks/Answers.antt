use Rattle.std.proofs.Common.{sym}
use Rattle.boot_machine.proofs.BlockLemmas.{ruling-alike}
use Rattle.boot_machine.proofs.laws.run.rulings_are_by_the_blocks.Goals as goal

pub returns : goal.returns
returns c = λ n table content cpu d pool placing b carries.
    sym (ruling-alike n table content cpu d pool placing b carries)
