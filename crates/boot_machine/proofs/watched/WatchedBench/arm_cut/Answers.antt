use Rattle.std.proofs.Common.{refl}
use Rattle.boot_machine.proofs.WatchedLemmas.{supplied-remembers}
use Rattle.boot_machine.proofs.watched.WatchedBench.arm_cut.Goals as goal

pub invariant_of-self : goal.invariant_of-self
invariant_of-self g c =
    supplied-remembers g.B.Board.state g.B.Board.history c.self.inside.board c.arm_cut.new.self _ c.self.inside.digests
    c.self.inside.lookup refl c.arm_cut.ensures c.self.invariant
