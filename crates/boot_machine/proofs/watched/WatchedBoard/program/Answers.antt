use Rattle.std.proofs.Common.{subst, sym}
use Rattle.boot_machine.specs.Remembering.{IsLookup}
use Rattle.boot_machine.proofs.WatchedLemmas.{programmed-lookup, programmed-outside}
use Rattle.boot_machine.proofs.watched.WatchedBoard.program.Goals as goal

pub invariant_of-self : goal.invariant_of-self
invariant_of-self g c =
    let state = g.B.Board.state in
    let old = c.self.inside.board in
    let new = c.program-done.new.self in
    record {
      digests = c.forget.ensures.knows (state old).content (state new).content c.self.invariant.digests
          (programmed-outside state g.B.Board.history old new c.args.page c.args.bytes.now _ c.program-done.ensures);
      table = subst (IsLookup (state new).content) (sym c.keep_if.ensures)
          (programmed-lookup state g.B.Board.history old new c.args.page c.args.bytes.now _
          c.leaves_slots-leaves.result c.self.inside.lookup c.leaves_slots-leaves.ensures c.program-done.ensures
          c.self.invariant.table);
    }
