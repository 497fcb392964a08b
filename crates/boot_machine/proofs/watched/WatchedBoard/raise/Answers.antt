use Rattle.std.proofs.Common.{subst, sym}
use Rattle.image_check.proofs.DigestLemmas.{knows-same}
use Rattle.boot_machine.specs.Remembering.{IsLookup}
use Rattle.boot_machine.proofs.WatchedLemmas.{raised-flash}
use Rattle.boot_machine.proofs.watched.WatchedBoard.raise.Goals as goal

pub invariant_of-self : goal.invariant_of-self
invariant_of-self g c =
    let state = g.B.Board.state in
    let old = c.self.inside.board in
    let new = c.raise.new.self in
    record {
      digests = knows-same (state old).content (state new).content c.self.inside.digests
          (raised-flash state g.B.Board.history old new c.args.row c.args.bits _ c.raise.ensures)
          c.self.invariant.digests;
      table = subst (IsLookup (state new).content) (sym c.keep_if.ensures) tt;
    }
