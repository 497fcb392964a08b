use Rattle.std.proofs.Common.{subst, sym}
use Rattle.image_check.specs.Digests.{Knows}
use Rattle.boot_machine.proofs.watched.Watched.take_digests.Goals as goal

pub invariant_of-self : goal.invariant_of-self
invariant_of-self g c =
    let content = (g.B.Board.state c.self.inside.board).content in record {
      digests = subst (λ d. Knows d content) (sym c.replace.ensures.after) (c.none.ensures.knows content);
      table = c.self.invariant.table;
    }
