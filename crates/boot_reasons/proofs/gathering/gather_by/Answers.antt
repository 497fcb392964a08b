use Rattle.std.proofs.Common.{subst, sym}
use Rattle.boot_reasons.specs.declared.reasons.Reasons.{Reasons}
use Rattle.boot_reasons.specs.Rules.{IsExplained}
use Rattle.boot_reasons.proofs.ReasonLemmas.{reasons-right}
use Rattle.boot_reasons.proofs.gathering.gather_by.Goals as goal

pub returns-clause-explained : goal.returns-clause-explained
returns-clause-explained g c =
    let content = (g.B.Board.state c.args.board.now).content in
    subst (λ (r : Reasons). IsExplained content c.args.cpu c.args.kind r) (sym c.reasons_of.ensures.exact)
    (reasons-right content c.args.cpu c.args.kind)
