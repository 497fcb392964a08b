use Rattle.std.proofs.Common.{◌≡◌, ◌∙◌, ap, subst}
use Rattle.pico_board.specs.MemBoard.{state_of}
use Rattle.boot_tape.specs.Moving.{moves_from}
use Rattle.check_counts.specs.Counted.{AreCounted}
use Rattle.cli_check.specs.Finding.{loose_of}
use Rattle.cli_check.proofs.TraceLemmas.{loose-told}
use Rattle.cli_check.proofs.finding.cuts_found.Goals as goal

pub returns-clause-counted : goal.returns-clause-counted
returns-clause-counted c = λ events is.
    let content = (state_of c.args.board.now).content in
    let cpu = c.args.cpu in
    let pattern = c.args.pattern.now in
    let loose : c.deref-4.result.now ≡ loose_of content cpu events =
    c.deref-4.ensures.value
    ∙ loose-told content cpu events c.args.trace.now is c.decide-finished.result (moves_from c.deref-2.result.now)
    c.in_ok-loose.loose.items c.decide-finished.ensures.function (ap moves_from c.deref-2.ensures.value)
    c.in_ok-loose.ensures.exact in
    subst (λ ws. AreCounted content cpu events pattern ws (loose_of content cpu events) c.in_ok-cuts.cuts)
    c.deref-3.ensures.value
    (subst (λ ls. AreCounted content cpu events pattern c.deref-3.result.now ls c.in_ok-cuts.cuts) loose
    (c.in_ok-cuts.ensures events is))
