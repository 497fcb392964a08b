use Rattle.std.proofs.Common.{sym, ◌∙◌}
use Rattle.svg_sweep.proofs.RunLemmas.{spans-more}
use Rattle.svg_sweep.proofs.spans.push_spans.Goals as goal

pub loop-number-preserved : goal.loop-number-preserved
loop-number-preserved c =
    sym (spans-more _ _ _ _ _ _ c.loop-number-test.true c.in_ok-push_span.ensures) ∙ c.loop-number.invariant
