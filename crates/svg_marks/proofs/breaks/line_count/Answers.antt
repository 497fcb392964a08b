use Rattle.std.proofs.Common.{◌∙◌}
use Rattle.svg_marks.proofs.BreakLemmas.{count-step, next-step, one-few}
use Rattle.svg_marks.proofs.breaks.line_count.Goals as goal

pub loop-number-preserved : goal.loop-number-preserved
loop-number-preserved c =
    let bytes = c.as_bytes-bytes.result.now in
    let t = c.is_broken-broken.result in
    record {
      exact = count-step c.loop-number.column c.loop-number.blank bytes c.loop-number.count c.loop-number.number t _ _
          c.loop-number-test.true c.is_broken-broken.ensures c.next_column-column.ensures c.one_more-count.ensures
          ∙ c.loop-number.invariant.exact;
      column = next-step _ _ _ t _ c.is_broken-broken.ensures c.next_column-column.ensures;
      most = rw c.one_more-count.ensures
          (one-few t c.loop-number.count c.loop-number.number c.loop-number.invariant.most);
    }
