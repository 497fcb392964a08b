use Rattle.std.proofs.Common.{◌∙◌}
use Rattle.svg_marks.proofs.BreakLemmas.{next-step, text-step}
use Rattle.svg_marks.proofs.lines.push_words.Goals as goal

pub loop-number-preserved : goal.loop-number-preserved
loop-number-preserved c =
    let bytes = c.as_bytes-bytes.result.now in
    let t = c.is_broken-broken.result in
    record {
      exact = text-step c.args.x c.loop-number.column c.loop-number.blank c.loop-number.opened bytes
          c.loop-number.out.items c.loop-number.number t _ _ _ _ c.loop-number-test.true c.is_broken-broken.ensures
          c.next_column-column.ensures c.is_further-opened.ensures c.in_ok-push_break.ensures
          c.in_ok-push_escaped_byte.ensures ∙ c.loop-number.invariant.exact;
      column = next-step _ _ _ t _ c.is_broken-broken.ensures c.next_column-column.ensures;
    }
