use Rattle.std.proofs.Common.{arith}
use Rattle.script_words.proofs.FindLemmas.{values-next}
use Rattle.script_words.proofs.finding.read_values.Goals as goal

pub loop-word-preserved : goal.loop-word-preserved
loop-word-preserved c =
    let says = rw c.in-Some.is at c.in_ok-value.ensures in record {
      count = omega (arith, c.in_ok-push-in-Some.ensures.len, c.loop-word.invariant.count);
      so_far = values-next c.args.row c.loop-word.word-index c.len.result c.form_at.result c.args.words.now _
          c.loop-word.values.items c.push.new.self.items c.in-Some.value c.loop-word-test.true c.form_at.ensures
          (omega (arith, c.len.ensures, c.loop-word.invariant.count)) says c.in_ok-push-in-Some.ensures.items
          c.loop-word.invariant.so_far;
    }
